use Rattle.extremes.specs.Kinds.{colder, as_low}
use Rattle.extremes.proofs.OnMonths.{of_month}
use Rattle.extremes.proofs.month.lowest_temperature.Goals as goal

pub returns : goal.returns
returns g c =
    let month = c.args.month in
    let days = c.length.ensures in
    of_month as_low colder (g.S.DaySource.grid month.source.now) c.args.element month.calendar c.length.result days.value days.least days.most _ c.find_extreme.ensures
