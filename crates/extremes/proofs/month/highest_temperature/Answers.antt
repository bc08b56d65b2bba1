use Rattle.extremes.specs.Kinds.{warmer, as_high}
use Rattle.extremes.proofs.OnMonths.{of_month}
use Rattle.extremes.proofs.month.highest_temperature.Goals as goal

pub returns : goal.returns
returns g c =
    let month = c.args.month in
    let days = c.length.ensures in
    of_month as_high warmer (g.S.DaySource.grid month.source.now) c.args.element month.calendar c.length.result days.value days.least days.most _ c.find_extreme.ensures
