use Rattle.station.specs.declared.element.Element.TheVariants.{Rain}
use Rattle.extremes.specs.Kinds.{rainier, as_rain}
use Rattle.extremes.proofs.OnMonths.{of_month}
use Rattle.extremes.proofs.month.greatest_rain.Goals as goal

pub returns : goal.returns
returns g c =
    let month = c.args.month in
    let days = c.length.ensures in
    of_month as_rain rainier (g.S.DaySource.grid month.source.now) Rain month.calendar c.length.result days.value days.least days.most _ c.find_extreme.ensures
