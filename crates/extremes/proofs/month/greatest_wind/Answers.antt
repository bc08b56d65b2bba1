use Rattle.station.specs.declared.element.Element.TheVariants.{Wind}
use Rattle.extremes.specs.Kinds.{windier, as_wind}
use Rattle.extremes.proofs.OnMonths.{of_month}
use Rattle.extremes.proofs.month.greatest_wind.Goals as goal

pub returns : goal.returns
returns g c =
    let month = c.args.month in
    let days = c.length.ensures in
    of_month (as_wind c.args.indicator) windier (g.S.DaySource.grid month.source.now) Wind month.calendar c.length.result days.value days.least days.most _ c.find_extreme.ensures
