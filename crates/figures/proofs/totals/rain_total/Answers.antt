use Rattle.std.proofs.Common.{◌≡◌, sym, ◌∙◌, rules, subst}
use Rattle.std.specs.Option.{option_map}
use Rattle.station.specs.declared.element.Element.TheVariants.{Rain}
use Rattle.rounding.specs.Rain.{rain_code}
use Rattle.columns.specs.Columns.{column}
use Rattle.station.specs.Months.{days_of}
use Rattle.figures.specs.Totals.{RainOf}
use Rattle.figures.proofs.OnTotals.{rain_value, rain_law}
use Rattle.figures.proofs.totals.rain_total.Goals as goal

pub returns : goal.returns
returns g c =
    let grid = g.S.DaySource.grid c.args.month.source.now in
    let f = column grid Rain in
    let d = days_of c.args.month.calendar in
    let code : c.map.result ≡ option_map rain_code c.complete_total.result = search rules in
    let value = code ∙ rain_value f d _ c.complete_total.ensures in
    record { value = value; law = subst (RainOf f d) (sym value) (rain_law grid (g.met.S.DaySource.valid c.args.month.source.now) d) }
