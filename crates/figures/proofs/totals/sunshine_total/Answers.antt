use Rattle.std.proofs.Common.{◌≡◌, sym, ◌∙◌, rules, subst}
use Rattle.std.specs.Option.{option_map}
use Rattle.station.specs.declared.element.Element.TheVariants.{Sunshine}
use Rattle.rounding.specs.Sunshine.{whole_hours}
use Rattle.station.proofs.OnCalendar.{length_most}
use Rattle.columns.specs.Columns.{column}
use Rattle.station.specs.Months.{days_of}
use Rattle.figures.specs.Totals.{SunshineOf}
use Rattle.figures.proofs.OnTotals.{sunshine_value, sunshine_law}
use Rattle.figures.proofs.totals.sunshine_total.Goals as goal

pub returns : goal.returns
returns g c =
    let grid = g.S.DaySource.grid c.args.month.source.now in
    let f = column grid Sunshine in
    let m = c.args.month.calendar in
    let hours : c.map.result ≡ option_map whole_hours c.complete_total.result = search rules in
    let value = hours ∙ sunshine_value f (days_of m) _ c.complete_total.ensures in
    record { value = value; law = subst (SunshineOf f (days_of m)) (sym value) (sunshine_law grid (g.met.S.DaySource.valid c.args.month.source.now) (days_of m) (length_most m.year m.month)) }
