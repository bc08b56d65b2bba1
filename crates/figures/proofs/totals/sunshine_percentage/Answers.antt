use Rattle.std.proofs.Common.{◌≡◌, sym, ap, ◌∙◌, rules, subst}
use Rattle.std.specs.Option.{option_map}
use Rattle.station.specs.declared.element.Element.TheVariants.{Sunshine}
use Rattle.rounding.specs.Sunshine.{percentage_of}
use Rattle.columns.specs.Columns.{column}
use Rattle.station.specs.Months.{days_of}
use Rattle.figures.specs.Totals.{percentage_shown, PercentageShown}
use Rattle.figures.proofs.OnTotals.{percentage_value, percentage_law}
use Rattle.figures.proofs.totals.sunshine_percentage.Goals as goal

pub returns : goal.returns
returns g c =
    let f = column (g.S.DaySource.grid c.args.month.source.now) Sunshine in
    let d = days_of c.args.month.calendar in
    let hours = c.in_ok-hours in
    let part : c.map.result ≡ option_map (λ t. percentage_of t c.in_ok-hours.hours) c.complete_total.result = search rules in
    let value = part ∙ percentage_value f d _ c.complete_total.ensures c.in_ok-hours.hours ∙ ap (percentage_shown f d) (sym c.in_ok-hours.was) in
    record { value = value; law = subst (PercentageShown f d c.args.normal) (sym value) (percentage_law f d c.args.normal) }
