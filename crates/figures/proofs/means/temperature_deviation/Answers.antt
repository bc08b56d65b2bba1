use Rattle.std.proofs.Common.{◌≡◌, sym, ◌∙◌, subst, w32, SFits, rules}
use Rattle.std.proofs.lemmas.Int.{to_z-of_z}
use Rattle.station.specs.declared.element.Element.TheVariants.{MeanTemperature}
use Rattle.rounding.specs.Deviations.{deviation_of}
use Rattle.columns.specs.Columns.{column}
use Rattle.station.specs.Months.{days_of}
use Rattle.station.proofs.OnCalendar.{length_most}
use Rattle.figures.specs.Means.{DeviationOf}
use Rattle.figures.proofs.OnMeans.{month_least, deviation_hidden, deviation_there, deviation_law}
use Rattle.figures.proofs.means.temperature_deviation.Goals as goal

pub returns-then-tally-gt-MOST_EMPTY-clause-value : goal.returns-then-tally-gt-MOST_EMPTY-clause-value
returns-then-tally-gt-MOST_EMPTY-clause-value g c = deviation_hidden _ _ c.tally-tally.result c.tally-tally.ensures.value c.if-tally-gt-MOST_EMPTY.true

pub returns : goal.returns
returns g c =
    let grid = g.S.DaySource.grid c.args.month.source.now in
    let f = column grid MeanTemperature in
    let m = c.args.month.calendar in
    let t = c.tally-tally.result in
    let fits : SFits w32 t.sum = search rules in
    let root : c.deviation.result ≡ deviation_of t.present t.sum t.squares = rw c.from.ensures at (simp to_z-of_z at c.deviation.ensures.value) in
    let value = root ∙ deviation_there f (days_of m) t c.tally-tally.ensures.value c.if-tally-gt-MOST_EMPTY.false in
    let law = deviation_law grid (g.met.S.DaySource.valid c.args.month.source.now) (days_of m) (month_least m) (length_most m.year m.month) in
    record { value = value; law = subst (DeviationOf f (days_of m)) (sym value) law }
