use Rattle.std.proofs.Common.{◌≡◌, sym, ◌∙◌, subst, arith, w32, SFits, rules}
use Rattle.std.proofs.lemmas.Int.{to_z-of_z}
use Rattle.rounding.specs.Means.{mean_of}
use Rattle.columns.specs.Columns.{column}
use Rattle.station.specs.Months.{days_of}
use Rattle.figures.specs.Means.{MeanOf}
use Rattle.figures.proofs.OnMeans.{month_least, mean_hidden, mean_there, mean_law}
use Rattle.figures.proofs.OnExamples.{examples}
use Rattle.figures.proofs.means.mean.Goals as goal

pub returns-then-tally-gt-MOST_EMPTY-clause-value : goal.returns-then-tally-gt-MOST_EMPTY-clause-value
returns-then-tally-gt-MOST_EMPTY-clause-value g c = mean_hidden _ _ c.tally-tally.result c.tally-tally.ensures.value c.if-tally-gt-MOST_EMPTY.true

pub returns-then-tally-gt-MOST_EMPTY-clause-examples : goal.returns-then-tally-gt-MOST_EMPTY-clause-examples
returns-then-tally-gt-MOST_EMPTY-clause-examples g c = examples

pub returns : goal.returns
returns g c =
    let grid = g.S.DaySource.grid c.args.month.source.now in
    let f = column grid c.args.element in
    let m = c.args.month.calendar in
    let t = c.tally-tally.result in
    let fits : SFits w32 t.sum = search rules in
    let nearest : c.nearest.result ≡ mean_of t.sum t.present = rw c.from.ensures at (simp to_z-of_z at c.nearest.ensures.value) in
    let value = nearest ∙ mean_there f (days_of m) t c.tally-tally.ensures.value c.if-tally-gt-MOST_EMPTY.false in
    let law = mean_law grid c.args.element (g.met.S.DaySource.valid c.args.month.source.now) (days_of m) (omega (arith, month_least m)) in
    record { value = value; law = subst (MeanOf c.args.element f (days_of m)) (sym value) law; examples = examples }
