use Rattle.std.proofs.Common.{◌≡◌, ◌+◌, ◌-◌, sym, ◌∙◌, arith, rules}
use Rattle.columns.specs.Columns.{column}
use Rattle.columns.specs.Counts.{passes_on, days_when}
use Rattle.columns.proofs.OnColumns.{days_none, days_most, day_counted, day_passed_over, counted}
use Rattle.columns.proofs.count.days_when.Goals as goal
use Rattle.columns.proofs.count.days_when.Goals.{then-is_some_and, else-is_some_and}

pub loop-day-init : goal.loop-day-init
loop-day-init g c = (days_none _ _, omega arith, omega arith)

pub overflow_add-days : goal.overflow_add-days
overflow_add-days g c = omega (arith, days_most (g.C.Condition.passes c.args.condition) (column (g.S.DaySource.grid c.args.source.now) c.args.element) (c.loop-day.day - 1))

pub loop-day-preserved : goal.loop-day-preserved
loop-day-preserved g c =
    let f = column (g.S.DaySource.grid c.args.source.now) c.args.element in
    let passes = g.C.Condition.passes c.args.condition in
    let day = c.loop-day.day in
    let met : c.is_some_and.result ≡ passes_on passes c.reading.result = search rules in
    let back : day + 1 - 1 ≡ day = omega arith in
    rw back (elim c.if-is_some_and.branch [
      | then-is_some_and w ↦ (w.days-is ∙ day_counted passes f day _ (omega arith) c.loop-day.invariant.0 _ c.reading.ensures.value (sym met ∙ w.if-is_some_and.true), omega arith, omega arith)
      | else-is_some_and w ↦ (w.days-is ∙ day_passed_over passes f day _ (omega arith) c.loop-day.invariant.0 _ c.reading.ensures.value (sym met ∙ w.if-is_some_and.false), omega arith, omega arith)
    ])

pub returns-clause-law : goal.returns-clause-law
returns-clause-law g c = counted _ _ c.args.last _ (search rules)

pub returns-after-is_some_and : goal.returns-after-is_some_and
returns-after-is_some_and g c =
    let f = column (g.S.DaySource.grid c.args.source.now) c.args.element in
    let passes = g.C.Condition.passes c.args.condition in
    let day = c.loop-day.day in
    let met : c.is_some_and.result ≡ passes_on passes c.reading.result = search rules in
    let whole : day ≡ c.args.last = omega arith in
    let all : c.if-is_some_and.days ≡ days_when passes f c.args.last = rw (sym whole) (elim c.if-is_some_and.branch [
      | then-is_some_and w ↦ w.days-is ∙ day_counted passes f day _ (omega arith) c.loop-day.invariant.0 _ c.reading.ensures.value (sym met ∙ w.if-is_some_and.true)
      | else-is_some_and w ↦ w.days-is ∙ day_passed_over passes f day _ (omega arith) c.loop-day.invariant.0 _ c.reading.ensures.value (sym met ∙ w.if-is_some_and.false)
    ]) in
    record { value = all; law = counted passes f c.args.last _ all; same = search rules }
