use Rattle.std.proofs.Common.{◌≡◌, ◌+◌, ◌-◌, ◌<◌, ◌≤◌}
use Rattle.columns.specs.Columns.{column}
use Rattle.columns.specs.Counts.{days_when}
use Rattle.columns.proofs.count.days_when.Given as goal

-- the days before this one are counted
abbrev pub invariant-loop-day : goal.invariant-loop-day
invariant-loop-day g l = (l.days ≡ days_when (g.C.Condition.passes l.condition) (column (g.S.DaySource.grid l.source) l.element) (l.day - 1)) × (0 < l.day) × (l.day ≤ l.last + 1)
