use Rattle.std.proofs.Common.{◌+◌, ◌-◌, ◌≤◌, Some}
use Rattle.extremes.specs.Tops.{Right}
use Rattle.extremes.proofs.search.find_extreme.Given as goal

-- the extreme of the days before this one
abbrev pub invariant-loop-day : goal.invariant-loop-day
invariant-loop-day g l = record {
  so_far : Right g.R.Item.Ranked.over (g.R.Readings.at l.readings) (l.day - 1) (Some l.top);
  within : l.day ≤ l.last + 1;
}
