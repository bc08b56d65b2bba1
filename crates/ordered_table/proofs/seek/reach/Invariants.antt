use Rattle.std.proofs.Common.{length, ◌-◌}
use Rattle.ordered_table.proofs.seek.reach.Given as goal

abbrev pub decreases-loop-count : goal.decreases-loop-count
decreases-loop-count g l = length l.rows - l.count
