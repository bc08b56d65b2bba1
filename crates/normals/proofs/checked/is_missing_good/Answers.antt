use Rattle.std.proofs.Common.{rules}
use Rattle.normals.specs.Normals.{missing_good}
use Rattle.normals.proofs.checked.is_missing_good.Goals as goal

pub returns-else-is_two_digits-5 : goal.returns-else-is_two_digits-5
unfolding missing_good
returns-else-is_two_digits-5 c = search rules
