use Rattle.std.proofs.Common.{refl}
use Rattle.ordered_table.specs.Order.{rising}
use Rattle.ordered_table.proofs.table.Table.new.Goals as goal

pub invariant_of-result-clause-rises : goal.invariant_of-result-clause-rises
unfolding rising
invariant_of-result-clause-rises g c = refl
