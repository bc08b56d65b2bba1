use Rattle.std.proofs.Common.{length, ap}
use Rattle.normals.proofs.OnRegister.{held_none}
use Rattle.normals.proofs.register.Register.new.Goals as goal

pub returns-clause-holds : goal.returns-clause-holds
returns-clause-holds c = held_none _ _ _ c.new.ensures.rows (ap length c.new.ensures.lines)
