use Rattle.std.proofs.Common.{rules}
use Rattle.normals.specs.Register.{record_refusal}
use Rattle.normals.proofs.register.check_row.Goals as goal

pub returns-in_err-key : goal.returns-in_err-key
unfolding record_refusal
returns-in_err-key c = search rules

pub returns-in_err-entry : goal.returns-in_err-entry
unfolding record_refusal
returns-in_err-entry c = search rules

pub returns : goal.returns
unfolding record_refusal
returns c = search rules
