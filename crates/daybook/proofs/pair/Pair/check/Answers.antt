use Rattle.std.proofs.Common.{rules}
use Rattle.daybook.specs.Calls.{pair_refusal}
use Rattle.daybook.proofs.pair.Pair.check.Goals as goal

pub returns-in_err-day : goal.returns-in_err-day
unfolding pair_refusal
returns-in_err-day c = search rules

pub returns-in_err-element : goal.returns-in_err-element
unfolding pair_refusal
returns-in_err-element c = search rules

pub returns : goal.returns
unfolding pair_refusal
returns c = search rules
