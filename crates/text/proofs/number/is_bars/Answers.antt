use Rattle.std.proofs.Common.{eqb, rules, tests, arith}
use Rattle.std.proofs.lemmas.Iterator.{YieldsList-from_slice}
use Rattle.std.proofs.lemmas.Iterator.Search.{all_from_yields_List}
use Rattle.std.proofs.lemmas.Bool.Decides.{nat_tests}
use Rattle.text.specs.Digits.{bar}
use Rattle.text.proofs.OnDigits.{bars_undo}
use Rattle.text.proofs.number.is_bars.Goals as goal

pub returns-then-not-is_empty : goal.returns-then-not-is_empty
returns-then-not-is_empty c =
    let all = all_from_yields_List (λ b. eqb b bar) _ _ c.all.result c.all.ensures.ran (YieldsList-from_slice c.args.bytes.now cc) (λ x b q k. search (rules, tests)) in
    record { value = grind (arith, nat_tests); law = bars_undo }

pub returns-else-not-is_empty-clause-law : goal.returns-else-not-is_empty-clause-law
returns-else-not-is_empty-clause-law c = bars_undo
