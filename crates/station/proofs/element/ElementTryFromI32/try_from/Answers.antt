use Rattle.std.proofs.Common.{◌≡◌, ℕ, suc, ◌<◌, true, false, pos, ◌-ℤ◌, nat_abs, sym, arith, rules, w32, to_z, of_z}
use Rattle.std.proofs.lemmas.Int.{ints}
use Rattle.std.proofs.lemmas.Bool.Decides.{nat_tests}
use Rattle.station.specs.Numbers.{within}
use Rattle.station.proofs.OnElements.{numbered_none, numbered_at, number_bounds, found_element}
use Rattle.station.proofs.element.ElementTryFromI32.try_from.Goals as goal

pub returns : goal.returns
returns c =
    let f = c.ranges.number in
    let there : within (pos 1) (pos 12) c.args.number ≡ true = search rules in
    let k : ℕ = nat_abs (to_z w32 (of_z w32 (to_z w32 (of_z w32 c.args.number) -ℤ pos 1))) in
    let e : c.args.number ≡ pos (suc k) = grind (arith, ints, nat_tests) in
    let l : k < 12 = grind (arith, ints, nat_tests) in
    found_element _ _ (numbered_at c.args.number k e l)

pub returns-then-not-contains : goal.returns-then-not-contains
returns-then-not-contains c =
    let f = c.ranges.number in
    let there : within (pos 1) (pos 12) c.args.number ≡ false = search rules in
    found_element _ _ (sym (numbered_none c.args.number (λ x e. let bounds = number_bounds x in grind (arith, ints, nat_tests))))
