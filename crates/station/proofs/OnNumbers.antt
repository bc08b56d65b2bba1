-- What a search by number finds. Assumes nothing.
use Rattle.std.proofs.Common.{◌≡◌, ℕ, Bool, true, false, cond, List, [], ◌∷◌, ℤ, pos, Some, sym, refl, ap, ◌∙◌, arith}
use Rattle.std.proofs.lemmas.Int.{ints}
use Rattle.std.proofs.lemmas.Bool.Decides.{nat_tests}
use Rattle.station.specs.Numbers.{same, first_bearing}

pub same_true : (a b : ℤ) → same a b ≡ true → a ≡ b
same_true a b h = grind (arith, nat_tests, ints)

-- what is found bears the number
pub first_bears : {X : Type 0} (number : X → ℕ) (n : ℤ) (xs : List X) (x : X) → first_bearing number n xs ≡ Some x → n ≡ pos (number x)
first_bears number n [] x h = absurd (grind arith)
first_bears {X} number n (y ∷ rest) x h = split (λ k. first_bears number n rest x k) (same (pos (number y)) n) refl h
  where
    split : (first_bearing number n rest ≡ Some x → n ≡ pos (number x)) → (t : Bool) → same (pos (number y)) n ≡ t →
        cond t (Some y) (first_bearing number n rest) ≡ Some x → n ≡ pos (number x)
    split later true e k = let z : y ≡ x = cc in sym (same_true (pos (number y)) n e) ∙ ap (λ i. pos (number i)) z
    split later false e k = later k
