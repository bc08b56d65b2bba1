-- How large the sums of a month's values get. Assumes nothing.
use Rattle.std.proofs.Common.{◌≡◌, ℕ, zero, suc, ◌+◌, true, cond, ℤ, pos, ◌+ℤ◌, ◌*ℤ◌, ◌≤ℤ◌, is_some, Some, None, Option, refl, zero-add, one-add, arith}
use lib.IntN.{zero-*ℤ, suc_ℤ-*ℤ}
use lib.Signed.{le_z}
use Rattle.std.proofs.lemmas.Int.{ints}
use Rattle.std.proofs.lemmas.Bool.{and_parts}
use Rattle.std.proofs.lemmas.Bool.Decides.{nat_tests}
use Rattle.station.specs.declared.element.Element.{Element}
use Rattle.station.specs.Elements.{lowest_of, highest_of, takes}
use Rattle.daybook.specs.Grid.{Grid, Valid}
use Rattle.columns.specs.Columns.{Column, column, amount, present, sum}
use Rattle.columns.proofs.OnColumns.{value_takes}

-- ---- the sum lies between as many lowest values and as many highest
below_step : (n : ℕ) (s low : ℤ) (o : Option ℤ) → ((v : ℤ) → Some v ≡ o → low ≤ℤ v) → (pos n *ℤ low) ≤ℤ s → (pos (cond (is_some o) 1 0 + n) *ℤ low) ≤ℤ (s +ℤ amount o)
below_step n s low None h k = rw (zero-add n) (omega (arith, ints))
below_step n s low (Some v) h k =
    let here = h v refl in
    let more : pos (suc n) *ℤ low ≡ pos n *ℤ low +ℤ low = suc_ℤ-*ℤ (pos n) low in
    rw (one-add n, more) (omega (arith, ints))

pub sum_from : (low : ℤ) (f : Column) → ((d : ℕ) (v : ℤ) → Some v ≡ f d → low ≤ℤ v) → (d : ℕ) → (pos (present f d) *ℤ low) ≤ℤ sum f d
unfolding present sum
sum_from low f h zero = rw (zero-*ℤ low) (omega (arith, ints))
sum_from low f h (suc d) = below_step (present f d) (sum f d) low (f (suc d)) (h (suc d)) (sum_from low f h d)

above_step : (n : ℕ) (s high : ℤ) (o : Option ℤ) → ((v : ℤ) → Some v ≡ o → v ≤ℤ high) → s ≤ℤ (pos n *ℤ high) → (s +ℤ amount o) ≤ℤ (pos (cond (is_some o) 1 0 + n) *ℤ high)
above_step n s high None h k = rw (zero-add n) (omega (arith, ints))
above_step n s high (Some v) h k =
    let here = h v refl in
    let more : pos (suc n) *ℤ high ≡ pos n *ℤ high +ℤ high = suc_ℤ-*ℤ (pos n) high in
    rw (one-add n, more) (omega (arith, ints))

pub sum_to : (high : ℤ) (f : Column) → ((d : ℕ) (v : ℤ) → Some v ≡ f d → v ≤ℤ high) → (d : ℕ) → sum f d ≤ℤ (pos (present f d) *ℤ high)
unfolding present sum
sum_to high f h zero = rw (zero-*ℤ high) (omega (arith, ints))
sum_to high f h (suc d) = above_step (present f d) (sum f d) high (f (suc d)) (h (suc d)) (sum_to high f h d)

-- ---- a value of a valid grid
module _ (g : Grid) (x : Element) (valid : Valid g) where
  pub value_from : (d : ℕ) (v : ℤ) → Some v ≡ column g x d → lowest_of x ≤ℤ v
  value_from d v e = let both = and_parts (le_z (lowest_of x) v) (le_z v (highest_of x)) (value_takes g x d v valid e) in grind (arith, nat_tests, ints)

  pub value_to : (d : ℕ) (v : ℤ) → Some v ≡ column g x d → v ≤ℤ highest_of x
  value_to d v e = let both = and_parts (le_z (lowest_of x) v) (le_z v (highest_of x)) (value_takes g x d v valid e) in grind (arith, nat_tests, ints)

pub takes_between : (x : Element) (m : ℤ) → lowest_of x ≤ℤ m → m ≤ℤ highest_of x → takes x m ≡ true
takes_between x m from to = grind (arith, nat_tests, ints)
