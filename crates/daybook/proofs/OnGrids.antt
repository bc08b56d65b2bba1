-- What a change of one pair does to a grid. Assumes nothing.
use Rattle.std.proofs.Common.{◌≡◌, ℕ, suc, ◌+◌, ◌/◌, ◌%◌, ◌<◌, ◌≤◌, true, false, cond, ◌&&◌, ℤ, pos, is_some, Option, sym, refl, ap, ◌∙◌, subst, ⊎_elim, arith}
use Rattle.std.proofs.lemmas.Bool.{cases_eq, cond_both, and_parts, and_left, and_right}
use Rattle.std.proofs.lemmas.Bool.Decides.{nat_tests}
use Rattle.station.specs.Numbers.{same}
use Rattle.station.proofs.OnNumbers.{same_true}
use Rattle.daybook.specs.Grid.{Grid, empty_grid, with_pair, valid_at, Valid, pair_count, place, filled_at, filled}
use Rattle.daybook.proofs.OnCounts.{count_none, count_most, count_below, count_change}

-- ---- equal numbers
pub same_self : (m : ℕ) → same (pos m) (pos m) ≡ true
same_self m = grind (arith, nat_tests)

pub same_other : (m n : ℕ) → (m ≡ n → ⊥) → same (pos m) (pos n) ≡ false
same_other m n h = grind (arith, nat_tests)

-- ---- values in their ranges
pub valid_empty : Valid empty_grid
valid_empty d e = refl

pub valid_with : (g : Grid) (d e : ℤ) (x : Option ℤ) → Valid g → valid_at d e x ≡ true → Valid (with_pair g d e x)
valid_with g d e x h k i j =
    cond_both (same i d && same j e) x (g i j) (λ o. valid_at i j o ≡ true)
    (λ t.
    let both = and_parts (same i d) (same j e) t in
    subst (λ z. valid_at z j x ≡ true) (sym (same_true i d both.0)) (subst (λ z. valid_at d z x ≡ true) (sym (same_true j e both.1)) k))
    (λ _. h i j)

-- ---- the number of filled pairs
pub filled_none : filled empty_grid ≡ 0
unfolding filled
filled_none = count_none _ pair_count (λ k l. refl)

pub filled_most : (g : Grid) → filled g ≤ pair_count
unfolding filled
filled_most g = count_most (filled_at g) pair_count

module _ (day element : ℕ) (day-from : 1 ≤ day) (day-to : day ≤ 31) (element-from : 1 ≤ element) (element-to : element ≤ 12) where
  -- the pair at a place is the one whose place it is
  day_at : suc (place day element / 12) ≡ day
  day_at = omega arith

  element_at : suc (place day element % 12) ≡ element
  element_at = omega arith

  place_below : place day element < pair_count
  place_below = omega arith

  filled_here : (g : Grid) → filled_at g (place day element) ≡ is_some (g (pos day) (pos element))
  filled_here g = ap (λ i. is_some (g (pos i) (pos (suc (place day element % 12))))) day_at ∙ ap (λ i. is_some (g (pos day) (pos i))) element_at

  -- another place has another pair
  other_pair : (k : ℕ) → (k ≡ place day element → ⊥) → (same (pos (suc (k / 12))) (pos day) && same (pos (suc (k % 12))) (pos element)) ≡ false
  other_pair k other =
      ⊎_elim
      (λ (h : suc (k / 12) ≡ day). and_right _ _ (same_other (suc (k % 12)) element (λ (z : suc (k % 12) ≡ element). other (omega arith))))
      (λ (h : suc (k / 12) ≡ day → ⊥). and_left _ _ (same_other (suc (k / 12)) day h))
      (cases_eq (suc (k / 12)) day)

  pub with_here : (g : Grid) (x : Option ℤ) → with_pair g (pos day) (pos element) x (pos day) (pos element) ≡ x
  with_here g x = rw (same_self day, same_self element)

  -- setting a pair changes the number of filled pairs by that pair alone
  pub filled_with : (g : Grid) (x : Option ℤ) →
      filled (with_pair g (pos day) (pos element) x) + cond (is_some (g (pos day) (pos element))) 1 0 ≡ filled g + cond (is_some x) 1 0
  unfolding filled
  filled_with g x =
      let g' : Grid = with_pair g (pos day) (pos element) x in
      let s : ℕ = place day element in
      let step = count_change (filled_at g) (filled_at g') s pair_count place_below (λ k other. rw (other_pair k other)) in
      let new : filled_at g' s ≡ is_some x = filled_here g' ∙ ap is_some (with_here g x) in
      let old : filled_at g s ≡ is_some (g (pos day) (pos element)) = filled_here g in
      rw (← old, ← new) step

  -- where a pair is empty, not all pairs are filled
  pub filled_below : (g : Grid) → is_some (g (pos day) (pos element)) ≡ false → filled g < pair_count
  unfolding filled
  filled_below g h = count_below (filled_at g) (place day element) pair_count place_below (filled_here g ∙ h)
