-- What the cells of a grid book stand for, and what a write to one changes. Assumes nothing.
use Rattle.std.proofs.Common.{◌≡◌, ℕ, zero, suc, ◌<◌, ◌≤◌, Bool, true, false, cond, ◌&&◌, List, length, get_or, set, replicate, ℤ, pos, negsuc, nat_abs, is_some, None, Option, sym, refl, ap, subst, arith, get_or-set_other, get_or-set_same}
use mathlib.Core.Path.{fun_ext}
use Rattle.std.proofs.lemmas.Bool.{both_ways, and_right, and_parts, and_from}
use Rattle.std.proofs.lemmas.Bool.Decides.{nat_tests}
use Rattle.station.specs.declared.element.Element.{Element}
use Rattle.station.specs.Numbers.{same}
use Rattle.station.specs.Elements.{element_number, is_element}
use Rattle.station.proofs.OnElements.{numbered_of, number_bounds, is_element_bounds, negative_none}
use Rattle.station.proofs.OnNumbers.{same_true}
use Rattle.daybook.specs.Grid.{empty_grid, is_day, with_pair, valid_at, Valid, pair_count, place}
use Rattle.daybook.specs.Cells.{grid_of}
use Rattle.daybook.proofs.OnPairs.{day_there}
use Rattle.daybook.proofs.OnGrids.{valid_empty, valid_with}

-- ---- no cell filled
none_at : (n k : ℕ) → get_or {A = Option ℤ} (replicate n None) k None ≡ None
none_at zero k = refl
none_at (suc n) zero = refl
none_at (suc n) (suc k) = none_at n k

pub grid_new : grid_of (replicate pair_count None) ≡ empty_grid
unfolding grid_of
grid_new =
    fun_ext (λ d. fun_ext (λ e.
    rw (none_at pair_count (place (nat_abs d) (nat_abs e)))
    (elim (is_day d && is_element e) as (λ t. cond {A = Option ℤ} t None None ≡ None) [ true ↦ refl | false ↦ refl ])))

pub valid_new : Valid (grid_of (replicate pair_count None))
valid_new = subst Valid (sym grid_new) valid_empty

-- ---- one cell
module _ (cells : List (Option ℤ)) (day : ℕ) (x : Element) (day-from : 1 ≤ day) (day-to : day ≤ 31) where
  pub grid_at : grid_of cells (pos day) (pos (element_number x)) ≡ get_or cells (place day (element_number x)) None
  unfolding grid_of
  grid_at =
      let there : is_element (pos (element_number x)) ≡ true = ap is_some (numbered_of x) in
      rw (day_there day day-from day-to, there)

  -- no other pair has the same place
  apart : (a b : ℕ) → (is_day (pos a) && is_element (pos b)) ≡ true → (same (pos a) (pos day) && same (pos b) (pos (element_number x))) ≡ false →
      place a b ≡ place day (element_number x) → ⊥
  apart a b there other e =
      let both = and_parts (is_day (pos a)) (is_element (pos b)) there in
      let a-from : 1 ≤ a = grind (arith, nat_tests, both.0) in
      let a-to : a ≤ 31 = grind (arith, nat_tests, both.0) in
      let b-bounds = is_element_bounds b both.1 in
      let x-bounds = number_bounds x in
      let day-same : a ≡ day = omega arith in
      let element_same : b ≡ element_number x = omega arith in
      grind (arith, nat_tests)

  there_always : (is_day (pos day) && is_element (pos (element_number x))) ≡ true
  there_always = and_from _ _ (day_there day day-from day-to) (ap is_some (numbered_of x))

  here_is : (a b : ℕ) → (same (pos a) (pos day) && same (pos b) (pos (element_number x))) ≡ true → (a ≡ day) × (b ≡ element_number x)
  here_is a b here =
      let both = and_parts (same (pos a) (pos day)) (same (pos b) (pos (element_number x))) here in
      let one = same_true (pos a) (pos day) both.0 in
      let two = same_true (pos b) (pos (element_number x)) both.1 in
      (grind arith, grind arith)

  put_at : (v : Option ℤ) → length cells ≡ pair_count → (a b : ℕ) (t u : Bool) → (is_day (pos a) && is_element (pos b)) ≡ t →
      (same (pos a) (pos day) && same (pos b) (pos (element_number x))) ≡ u →
      cond t (get_or (set cells (place day (element_number x)) v) (place a b) None) None ≡ cond u v (cond t (get_or cells (place a b) None) None)
  put_at v len a b true true there here =
      let at = here_is a b here in
      let bounds = number_bounds x in
      let within : place day (element_number x) < length cells = omega arith in
      rw (at.0, at.1) (get_or-set_same cells (place day (element_number x)) v None within)
  put_at v len a b true false there other = get_or-set_other cells (place day (element_number x)) (place a b) v None (apart a b there other)
  put_at v len a b false true gone here =
      let at = here_is a b here in
      absurd (both_ways _ gone (rw (at.0, at.1) there_always))
  put_at v len a b false false gone other = refl

  put_each : (v : Option ℤ) → length cells ≡ pair_count → (d e : ℤ) →
      grid_of (set cells (place day (element_number x)) v) d e ≡ with_pair (grid_of cells) (pos day) (pos (element_number x)) v d e
  unfolding grid_of
  put_each v len (negsuc a) e = refl
  put_each v len (pos a) (negsuc b) = rw (and_right (is_day (pos a)) (is_element (negsuc b)) (negative_none b), and_right (same (pos a) (pos day)) false refl)
  put_each v len (pos a) (pos b) = put_at v len a b _ _ refl refl

  -- a write to the cell of a pair sets that pair alone
  pub grid_put : (v : Option ℤ) → length cells ≡ pair_count →
      grid_of (set cells (place day (element_number x)) v) ≡ with_pair (grid_of cells) (pos day) (pos (element_number x)) v
  grid_put v len = fun_ext (λ d. fun_ext (λ e. put_each v len d e))

  pub valid_put : (v : Option ℤ) → length cells ≡ pair_count → Valid (grid_of cells) → valid_at (pos day) (pos (element_number x)) v ≡ true →
      Valid (grid_of (set cells (place day (element_number x)) v))
  valid_put v len h k = subst Valid (sym (grid_put v len)) (valid_with (grid_of cells) (pos day) (pos (element_number x)) v h k)
