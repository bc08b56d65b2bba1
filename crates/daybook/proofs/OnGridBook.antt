-- What the calls of a grid book come to, at a pair that stands for a day and an element's number. Assumes nothing.
use Rattle.std.proofs.Common.{◌≡◌, ℕ, ◌≤◌, true, false, List, length, get_or, set, ℤ, pos, is_some, Some, None, Ok, Option, sym, refl, ap, ◌∙◌, ⊎_elim}
use Rattle.std.proofs.lemmas.Bool.{cases_Bool, and_from}
use Rattle.station.specs.declared.element.Element.{Element}
use Rattle.station.specs.declared.refusal.Refusal.TheVariants.{Empty}
use Rattle.station.specs.Elements.{element_number}
use Rattle.station.proofs.OnElements.{number_bounds}
use Rattle.station.proofs.OnRefusals.{passed}
use Rattle.daybook.specs.Grid.{valid_at, Valid, pair_count, place}
use Rattle.daybook.specs.Calls.{value_refusal, enter_refusal, strike_refusal, looked_up, entered, struck}
use Rattle.daybook.specs.Cells.{grid_of}
use Rattle.daybook.proofs.OnPairs.{pair_there, day_there}
use Rattle.daybook.proofs.OnGrids.{filled_below}
use Rattle.daybook.proofs.OnCalls.{look_found, enter_again, enter_new, entered_sets, strike_empty, strike_taken, struck_empties}
use Rattle.daybook.proofs.OnCells.{grid_at, grid_put, valid_put}

module _ (cells : List (Option ℤ)) (len : length cells ≡ pair_count) (day : ℕ) (x : Element) (from : 1 ≤ day) (to : day ≤ 31) where
  here : Option ℤ
  here = get_or cells (place day (element_number x)) None

  -- ---- at the pair itself
  look_here : Ok (get_or cells (place day (element_number x)) None) ≡ looked_up (grid_of cells) (pos day) (pos (element_number x))
  look_here = ap Ok (sym (grid_at cells day x from to)) ∙ sym (look_found (grid_of cells) (pos day) (pos (element_number x)) (pair_there day x from to))

  room_here : (v : ℤ) → value_refusal (pos (element_number x)) v ≡ None → enter_refusal (grid_of cells) pair_count (pos day) (pos (element_number x)) v ≡ None
  room_here v k =
      ⊎_elim
      (λ (s : is_some (grid_of cells (pos day) (pos (element_number x))) ≡ true). enter_again _ _ _ _ v (pair_there day x from to) k s)
      (λ (n : is_some (grid_of cells (pos day) (pos (element_number x))) ≡ false).
      let bounds = number_bounds x in
      enter_new _ _ _ _ v (pair_there day x from to) k (filled_below day (element_number x) from to bounds.0 bounds.1 (grid_of cells) n))
      (cases_Bool (is_some (grid_of cells (pos day) (pos (element_number x)))))

  valid_here : (v : ℤ) → value_refusal (pos (element_number x)) v ≡ None → valid_at (pos day) (pos (element_number x)) (Some v) ≡ true
  valid_here v k = and_from _ _ (day_there day from to) (passed _ _ k)

-- ---- at a pair that stands for d and e, whose cell is the one at `at`
module _ (cells : List (Option ℤ)) (len : length cells ≡ pair_count) (d e : ℤ) (at day : ℕ) (x : Element) (from : 1 ≤ day) (to : day ≤ 31)
    (is_d : pos day ≡ d) (is_e : pos (element_number x) ≡ e) (is_at : at ≡ place day (element_number x)) where
  pub cell_looked : Ok (get_or cells at None) ≡ looked_up (grid_of cells) d e
  cell_looked = rw (is_at, ← is_d, ← is_e) (look_here cells len day x from to)

  pub cell_room : (v : ℤ) → value_refusal e v ≡ None → enter_refusal (grid_of cells) pair_count d e v ≡ None
  cell_room v = rw (← is_d, ← is_e) (room_here cells len day x from to v)

  pub cell_valid : (v w : ℤ) → w ≡ v → value_refusal e v ≡ None → Valid (grid_of cells) → Valid (grid_of (set cells at (Some w)))
  cell_valid v w is-v = rw (is-v, is_at, ← is_e) (λ k h. valid_put cells day x from to (Some v) len h (valid_here cells len day x from to v k))

  pub cell_entered : (v w : ℤ) → w ≡ v → value_refusal e v ≡ None → grid_of (set cells at (Some w)) ≡ entered (grid_of cells) pair_count d e v
  cell_entered v w is-v = rw (is-v, is_at, ← is_d, ← is_e) (λ k. grid_put cells day x from to (Some v) len ∙ sym (entered_sets _ _ _ _ v (room_here cells len day x from to v k)))

  pub cell_empty : is_some (get_or cells at None) ≡ false → strike_refusal (grid_of cells) d e ≡ Some Empty
  cell_empty = rw (is_at, ← is_d, ← is_e) (λ n. strike_empty (grid_of cells) _ _ (pair_there day x from to) (ap is_some (grid_at cells day x from to) ∙ n))

  pub cell_filled : is_some (get_or cells at None) ≡ true → strike_refusal (grid_of cells) d e ≡ None
  cell_filled = rw (is_at, ← is_d, ← is_e) (λ n. strike_taken (grid_of cells) _ _ (pair_there day x from to) (ap is_some (grid_at cells day x from to) ∙ n))

  pub cell_cleared : Valid (grid_of cells) → Valid (grid_of (set cells at None))
  cell_cleared = rw is_at (λ h. valid_put cells day x from to None len h refl)

  pub cell_struck : strike_refusal (grid_of cells) d e ≡ None → grid_of (set cells at None) ≡ struck (grid_of cells) d e
  cell_struck = rw (is_at, ← is_d, ← is_e) (λ k. grid_put cells day x from to None len ∙ sym (struck_empties (grid_of cells) _ _ k))
