-- What a put and a removal of a pair's row come to as an entry and a strike. Assumes nothing.
use Rattle.std.proofs.Common.{◌≡◌, ℕ, ◌<◌, ◌≤◌, min, Bool, true, false, cond, ◌||◌, ltb, List, ◌++◌, length, take, drop, ℤ, pos, is_some, Some, None, sym, refl, ap, ◌∙◌, subst, ⊎_elim, arith}
use Rattle.std.proofs.lemmas.Bool.{and_parts, and_from, or_cases, or_parts, cases_Bool, ltb-true, ltb-false, cond_both}
use Rattle.station.specs.declared.refusal.Refusal.{Refusal}
use Rattle.station.specs.declared.refusal.Refusal.TheVariants.{Full, Empty}
use Rattle.station.specs.Numbers.{same}
use Rattle.station.specs.Elements.{element_number}
use Rattle.station.proofs.OnElements.{number_bounds}
use Rattle.station.proofs.OnNumbers.{same_true}
use Rattle.station.proofs.OnRefusals.{passed}
use Rattle.daybook.specs.Grid.{valid_at, Valid, pair_count}
use Rattle.daybook.specs.Calls.{pair_refusal, value_refusal, enter_refusal, strike_refusal, entered, struck}
use Rattle.daybook.proofs.OnPairs.{pair_there, day_there}
use Rattle.daybook.proofs.OnGrids.{valid_with, filled_below}
use Rattle.daybook.proofs.OnCalls.{enter_again, enter_new, enter_full, entered_sets, strike_empty, strike_taken, struck_empties}
use Rattle.ordered_table.specs.declared.row.Row.{Row}
use Rattle.ordered_table.specs.Rows.{found, placed, without, row_of, rows_where}
use Rattle.ordered_table.specs.Order.{rising}
use Rattle.ordered_table.proofs.OnOrder.{without_none}
use Rattle.ordered_table.proofs.OnEntries.{row_where, no_rows}
use Rattle.ordered_table.proofs.OnTables.{unchanged}
use Rattle.list_book.specs.declared.key.PairKey.{PairKey}
use Rattle.list_book.specs.Pairs.{pair_below, is_pair, grid_of}
use Rattle.list_book.specs.OnPairs.{pair_order, one_key}
use Rattle.list_book.proofs.OnRows.{key_passes, found_grid, grid_placed, grid_without, filled_rows}

-- ---- at the key k, whose pair is that of d and e
module _ (rows : List (Row PairKey ℤ)) (sorted : rising pair_below rows ≡ true) (d e : ℤ) (k : PairKey)
    (is_d : pos k.pair.day ≡ d) (is_e : pos (element_number k.pair.element) ≡ e) where
  here : is_some (found pair_below k rows) ≡ is_some (grid_of rows d e)
  here = ap is_some (found_grid d e k is_d is_e rows sorted)

  there : pair_refusal d e ≡ None
  there = rw (← is_d, ← is_e) (pair_there k.pair.day k.pair.element k.pair.day_from k.pair.day_to)

  -- an empty pair leaves fewer rows than there are pairs
  fewer : is_some (grid_of rows d e) ≡ false → length rows < pair_count
  fewer n =
      let bounds = number_bounds k.pair.element in
      let empty : is_some (grid_of rows (pos k.pair.day) (pos (element_number k.pair.element))) ≡ false = rw (is_d, is_e) n in
      let below = filled_below k.pair.day (element_number k.pair.element) k.pair.day_from k.pair.day_to bounds.0 bounds.1 (grid_of rows) empty in
      omega (arith, filled_rows rows sorted)

  pub enter_room : (v : ℤ) (room : ℕ) → value_refusal e v ≡ None → (is_some (found pair_below k rows) || ltb (length rows) room) ≡ true →
      enter_refusal (grid_of rows) (min room pair_count) d e v ≡ None
  enter_room v room h t =
      ⊎_elim
      (λ (s : is_some (grid_of rows d e) ≡ true). enter_again (grid_of rows) (min room pair_count) d e v there h s)
      (λ (n : is_some (grid_of rows d e) ≡ false).
      let free : length rows < room =
      ⊎_elim (λ (s : is_some (found pair_below k rows) ≡ true). absurd (grind (arith, here, s, n))) (λ (l : ltb (length rows) room ≡ true). ltb-true (length rows) room l) (or_cases _ _ t) in
      let few = fewer n in
      enter_new (grid_of rows) (min room pair_count) d e v there h (omega (arith, filled_rows rows sorted)))
      (cases_Bool (is_some (grid_of rows d e)))

  pub enter_no_room : (v : ℤ) (room : ℕ) → value_refusal e v ≡ None → (is_some (found pair_below k rows) || ltb (length rows) room) ≡ false →
      enter_refusal (grid_of rows) (min room pair_count) d e v ≡ Some Full
  enter_no_room v room h t =
      let both = or_parts (is_some (found pair_below k rows)) (ltb (length rows) room) t in
      let none : room ≤ length rows = ltb-false (length rows) room both.1 in
      enter_full (grid_of rows) (min room pair_count) d e v there h (sym here ∙ both.0) (omega (arith, filled_rows rows sorted))

  -- ---- the rows after an entry, taken or not
  pub put_valid : (v : ℤ) (r : Bool) (after : List (Row PairKey ℤ)) → value_refusal e v ≡ None → Valid (grid_of rows) →
      after ≡ cond r (placed pair_below (record { key = k; entry = v }) rows) rows → Valid (grid_of after)
  put_valid v r after h valid a =
      let at : valid_at d e (Some v) ≡ true = rw (← is_d) (and_from _ _ (day_there k.pair.day k.pair.day_from k.pair.day_to) (passed _ _ h)) in
      subst (λ z. Valid (grid_of z)) (sym a)
      (cond_both r _ rows (λ z. Valid (grid_of z)) (λ _. subst Valid (sym (grid_placed d e k is_d is_e v rows)) (valid_with (grid_of rows) d e (Some v) valid at)) (λ _. valid))

  pub put_entered : (v : ℤ) (ceiling : ℕ) (r : Bool) (after : List (Row PairKey ℤ)) → after ≡ cond r (placed pair_below (record { key = k; entry = v }) rows) rows → r ≡ true →
      enter_refusal (grid_of rows) ceiling d e v ≡ None → grid_of after ≡ entered (grid_of rows) ceiling d e v
  put_entered v ceiling r after a t free =
      ap grid_of (a ∙ ap (λ b. cond b (placed pair_below (record { key = k; entry = v }) rows) rows) t)
      ∙ grid_placed d e k is_d is_e v rows ∙ sym (entered_sets (grid_of rows) ceiling d e v free)

  -- ---- the rows after a strike
  pub strike_there : is_some (found pair_below k rows) ≡ true → strike_refusal (grid_of rows) d e ≡ None
  strike_there s = strike_taken (grid_of rows) d e there (sym here ∙ s)

  pub strike_absent : is_some (found pair_below k rows) ≡ false → strike_refusal (grid_of rows) d e ≡ Some Empty
  strike_absent n = strike_empty (grid_of rows) d e there (sym here ∙ n)

  pub removed_valid : (after : List (Row PairKey ℤ)) → Valid (grid_of rows) → after ≡ without pair_below k rows → Valid (grid_of after)
  removed_valid after valid a = subst (λ z. Valid (grid_of z)) (sym a) (subst Valid (sym (grid_without d e k is_d is_e rows sorted)) (valid_with (grid_of rows) d e None valid refl))

  pub removed_struck : (after : List (Row PairKey ℤ)) → after ≡ without pair_below k rows → strike_refusal (grid_of rows) d e ≡ None → grid_of after ≡ struck (grid_of rows) d e
  removed_struck after a h = ap grid_of a ∙ grid_without d e k is_d is_e rows sorted ∙ sym (struck_empties (grid_of rows) d e h)

  pub removed_none : (after : List (Row PairKey ℤ)) → after ≡ without pair_below k rows → is_some (found pair_below k rows) ≡ false → after ≡ rows
  removed_none after a n = a ∙ without_none pair_below k rows n

  pub removed_row : row_of pair_below k rows ≡ rows_where (is_pair d e) rows
  removed_row = row_where pair_order (is_pair d e) (one_key d e) k rows (key_passes d e k is_d is_e) sorted

-- ---- numbers that are no pair
no_key : (d e : ℤ) (r : Refusal) → pair_refusal d e ≡ Some r → (k : PairKey) → is_pair d e k ≡ false
no_key d e r h k =
    ⊎_elim
    (λ (t : is_pair d e k ≡ true).
    let both = and_parts (same d (pos k.pair.day)) (same e (pos (element_number k.pair.element))) t in
    let is_d = same_true d (pos k.pair.day) both.0 in
    let is_e = same_true e (pos (element_number k.pair.element)) both.1 in
    let fine : pair_refusal d e ≡ None = rw (is_d, is_e) (pair_there k.pair.day k.pair.element k.pair.day_from k.pair.day_to) in
    absurd (grind (arith, fine, h)))
    (λ f. f)
    (cases_Bool (is_pair d e k))

pub lines_untouched : (d e : ℤ) (r : Refusal) → pair_refusal d e ≡ Some r → (lines : List (Row PairKey ℤ)) (n : ℕ) →
    lines ≡ take n lines ++ (rows_where (is_pair d e) (take n lines) ++ drop (length (take n lines)) lines)
lines_untouched d e r h lines n = rw (no_rows (is_pair d e) (take n lines) (no_key d e r h)) (unchanged lines lines n refl)
