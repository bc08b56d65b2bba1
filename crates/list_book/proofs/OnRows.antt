-- What rows of pairs stand for, and what a put and a removal change. Assumes nothing.
use Rattle.std.proofs.Common.{◌≡◌, ℕ, true, List, [], ◌∷◌, length, ℤ, pos, Some, None, sym, refl, subst, arith}
use mathlib.Core.Path.{fun_ext}
use Rattle.std.proofs.lemmas.Bool.{and_parts, and_from}
use Rattle.station.specs.Elements.{element_number}
use Rattle.station.proofs.OnElements.{number_bounds}
use Rattle.daybook.specs.Grid.{empty_grid, with_pair, Valid, filled}
use Rattle.daybook.proofs.OnGrids.{same_self, valid_empty, filled_none, filled_with}
use Rattle.ordered_table.specs.declared.row.Row.{Row}
use Rattle.ordered_table.specs.Rows.{found, placed, without, entry_where}
use Rattle.ordered_table.specs.Order.{each_key, rising}
use Rattle.ordered_table.proofs.OnEntries.{found_where, where_placed, where_without, none_above}
use Rattle.list_book.specs.declared.key.PairKey.{PairKey}
use Rattle.list_book.specs.Pairs.{pair_below, is_pair, grid_of}
use Rattle.list_book.specs.OnPairs.{pair_order, one_key}

pub grid_none : grid_of [] ≡ empty_grid
unfolding grid_of entry_where
grid_none = refl

pub valid_none : Valid (grid_of [])
valid_none = subst Valid (sym grid_none) valid_empty

-- ---- at the key k, whose pair is that of d and e
module _ (d e : ℤ) (k : PairKey) (is_d : pos k.pair.day ≡ d) (is_e : pos (element_number k.pair.element) ≡ e) where
  pub key_passes : is_pair d e k ≡ true
  key_passes = rw (← is_d, ← is_e) (and_from _ _ (same_self k.pair.day) (same_self (element_number k.pair.element)))

  pub found_grid : (rows : List (Row PairKey ℤ)) → rising pair_below rows ≡ true → found pair_below k rows ≡ grid_of rows d e
  unfolding grid_of
  found_grid rows h = found_where pair_order (is_pair d e) (one_key d e) k rows key_passes h

  pub grid_placed : (v : ℤ) (rows : List (Row PairKey ℤ)) → grid_of (placed pair_below (record { key = k; entry = v }) rows) ≡ with_pair (grid_of rows) d e (Some v)
  unfolding grid_of
  grid_placed v rows =
      rw (← is_d, ← is_e) (fun_ext (λ i. fun_ext (λ j. where_placed pair_order (is_pair i j) (one_key i j) (record { key = k; entry = v }) rows)))

  pub grid_without : (rows : List (Row PairKey ℤ)) → rising pair_below rows ≡ true → grid_of (without pair_below k rows) ≡ with_pair (grid_of rows) d e None
  unfolding grid_of
  grid_without rows h =
      rw (← is_d, ← is_e) (fun_ext (λ i. fun_ext (λ j. where_without pair_order (is_pair i j) (one_key i j) k rows h)))

-- ---- as many pairs are filled as there are rows
pub filled_rows : (rows : List (Row PairKey ℤ)) → rising pair_below rows ≡ true → filled (grid_of rows) ≡ length rows
unfolding grid_of entry_where rising
filled_rows [] h = filled_none
filled_rows (x ∷ xs) h =
    let h2 = and_parts (each_key (pair_below x.key) xs) (rising pair_below xs) h in
    let day : ℕ = x.key.pair.day in
    let element : ℕ = element_number x.key.pair.element in
    let bounds = number_bounds x.key.pair.element in
    let rest = filled_rows xs h2.1 in
    let step = filled_with day element x.key.pair.day_from x.key.pair.day_to bounds.0 bounds.1 (grid_of xs) (Some x.entry) in
    let empty : grid_of xs (pos day) (pos element) ≡ None =
    none_above pair_order (is_pair (pos day) (pos element)) (one_key (pos day) (pos element)) x.key xs (key_passes (pos day) (pos element) x.key refl refl) h2.0 in
    let step2 = rw empty at step in
    omega arith
