-- Pairs in order of day and then of element, and the grid that rows of pairs stand for.
use Rattle.std.specs.Prelude.{Bool, ◌&&◌, ◌||◌, List, ℤ, pos, ◌==◌, nat_lt}
use Rattle.std.specs.declared.cmp.Ordering.{Ordering}
use Rattle.std.specs.Ordering.{nat_cmp, on, then_cmp}
use Rattle.station.specs.Numbers.{same}
use Rattle.station.specs.Elements.{element_number}
use Rattle.daybook.specs.Grid.{Grid}
use Rattle.ordered_table.specs.declared.row.Row.{Row}
use Rattle.ordered_table.specs.Rows.{entry_where}
use Rattle.list_book.specs.declared.key.PairKey.{PairKey}

-- an earlier day, or the same day and an element with a lower number
abbrev pub pair_below : PairKey → PairKey → Bool
pair_below j k =
    nat_lt j.pair.day k.pair.day
    || (j.pair.day == k.pair.day && nat_lt (element_number j.pair.element) (element_number k.pair.element))

-- how keys compare: by day, and within one day by the element's number
abbrev pub pair_cmp : PairKey → PairKey → Ordering
pair_cmp = then_cmp (on (λ k. k.pair.day) nat_cmp) (on (λ k. element_number k.pair.element) nat_cmp)

-- the key's pair is that of the day d and the element with the number e
abbrev pub is_pair : ℤ → ℤ → PairKey → Bool
is_pair d e k = same d (pos k.pair.day) && same e (pos (element_number k.pair.element))

-- each row's pair holds its entry, and every other pair is empty
unfoldable pub grid_of : List (Row PairKey ℤ) → Grid
grid_of rows d e = entry_where (is_pair d e) rows
