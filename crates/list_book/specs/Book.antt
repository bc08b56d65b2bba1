-- What a list book means.
use Rattle.std.specs.Prelude.{ℕ, min, List, ℤ}
use Rattle.daybook.specs.Grid.{Grid, pair_count}
use Rattle.ordered_table.specs.declared.row.Row.{Row}
use Rattle.ordered_table.specs.Contents.{rows, lines, room}
use Rattle.list_book.specs.declared.key.PairKey.{PairKey}
use Rattle.list_book.specs.declared.book.ListBook.{ListBook}
use Rattle.list_book.specs.Pairs.{grid_of}

-- the rows of the filled pairs, in order
abbrev pub filled_rows : ListBook → List (Row PairKey ℤ)
filled_rows b = rows b.table

-- every line that was lent
abbrev pub book_lines : ListBook → List (Row PairKey ℤ)
book_lines b = lines b.table

-- the grid that the rows stand for
abbrev pub book_grid : ListBook → Grid
book_grid b = grid_of (filled_rows b)

-- as many pairs as there are lines, and never more than there are pairs
abbrev pub book_ceiling : ListBook → ℕ
book_ceiling b = min (room b.table) pair_count
