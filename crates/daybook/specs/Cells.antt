-- The grid that a cell for each pair stands for.
use Rattle.std.specs.Prelude.{cond, ◌&&◌, List, ℤ, None, Option, slice_index_or, unsigned_abs}
use Rattle.station.specs.Elements.{is_element}
use Rattle.daybook.specs.Grid.{Grid, is_day, place}

-- cells in order of day and then of element; there is nothing at what is no pair
unfoldable pub grid_of : List (Option ℤ) → Grid
grid_of cells d e = cond (is_day d && is_element e) (slice_index_or cells (place (unsigned_abs d) (unsigned_abs e)) None) None
