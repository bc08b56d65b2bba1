-- What a table holds: its rows, and how many lines it has for them. A table's type also names the order of its keys, as k.
use Rattle.std.specs.Prelude.{ℕ, List, length, take}
use Rattle.ordered_table.specs.declared.row.Row.{Row}
use Rattle.ordered_table.specs.declared.table.Table.{Table}

-- every line that was lent
abbrev pub lines : {K E : Type 0} {k : _} → Table K E k → List (Row K E)
lines t = t.lines.now

-- the lines in use
abbrev pub rows : {K E : Type 0} {k : _} → Table K E k → List (Row K E)
rows t = take t.used (lines t)

-- for how many rows there are lines
abbrev pub room : {K E : Type 0} {k : _} → Table K E k → ℕ
room t = length (lines t)
