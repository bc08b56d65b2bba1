-- Missing days, and days that are counted.
use Rattle.std.specs.Prelude.{ℕ, min, max, Bool, cond, ℤ, Some, None, Option, ◌==◌}
use Rattle.station.specs.declared.element.Element.TheVariants.{StationPressure, SeaLevelPressure}
use Rattle.daybook.specs.Grid.{Grid}
use Rattle.columns.specs.Columns.{Column, column, empties}
use Rattle.columns.specs.Counts.{days_when}

-- no day from 1 to d is empty
abbrev pub is_complete : Column → ℕ → Bool
is_complete f d = empties f d == 0

-- the highest number of missing days that one digit tells
abbrev pub most_told : ℕ
most_told = 9

-- missing days in one digit
abbrev pub one_digit : ℕ → ℕ
one_digit n = min n most_told

-- missing days of pressure: the larger of those at the station and at sea level
abbrev pub pressure_missing : Grid → ℕ → ℕ
pressure_missing g d = max (empties (column g StationPressure) d) (empties (column g SeaLevelPressure) d)

-- a count of days is shown exactly where no day is empty
unfoldable pub count_shown : (ℤ → Bool) → Column → ℕ → Option ℕ
count_shown passes f d = cond (is_complete f d) (Some (days_when passes f d)) None
