-- The length of a checked month.
use Rattle.std.specs.Prelude.{ℕ}
use Rattle.station.specs.declared.calendar.CalendarMonth.{CalendarMonth}
use Rattle.station.specs.Calendar.{month_length}

-- the number of days of a month
abbrev pub days_of : CalendarMonth → ℕ
days_of m = month_length m.year m.month
