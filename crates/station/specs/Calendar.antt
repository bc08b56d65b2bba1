-- The Gregorian calendar, in the years that a report's three digits of the year can tell apart.
use Rattle.std.specs.Prelude.{ℕ, ◌-◌, ◌%◌, Bool, cond, not, ◌&&◌, ◌||◌, List, [], ◌∷◌, length, ℤ, pos, Option, ◌==◌, slice_index}
use Rattle.station.specs.declared.refusal.Refusal.{Refusal}
use Rattle.station.specs.declared.refusal.Refusal.TheVariants.{Sheet}
use Rattle.station.specs.Numbers.{within}
use Rattle.station.specs.Refusals.{requiring}

-- the first year that a report can name
abbrev pub first_year : ℕ
first_year = 1950

-- the last year that a report can name
abbrev pub last_year : ℕ
last_year = 2949

-- the lengths of the months of a common year, from January
abbrev pub common_lengths : List ℕ
common_lengths = 31 ∷ 28 ∷ 31 ∷ 30 ∷ 31 ∷ 30 ∷ 31 ∷ 31 ∷ 30 ∷ 31 ∷ 30 ∷ 31 ∷ []

-- every fourth year, but of the full centuries only every fourth
abbrev pub is_leap : ℕ → Bool
is_leap year = year % 4 == 0 && (not (year % 100 == 0) || year % 400 == 0)

-- the number of days of a month
unfoldable pub month_length : ℕ → ℕ → ℕ
month_length year month = cond (month == 2 && is_leap year) 29 (slice_index common_lengths (month - 1))

-- a year that a report can name
abbrev pub is_year : ℤ → Bool
is_year n = within (pos first_year) (pos last_year) n

-- one of the twelve months
abbrev pub is_month_number : ℤ → Bool
is_month_number n = within (pos 1) (pos (length common_lengths)) n

-- a year and a month that there are
abbrev pub is_month : ℤ → ℤ → Bool
is_month year month = is_year year && is_month_number month

-- a year and a month are declined exactly where one is outside its limits
abbrev pub month_refusal : ℤ → ℤ → Option Refusal
month_refusal year month = requiring (is_month year month) Sheet
