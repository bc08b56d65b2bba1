-- Worked examples of the figures.
use Rattle.std.specs.Prelude.{◌≡◌, ℕ, cond, pos, negsuc, Some, None, ◌==◌, nat_le}
use Rattle.station.specs.Calendar.{month_length}
use Rattle.columns.specs.Columns.{Column}
use Rattle.rounding.specs.Rain.{rain_code}
use Rattle.figures.specs.Means.{mean_shown, deviation_shown}

-- 105 on every day, but 120 on the seventh
abbrev pub worked : Column
worked d = Some (cond (d == 7) (pos 120) (pos 105))

-- the same below zero
abbrev pub negated : Column
negated d = Some (cond (d == 7) (negsuc 119) (negsuc 104))

-- -1 on the first day, and 0 on every other
abbrev pub near_zero : Column
near_zero d = Some (cond (d == 1) (negsuc 0) (pos 0))

-- a column without its first n days
abbrev pub without_first : ℕ → Column → Column
without_first n f d = cond (nat_le d n) None (f d)

-- What the definitions give.
pub record Examples : Type 0 where
  -- 29 values of 105 and one of 120 have the mean 106, and the deviation 3
  pub mean : mean_shown worked 30 ≡ Some (pos 106)
  pub deviation : deviation_shown worked 30 ≡ Some 3
  -- negated, the mean is -106
  pub negative_mean : mean_shown negated 30 ≡ Some (negsuc 105)
  -- 28 values with the sum -1 have the mean 0
  pub mean_of_nothing : mean_shown near_zero 28 ≡ Some (pos 0)
  -- three empty days leave a mean, four do not
  pub three_empty : mean_shown (without_first 3 worked) 30 ≡ Some (pos 106)
  pub four_empty : mean_shown (without_first 4 worked) 30 ≡ None
  -- rain of 0.9 mm, 8898.4 mm and 8898.5 mm
  pub little_rain : rain_code 9 ≡ 9999
  pub much_rain : rain_code 88984 ≡ 8898
  pub most_rain : rain_code 88985 ≡ 8899
  -- February of 2100, which is no leap year
  pub february : month_length 2100 2 ≡ 28
