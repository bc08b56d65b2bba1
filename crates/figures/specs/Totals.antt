-- Totals of rain and of sunshine.
use Rattle.std.specs.Prelude.{◌≡◌, ℕ, ◌≤◌, cond, pos, Some, None, Option, unsigned_abs}
use Rattle.columns.specs.Columns.{Column, sum}
use Rattle.rounding.specs.Rain.{rain_code, StandsFor}
use Rattle.rounding.specs.Sunshine.{whole_hours, Hours, percentage_of, Percentage}
use Rattle.figures.specs.Days.{is_complete}
use Rattle.figures.specs.Shown.{Shown}

-- the total of the days from 1 to d, of values that are never below zero
abbrev pub total : Column → ℕ → ℕ
total f d = unsigned_abs (sum f d)

-- the total, shown where no day is empty
unfoldable pub total_shown : Column → ℕ → Option ℕ
total_shown f d = cond (is_complete f d) (Some (total f d)) None

-- the rain in four digits, shown where no day is empty
unfoldable pub rain_shown : Column → ℕ → Option ℕ
rain_shown f d = cond (is_complete f d) (Some (rain_code (total f d))) None

-- What holds of a total of rain.
pub record RainOf (f : Column) (d : ℕ) (figure : Option ℕ) : Type 0 where
  -- the total is the sum
  pub whole : pos (total f d) ≡ sum f d
  -- it is shown exactly where no day is empty, by the code that stands for it
  pub shown : Shown (is_complete f d) (StandsFor (total f d)) figure

-- the sunshine in whole hours, shown where no day is empty
unfoldable pub sunshine_shown : Column → ℕ → Option ℕ
sunshine_shown f d = cond (is_complete f d) (Some (whole_hours (total f d))) None

-- What holds of a total of sunshine.
pub record SunshineOf (f : Column) (d : ℕ) (figure : Option ℕ) : Type 0 where
  -- the total is the sum
  pub whole : pos (total f d) ≡ sum f d
  -- it is shown exactly where no day is empty, in the nearest whole number of hours, halves up
  pub shown : Shown (is_complete f d) (Hours (total f d)) figure
  -- there are not more hours than a month has
  pub most : (h : ℕ) → figure ≡ Some h → h ≤ 744

-- the sunshine as a percentage of the normal, shown where there is a normal and no day is empty
abbrev pub percentage_shown : Column → ℕ → Option ℕ → Option ℕ
percentage_shown f d None = None
percentage_shown f d (Some normal) = cond (is_complete f d) (Some (percentage_of (total f d) normal)) None

-- What holds of that percentage: without a normal there is none; with one it is shown exactly where no day is empty.
abbrev pub PercentageShown : Column → ℕ → Option ℕ → Option ℕ → Type 0
PercentageShown f d None figure = figure ≡ None
PercentageShown f d (Some normal) figure = Shown (is_complete f d) (Percentage (total f d) normal) figure
