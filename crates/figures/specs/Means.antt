-- Means and the deviation.
use Rattle.std.specs.Prelude.{◌≡◌, ℕ, ◌≤◌, Bool, true, cond, ℤ, Some, None, Option, nat_le}
use Rattle.station.specs.declared.element.Element.{Element}
use Rattle.station.specs.Elements.{takes}
use Rattle.columns.specs.Columns.{Column, empties, present, sum, squares}
use Rattle.rounding.specs.Means.{mean_of, Nearest}
use Rattle.rounding.specs.Deviations.{scatter, deviation_divisor, deviation_of, Deviates}
use Rattle.figures.specs.Shown.{Shown}

-- the most days that may be empty where a mean is shown
abbrev pub most_empty : ℕ
most_empty = 3

-- at most three of the days from 1 to d are empty
abbrev pub is_averaged : Column → ℕ → Bool
is_averaged f d = nat_le (empties f d) most_empty

-- the mean of the days from 1 to d
unfoldable pub mean_shown : Column → ℕ → Option ℤ
mean_shown f d = cond (is_averaged f d) (mean_of (sum f d) (present f d)) None

-- m is the whole number nearest to the sum divided by the number of values, halves away from zero
abbrev pub IsMean : Column → ℕ → ℤ → Type 0
IsMean f d m = Nearest (sum f d) (present f d) m

-- What holds of a mean of the element x.
pub record MeanOf (x : Element) (f : Column) (d : ℕ) (figure : Option ℤ) : Type 0 where
  -- it is shown exactly where at most three days are empty, and then it is the mean
  pub shown : Shown (is_averaged f d) (IsMean f d) figure
  -- it lies in the element's range
  pub in_range : (m : ℤ) → figure ≡ Some m → takes x m ≡ true

-- the deviation of the days from 1 to d, shown with the mean
unfoldable pub deviation_shown : Column → ℕ → Option ℕ
deviation_shown f d = cond (is_averaged f d) (deviation_of (present f d) (sum f d) (squares f d)) None

-- k is the whole number nearest to the root of the scatter by its divisor, halves up
abbrev pub IsDeviation : Column → ℕ → ℕ → Type 0
IsDeviation f d k = Deviates (deviation_divisor (present f d)) (scatter (present f d) (sum f d) (squares f d)) k

-- What holds of a deviation.
pub record DeviationOf (f : Column) (d : ℕ) (figure : Option ℕ) : Type 0 where
  -- it is shown exactly where at most three days are empty, and then it is the deviation
  pub shown : Shown (is_averaged f d) (IsDeviation f d) figure
  -- it has three digits
  pub three_digits : (k : ℕ) → figure ≡ Some k → k ≤ 999
