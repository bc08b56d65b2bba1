-- A month's sunshine, in hours and as a percentage of the normal.
use Rattle.std.specs.Prelude.{◌≡◌, ℕ, zero, suc, ◌+◌, ◌*◌, ◌<◌, ◌≤◌, min, max}
use Rattle.rounding.specs.Halves.{half_up, LowEnough, HighEnough}

-- one hour, in tenths
abbrev pub one_hour : ℕ
one_hour = 10

-- an amount of sunshine in whole hours
abbrev pub whole_hours : ℕ → ℕ
whole_hours tenths = half_up tenths one_hour

-- h is the whole number of hours nearest to the amount, halves up
pub record Hours (tenths h : ℕ) : Type 0 where
  pub low : 10 * h ≤ tenths + 5
  pub high : tenths + 5 < 10 * h + 10

-- h is that number and no other is
pub record HoursLaw (tenths h : ℕ) : Type 0 where
  pub stands : Hours tenths h
  pub only : (other : ℕ) → Hours tenths other → other ≡ h

-- the percentage where the normal is no sunshine at all
abbrev pub no_normal : ℕ
no_normal = 999

-- the least percentage of any sunshine at all
abbrev pub least_percentage : ℕ
least_percentage = 1

-- the most that any sunshine gives
abbrev pub most_percentage : ℕ
most_percentage = 998

-- sunshine in hundredths of an hour: divided by hours, a percentage
abbrev pub hundredths : ℕ → ℕ
hundredths tenths = 10 * tenths

-- the sunshine as a percentage of the normal
unfoldable pub percentage_of : ℕ → ℕ → ℕ
percentage_of tenths zero = no_normal
percentage_of zero (suc n) = 0
percentage_of (suc t) (suc n) = max (min (half_up (hundredths (suc t)) (suc n)) most_percentage) least_percentage

-- p is the whole number nearest to the percentage, halves up, or the least or the most where that lies beyond them
pub record NearestPercentage (tenths normal p : ℕ) : Type 0 where
  pub least : least_percentage ≤ p
  pub most : p ≤ most_percentage
  pub low_enough : least_percentage < p → LowEnough (hundredths tenths) normal p
  pub high_enough : p < most_percentage → HighEnough (hundredths tenths) normal p

-- p is what the report has for this sunshine under this normal
pub record Percentage (tenths normal p : ℕ) : Type 0 where
  pub without_normal : normal ≡ 0 → p ≡ no_normal
  pub dark : 0 < normal → tenths ≡ 0 → p ≡ 0
  pub sunny : 0 < normal → 0 < tenths → NearestPercentage tenths normal p

-- p is that number and no other is
pub record PercentageLaw (tenths normal p : ℕ) : Type 0 where
  pub stands : Percentage tenths normal p
  pub only : (other : ℕ) → Percentage tenths normal other → other ≡ p
