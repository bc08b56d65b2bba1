-- The standard deviation of a month's temperatures by their number, their sum and the sum of their squares.
use Rattle.std.specs.Prelude.{◌≡◌, ℕ, zero, suc, ◌+◌, ◌-◌, ◌*◌, ◌<◌, ◌≤◌, Bool, true, false, cond, ◌&&◌, ℤ, pos, ◌+ℤ◌, Some, None, Option, nat_le, unsigned_abs}

-- a deviation is of one value at least
abbrev pub least_days : ℕ
least_days = 1

-- the days of the longest month
abbrev pub most_days : ℕ
most_days = 31

-- no temperature is farther from zero, in tenths of a degree
abbrev pub farthest : ℕ
farthest = 900

-- no deviation is larger: it has three digits
abbrev pub most_deviation : ℕ
most_deviation = 900

-- n times the sum of the squares, less the square of the sum
abbrev pub scatter : ℕ → ℤ → ℕ → ℕ
scatter n s squares = n * squares - unsigned_abs s * unsigned_abs s

-- what the scatter of n values is divided by under the root
unfoldable pub deviation_divisor : ℕ → ℕ
deviation_divisor n = n * n

-- k is the whole number nearest to the root of q / divisor, halves up: k - 1/2 ≤ root < k + 1/2, in squares and times 4
pub record Deviates (divisor q k : ℕ) : Type 0 where
  pub low : 0 < k → (2 * k - 1) * (2 * k - 1) * divisor ≤ 4 * q
  pub high : 4 * q < (2 * k + 1) * (2 * k + 1) * divisor

-- how many of the halves 1/2, 3/2, .. of the first b are at most the root of q / divisor
unfoldable pub halves_passed : ℕ → ℕ → ℕ → ℕ
halves_passed divisor q zero = 0
halves_passed divisor q (suc b) =
    halves_passed divisor q b + cond (nat_le ((2 * b + 1) * (2 * b + 1) * divisor) (4 * q)) 1 0

-- the root of q / divisor to the nearest whole number, counted by the halves that it passes
unfoldable pub nearest_root : ℕ → ℕ → ℕ
nearest_root divisor q = halves_passed divisor q most_deviation

-- what the sums of a month's temperatures keep: limits of number and size, and n times the squares at least the square of the sum
abbrev pub keeps_bounds : ℕ → ℤ → ℕ → Bool
keeps_bounds n s squares =
    (nat_le least_days n && nat_le n most_days)
    && ((nat_le (unsigned_abs s) (farthest * n) && nat_le squares (farthest * farthest * n)) && nat_le (unsigned_abs s * unsigned_abs s) (n * squares))

-- the deviation of n values with the sum s and these squares, in tenths
unfoldable pub deviation_of : ℕ → ℤ → ℕ → Option ℕ
deviation_of n s squares =
    cond (keeps_bounds n s squares) (Some (nearest_root (deviation_divisor n) (scatter n s squares))) None

-- k is the deviation of n values with the sum s and these squares
abbrev pub IsDeviation : ℕ → ℤ → ℕ → ℕ → Type 0
IsDeviation n s squares k = Deviates (deviation_divisor n) (scatter n s squares) k

-- k is that deviation and no other number is, and it has three digits
pub record DeviationLaw (n : ℕ) (s : ℤ) (squares k : ℕ) : Type 0 where
  pub stands : IsDeviation n s squares k
  pub only : (other : ℕ) → IsDeviation n s squares other → other ≡ k
  pub most : k ≤ most_deviation

-- no answer exactly where the sums break what those of temperatures keep, else the deviation
abbrev pub Deviated : ℕ → ℤ → ℕ → Option ℕ → Type 0
Deviated n s squares None = keeps_bounds n s squares ≡ false
Deviated n s squares (Some k) = (keeps_bounds n s squares ≡ true) × DeviationLaw n s squares k

-- what holds of the sums of any number of temperatures
pub record SumsHold (n : ℕ) (s : ℤ) (squares : ℕ) : Type 0 where
  pub sum_within : unsigned_abs s ≤ farthest * n
  pub squares_within : squares ≤ farthest * farthest * n
  pub squares_enough : unsigned_abs s * unsigned_abs s ≤ n * squares

-- it holds of no values and of one value more, so that a month's temperatures always have a deviation
pub record SumsGrow : Type 0 where
  pub none_yet : SumsHold 0 (pos 0) 0
  pub one_more : (n : ℕ) (s : ℤ) (squares : ℕ) (v : ℤ) → unsigned_abs v ≤ farthest → SumsHold n s squares → SumsHold (n + 1) (s +ℤ v) (squares + unsigned_abs v * unsigned_abs v)
  pub kept : (n : ℕ) (s : ℤ) (squares : ℕ) → least_days ≤ n → n ≤ most_days → SumsHold n s squares → keeps_bounds n s squares ≡ true
