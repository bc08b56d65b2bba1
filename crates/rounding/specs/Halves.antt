-- The whole number nearest to a quotient, halves up.
use Rattle.std.specs.Prelude.{ℕ, ◌+◌, ◌*◌, ◌/◌, ◌<◌, ◌≤◌}

-- the whole number nearest to a / n, halves up
abbrev pub half_up : ℕ → ℕ → ℕ
half_up a n = (2 * a + n) / (2 * n)

-- k is at most a half above a / n
abbrev pub LowEnough : ℕ → ℕ → ℕ → Type 0
LowEnough a n k = 2 * (n * k) ≤ 2 * a + n

-- k is less than a half below a / n
abbrev pub HighEnough : ℕ → ℕ → ℕ → Type 0
HighEnough a n k = 2 * a < 2 * (n * k) + n

-- k is the whole number nearest to a / n, halves up
pub record NearestUp (a n k : ℕ) : Type 0 where
  pub low_enough : LowEnough a n k
  pub high_enough : HighEnough a n k
