-- The mean of some values by their sum and number.
use Rattle.std.specs.Prelude.{◌≡◌, ℕ, zero, suc, ◌*◌, ◌<◌, ◌≤◌, ℤ, pos, negsuc, ◌-ℤ◌, ◌*ℤ◌, neg_ℤ, ◌≤ℤ◌, Some, None, Option, unsigned_abs}
use Rattle.rounding.specs.Halves.{half_up}

-- s / n to the nearest whole number, halves away from zero
abbrev pub rounded : ℤ → ℕ → ℤ
rounded (pos a) n = pos (half_up a n)
rounded (negsuc a) n = neg_ℤ (pos (half_up (suc a) n))

-- the mean of n values with the sum s; none of no values
unfoldable pub mean_of : ℤ → ℕ → Option ℤ
mean_of s zero = None
mean_of s (suc n) = Some (rounded s (suc n))

-- m is a whole number nearest to s / n, and of two such the one that is farther from zero
pub record Nearest (s : ℤ) (n : ℕ) (m : ℤ) : Type 0 where
  pub within : 2 * unsigned_abs (pos n *ℤ m -ℤ s) ≤ n
  pub away : 2 * unsigned_abs (pos n *ℤ m -ℤ s) ≡ n → unsigned_abs s < n * unsigned_abs m

-- m is that number and no other is, and it does not leave the range of the values
pub record MeanLaw (s : ℤ) (n : ℕ) (m : ℤ) : Type 0 where
  pub nearest : Nearest s n m
  pub only : (other : ℤ) → Nearest s n other → other ≡ m
  pub from_lowest : (lowest : ℤ) → (pos n *ℤ lowest) ≤ℤ s → lowest ≤ℤ m
  pub to_highest : (highest : ℤ) → s ≤ℤ (pos n *ℤ highest) → m ≤ℤ highest

-- no answer exactly where there is nothing to average, else the mean
abbrev pub Averaged : ℤ → ℕ → Option ℤ → Type 0
Averaged s n None = n ≡ 0
Averaged s n (Some m) = (0 < n) × MeanLaw s n m
