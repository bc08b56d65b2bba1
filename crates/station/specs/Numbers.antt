-- Tests on whole numbers, and things that bear a number.
use Rattle.std.specs.Prelude.{◌≡◌, ℕ, Bool, cond, ◌&&◌, List, [], ◌∷◌, ℤ, pos, Some, None, Option, ◌≢◌, int_le}

-- low ≤ x ≤ high
abbrev pub within : ℤ → ℤ → ℤ → Bool
within low high x = int_le low x && int_le x high

-- a = b
abbrev pub same : ℤ → ℤ → Bool
same a b = int_le a b && int_le b a

-- the first of some things that bears the number n
abbrev pub first_bearing : {X : Type 0} → (X → ℕ) → ℤ → List X → Option X
first_bearing number n [] = None
first_bearing number n (x ∷ rest) = cond (same (pos (number x)) n) (Some x) (first_bearing number n rest)

-- what bears the number n, or none where nothing does
abbrev pub Bearing : {X : Type 0} → (X → ℕ) → ℤ → Option X → Type 0
Bearing {X} number n None = (x : X) → pos (number x) ≢ n
Bearing number n (Some x) = pos (number x) ≡ n
