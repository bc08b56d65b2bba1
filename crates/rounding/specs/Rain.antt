-- A month's rain as a code of four digits.
use Rattle.std.specs.Prelude.{◌≡◌, ℕ, ◌+◌, ◌*◌, ◌<◌, ◌≤◌, Bool, cond, ◌&&◌, ◌⊎◌, nat_le, nat_lt}
use Rattle.rounding.specs.Halves.{half_up}

-- one millimetre, in tenths
abbrev pub one_millimetre : ℕ
one_millimetre = 10

-- the code for rain that does not reach one millimetre
abbrev pub below_one_millimetre : ℕ
below_one_millimetre = 9999

-- the code for all that is nearest to 8899 millimetres or more
abbrev pub most_coded : ℕ
most_coded = 8899

-- the least amount with that code, in tenths
abbrev pub first_of_most : ℕ
first_of_most = 88985

-- there was rain, and it does not reach one millimetre
abbrev pub is_below_one_millimetre : ℕ → Bool
is_below_one_millimetre tenths = nat_lt 0 tenths && nat_lt tenths one_millimetre

-- the code of an amount
unfoldable pub rain_code : ℕ → ℕ
rain_code tenths =
    cond (is_below_one_millimetre tenths) below_one_millimetre
    (cond (nat_le first_of_most tenths) most_coded (half_up tenths one_millimetre))

-- each of two facts where the other holds
abbrev pub ExactlyIf : Type 0 → Type 0 → Type 0
ExactlyIf P Q = (P → Q) × (Q → P)

-- code is whole millimetres within half a millimetre, halves up
pub record Millimetres (tenths code : ℕ) : Type 0 where
  pub low : 10 * code ≤ tenths + 5
  pub high : tenths + 5 < 10 * code + 10
  pub least : 1 ≤ code
  pub most : code < most_coded

-- code is what the report has for this amount
pub record StandsFor (tenths code : ℕ) : Type 0 where
  pub dry : ExactlyIf (code ≡ 0) (tenths ≡ 0)
  pub little : ExactlyIf (code ≡ below_one_millimetre) ((0 < tenths) × (tenths < one_millimetre))
  pub much : ExactlyIf (code ≡ most_coded) (first_of_most ≤ tenths)
  pub other : one_millimetre ≤ tenths → tenths < first_of_most → Millimetres tenths code

-- code is that and no other is, and it is a number up to the most coded or the code for less than one millimetre
pub record Coded (tenths code : ℕ) : Type 0 where
  pub stands : StandsFor tenths code
  pub only : (another : ℕ) → StandsFor tenths another → another ≡ code
  pub digits : (code ≤ most_coded) ⊎ (code ≡ below_one_millimetre)
