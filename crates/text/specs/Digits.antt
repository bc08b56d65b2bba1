-- Decimal digits and bars, as bytes.
use Rattle.std.specs.Prelude.{ℕ, zero, suc, ◌+◌, ◌-◌, ◌*◌, ◌/◌, ◌%◌, ◌^◌, Bool, cond, ◌&&◌, List, [], ◌∷◌, length, replicate, Some, None, Option, ◌==◌, nat_le}
use Rattle.std.specs.List.{list_all}

-- the byte of the digit 0, behind which the other digits follow
abbrev pub nought : ℕ
nought = 48

-- the byte of the digit 9
abbrev pub nine : ℕ
nine = 57

-- the byte of a bar
abbrev pub bar : ℕ
bar = 47

-- the byte of the digit of n at a place, counted from the last
abbrev pub digit_at : ℕ → ℕ → ℕ
digit_at n place = nought + n / 10 ^ place % 10

-- the last digits of n, as many as the width, the most significant first; noughts where n has fewer
unfoldable pub digits : ℕ → ℕ → List ℕ
digits zero n = []
digits (suc w) n = digit_at n w ∷ digits w n

-- a byte from 0 to 9
abbrev pub is_digit : ℕ → Bool
is_digit b = nat_le nought b && nat_le b nine

-- nothing but digits
abbrev pub all_digits : List ℕ → Bool
all_digits bs = list_all is_digit bs

-- the number that digits write: each counts at its place
unfoldable pub value_of : List ℕ → ℕ
value_of [] = 0
value_of (b ∷ bs) = (b - nought) * 10 ^ length bs + value_of bs

-- the most digits that are read as one number
abbrev pub most_digits : ℕ
most_digits = 9

-- digits, one at least and no more than are read
abbrev pub is_number : List ℕ → Bool
is_number bs = (nat_le 1 (length bs) && nat_le (length bs) most_digits) && all_digits bs

-- the number that bytes write, if they write one
unfoldable pub number_of : List ℕ → Option ℕ
number_of bs = cond (is_number bs) (Some (value_of bs)) None

-- bars over a whole field
abbrev pub bars : ℕ → List ℕ
bars width = replicate width bar

-- bars, one at least
abbrev pub all_bars : List ℕ → Bool
all_bars bs = nat_le 1 (length bs) && list_all (λ b. b == bar) bs
