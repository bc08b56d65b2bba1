-- What a day source means: a grid, which holds a value or nothing at each pair of a day and an element's number.
use Rattle.std.specs.Prelude.{◌≡◌, ℕ, zero, suc, ◌+◌, ◌-◌, ◌*◌, ◌/◌, ◌%◌, Bool, true, cond, ◌&&◌, length, ℤ, pos, is_some, Some, None, Option}
use Rattle.station.specs.Numbers.{within, same}
use Rattle.station.specs.Elements.{elements, in_range}

-- for each day and element number a value or nothing
abbrev pub Grid : Type 0
Grid = ℤ → ℤ → Option ℤ

-- nothing anywhere
abbrev pub empty_grid : Grid
empty_grid d e = None

-- the grid with x at the pair of d and e, and as it was elsewhere
abbrev pub with_pair : Grid → ℤ → ℤ → Option ℤ → Grid
with_pair g d e x d' e' = cond (same d' d && same e' e) x (g d' e')

-- the days of the longest month
abbrev pub most_days : ℕ
most_days = 31

-- a day of some month
abbrev pub is_day : ℤ → Bool
is_day d = within (pos 1) (pos most_days) d

-- nothing, or on a day that there is a value of the element's range
abbrev pub valid_at : ℤ → ℤ → Option ℤ → Bool
valid_at d e None = true
valid_at d e (Some v) = is_day d && in_range e v

-- every value of the grid stands on a day from 1 to 31, at an element from 1 to 12, and lies in that element's range
abbrev pub Valid : Grid → Type 0
Valid g = (d e : ℤ) → valid_at d e (g d e) ≡ true

-- the number of pairs
abbrev pub pair_count : ℕ
pair_count = most_days * length elements

-- the place of a pair among all, in order of day and then of element, from 0
abbrev pub place : ℕ → ℕ → ℕ
place day element = length elements * (day - 1) + (element - 1)

-- whether the pair at place k is filled
abbrev pub filled_at : Grid → ℕ → Bool
filled_at g k = is_some (g (pos (suc (k / length elements))) (pos (suc (k % length elements))))

-- how many of the numbers below n pass
unfoldable pub count : (ℕ → Bool) → ℕ → ℕ
count passes zero = 0
count passes (suc n) = cond (passes n) 1 0 + count passes n

-- how many pairs are filled
unfoldable pub filled : Grid → ℕ
filled g = count (filled_at g) pair_count

-- on how many of the days from 1 to last the element e holds a value
unfoldable pub days_held : Grid → ℤ → ℕ → ℕ
days_held g e last = count (λ k. is_some (g (pos (suc k)) e)) last
