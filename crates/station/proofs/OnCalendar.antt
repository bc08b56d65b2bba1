-- The length of a month, by the code's two ways, and its bounds. Assumes nothing.
use Rattle.std.proofs.Common.{◌≡◌, ℕ, zero, suc, ◌-◌, ◌<◌, ◌≤◌, Bool, true, false, ◌&&◌, eqb, leb, List, [], ◌∷◌, length, get_or, sym, refl, arith, lit≤}
use Rattle.std.proofs.lemmas.Bool.{and_parts, leb-true, cond-false, cond_both}
use Rattle.station.specs.Calendar.{common_lengths, is_leap, month_length}

pub leap_february : (year month : ℕ) → month ≡ 2 → is_leap year ≡ true → 29 ≡ month_length year month
unfolding month_length
leap_february year month f l = rw (f, l)

pub common_month : (year month : ℕ) → (eqb month 2 && is_leap year) ≡ false → get_or common_lengths (month - 1) 0 ≡ month_length year month
unfolding month_length
common_month year month h = sym (cond-false (eqb month 2 && is_leap year) 29 (get_or common_lengths (month - 1) 0) h)

-- each number of a list lies within low and high
abbrev each_within : ℕ → ℕ → List ℕ → Bool
each_within low high [] = true
each_within low high (x ∷ rest) = (leb low x && leb x high) && each_within low high rest

within_at : (low high : ℕ) (xs : List ℕ) (k : ℕ) → each_within low high xs ≡ true → k < length xs → (low ≤ get_or xs k 0) × (get_or xs k 0 ≤ high)
within_at low high [] k h l = absurd (omega arith)
within_at low high (x ∷ rest) zero h l =
    let p = and_parts (leb low x && leb x high) (each_within low high rest) h in
    let q = and_parts (leb low x) (leb x high) p.0 in
    (leb-true low x q.0, leb-true x high q.1)
within_at low high (x ∷ rest) (suc k) h l =
    within_at low high rest k (and_parts (leb low x && leb x high) (each_within low high rest) h).1 (omega arith)

pub common_bounds : (month : ℕ) → 1 ≤ month → month ≤ 12 → (28 ≤ get_or common_lengths (month - 1) 0) × (get_or common_lengths (month - 1) 0 ≤ 31)
common_bounds month from to = within_at 28 31 common_lengths (month - 1) refl (omega arith)

at_most : (low high : ℕ) (xs : List ℕ) (k : ℕ) → each_within low high xs ≡ true → get_or xs k 0 ≤ high
at_most low high [] k h = omega arith
at_most low high (x ∷ rest) zero h =
    let p = and_parts (leb low x && leb x high) (each_within low high rest) h in
    leb-true x high (and_parts (leb low x) (leb x high) p.0).1
at_most low high (x ∷ rest) (suc k) h = at_most low high rest k (and_parts (leb low x && leb x high) (each_within low high rest) h).1

-- no month has more days, whatever its number
pub length_most : (year month : ℕ) → month_length year month ≤ 31
unfolding month_length
length_most year month =
    cond_both (eqb month 2 && is_leap year) 29 (get_or common_lengths (month - 1) 0) (λ n. n ≤ 31) (λ _. lit≤ tt) (λ _. at_most 28 31 common_lengths (month - 1) refl)
