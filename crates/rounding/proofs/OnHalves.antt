-- Division to the nearest whole number, halves up. Assumes nothing.
use Rattle.std.proofs.Common.{◌≡◌, ℕ, ◌+◌, ◌*◌, ◌<◌, ◌≤◌, mul_assoc, mul-one, mul-add, arith}
use native.Mathlib.Nat.{div-add-mod}
use Rattle.std.proofs.lemmas.Nat.{mul-le, mod_below, div_below}
use Rattle.rounding.specs.Halves.{half_up, LowEnough, HighEnough, NearestUp}

pub half_up_nearest : (a n : ℕ) → 0 < n → NearestUp a n (half_up a n)
half_up_nearest a n h =
    let q = half_up a n in
    let whole = div-add-mod (2 * a + n) (2 * n) in
    let rest = mod_below (2 * a + n) (2 * n) (omega arith) in
    let regroup : 2 * n * q ≡ 2 * (n * q) = mul_assoc 2 n q in
    record { low_enough = omega arith; high_enough = omega arith }

pub half_up_most : (a n : ℕ) → 0 < n → half_up a n ≤ a
half_up_most a n h =
    let grow = mul-le a 1 a n (omega arith) h in
    let below : half_up a n < a + 1 = div_below (2 * a + n) (2 * n) (a + 1) (omega arith) (omega arith) in
    omega arith

-- a larger factor makes a product larger by n at least
pub times_more : (n a b : ℕ) → a < b → n * a + n ≤ n * b
times_more n a b h =
    let k = mul-le n (a + 1) n b (omega arith) (omega arith) in
    omega (arith, mul-add n a 1, mul-one n)

-- of two whole numbers a smaller one that is high enough leaves the larger too high
pub not_both : (a n k l : ℕ) → k < l → HighEnough a n k → LowEnough a n l → ⊥
not_both a n k l h high low = let k = times_more n k l h in omega arith
