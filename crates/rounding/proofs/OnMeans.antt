-- The mean is the number nearest to the quotient, and lies between the lowest and the highest value. Assumes nothing.
use Rattle.std.proofs.Common.{◌≡◌, ℕ, zero, suc, ◌+◌, ◌*◌, ◌<◌, ◌≤◌, ℤ, pos, negsuc, ◌+ℤ◌, ◌-ℤ◌, ◌*ℤ◌, neg_ℤ, nat_abs, ◌≤ℤ◌, ◌<ℤ◌, Some, None, Option, sym, refl, ap, ◌∙◌, subst, arith}
use Rattle.std.proofs.lemmas.Int.{ints, by_lt_z}
use Rattle.rounding.specs.Halves.{half_up}
use Rattle.rounding.specs.Means.{rounded, mean_of, Nearest, MeanLaw, Averaged}
use Rattle.rounding.proofs.OnHalves.{half_up_nearest, times_more}

below_zero : (a n q : ℕ) → 2 * (n * q) ≤ 2 * suc a + n → 2 * suc a < 2 * (n * q) + n → Nearest (negsuc a) n (neg_ℤ (pos q))
below_zero a n zero low high = record { within = omega (arith, ints); away = λ e. omega (arith, ints) }
below_zero a n (suc q) low high = record { within = omega (arith, ints); away = λ e. omega (arith, ints) }

pub rounded_nearest : (s : ℤ) (n : ℕ) → 0 < n → Nearest s n (rounded s n)
rounded_nearest (pos a) n h =
    let near = half_up_nearest a n h in
    record { within = omega (arith, ints); away = λ e. omega (arith, ints) }
rounded_nearest (negsuc a) n h =
    let near = half_up_nearest (suc a) n h in
    below_zero a n (half_up (suc a) n) near.low_enough near.high_enough

-- two numbers are not both nearest: each would be a half away, on its side of zero
apart : (s : ℤ) (n : ℕ) (m m' : ℤ) → 0 < n → Nearest s n m → Nearest s n m' → m <ℤ m' → ⊥
apart s n (pos a) (pos b) h p q lt =
    let k = times_more n a b (omega (arith, ints)) in
    let t : 2 * nat_abs (pos n *ℤ pos a -ℤ s) ≡ n = omega (arith, ints) in
    let w = p.away t in
    omega (arith, ints)
apart s n (pos a) (negsuc b) h p q lt = omega (arith, ints)
apart s n (negsuc a) (pos b) h p q lt =
    let k = times_more n 0 (suc a) (omega arith) in
    let t : 2 * nat_abs (pos n *ℤ negsuc a -ℤ s) ≡ n = omega (arith, ints) in
    let t' : 2 * nat_abs (pos n *ℤ pos b -ℤ s) ≡ n = omega (arith, ints) in
    let w = p.away t in
    let w' = q.away t' in
    omega (arith, ints)
apart s n (negsuc a) (negsuc b) h p q lt =
    let k = times_more n (suc b) (suc a) (omega (arith, ints)) in
    let t' : 2 * nat_abs (pos n *ℤ negsuc b -ℤ s) ≡ n = omega (arith, ints) in
    let w' = q.away t' in
    omega (arith, ints)

pub nearest_only : (s : ℤ) (n : ℕ) (m m' : ℤ) → 0 < n → Nearest s n m → Nearest s n m' → m ≡ m'
nearest_only s n m m' h p q =
    by_lt_z m m' (λ lt. absurd (apart s n m m' h p q lt))
    (λ le. by_lt_z m' m (λ lt. absurd (apart s n m' m h q p lt)) (λ ge. omega (arith, ints)))

-- n times a larger number is larger by n at least
times_more_int : (n : ℕ) (x y : ℤ) → x <ℤ y → ((pos n *ℤ x) +ℤ pos n) ≤ℤ (pos n *ℤ y)
times_more_int n (pos a) (pos b) lt = let k = times_more n a b (omega (arith, ints)) in omega (arith, ints)
times_more_int n (pos a) (negsuc b) lt = absurd (omega (arith, ints))
times_more_int n (negsuc a) (pos b) lt = let k = times_more n 0 (suc a) (omega arith) in omega (arith, ints)
times_more_int n (negsuc a) (negsuc b) lt = let k = times_more n (suc b) (suc a) (omega (arith, ints)) in omega (arith, ints)

from_lowest : (s : ℤ) (n : ℕ) (m : ℤ) → 0 < n → Nearest s n m → (lowest : ℤ) → (pos n *ℤ lowest) ≤ℤ s → lowest ≤ℤ m
from_lowest s n m h near lowest le =
    by_lt_z m lowest (λ lt. let k = times_more_int n m lowest lt in let w = near.within in absurd (omega (arith, ints))) (λ ge. ge)

to_highest : (s : ℤ) (n : ℕ) (m : ℤ) → 0 < n → Nearest s n m → (highest : ℤ) → s ≤ℤ (pos n *ℤ highest) → m ≤ℤ highest
to_highest s n m h near highest le =
    by_lt_z highest m (λ lt. let k = times_more_int n highest m lt in let w = near.within in absurd (omega (arith, ints))) (λ ge. ge)

pub mean_law : (s : ℤ) (n : ℕ) → 0 < n → MeanLaw s n (rounded s n)
mean_law s n h =
    let near = rounded_nearest s n h in
    record {
      nearest = near;
      only = λ other p. nearest_only s n other (rounded s n) h p near;
      from_lowest = from_lowest s n (rounded s n) h near;
      to_highest = to_highest s n (rounded s n) h near;
    }

averaged : (s : ℤ) (n : ℕ) → Averaged s n (mean_of s n)
unfolding mean_of
averaged s zero = refl
averaged s (suc n) = (omega arith, mean_law s (suc n) (omega arith))

-- whoever answers the mean of the definition answers by the law
pub averaged_by : (s : ℤ) (n : ℕ) (answer : Option ℤ) → answer ≡ mean_of s n → Averaged s n answer
averaged_by s n answer e = subst (λ (r : Option ℤ). Averaged s n r) (sym e) (averaged s n)

-- the mean by the code's three ways
pub mean_of_none : (s : ℤ) (n : ℕ) → n ≡ 0 → None ≡ mean_of s n
unfolding mean_of
mean_of_none s zero e = refl
mean_of_none s (suc n) e = absurd (omega arith)

pub mean_below : (s : ℤ) (n a : ℕ) {m : ℤ} → 0 < n → s <ℤ pos 0 → a ≡ nat_abs s → m ≡ neg_ℤ (pos (half_up a n)) → Some m ≡ mean_of s n
unfolding mean_of
mean_below s zero a h lt size e = absurd (omega arith)
mean_below (pos k) (suc n) a h lt size e = absurd (omega (arith, ints))
mean_below (negsuc k) (suc n) a h lt size e = ap Some (e ∙ ap (λ x. neg_ℤ (pos (half_up x (suc n)))) size)

pub mean_above : (s : ℤ) (n a : ℕ) {m : ℤ} → 0 < n → pos 0 ≤ℤ s → a ≡ nat_abs s → m ≡ pos (half_up a n) → Some m ≡ mean_of s n
unfolding mean_of
mean_above s zero a h le size e = absurd (omega arith)
mean_above (pos k) (suc n) a h le size e = ap Some (e ∙ ap (λ x. pos (half_up x (suc n))) size)
mean_above (negsuc k) (suc n) a h le size e = absurd (omega (arith, ints))
