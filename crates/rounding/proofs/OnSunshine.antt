-- Sunshine in whole hours and as a percentage is the number nearest to it. Assumes nothing.
use Rattle.std.proofs.Common.{◌≡◌, ℕ, zero, suc, ◌*◌, ◌<◌, ◌≤◌, min, max, sym, refl, subst, ⊎_elim, arith}
use Rattle.std.proofs.lemmas.Nat.{mul-le}
use Rattle.std.proofs.lemmas.Bool.{cases_lt}
use Rattle.rounding.specs.Halves.{half_up, NearestUp}
use Rattle.rounding.specs.Sunshine.{one_hour, whole_hours, Hours, HoursLaw, no_normal, least_percentage, most_percentage, hundredths, percentage_of, NearestPercentage, Percentage, PercentageLaw}
use Rattle.rounding.proofs.OnHalves.{half_up_nearest, not_both}

hours : (tenths : ℕ) → Hours tenths (whole_hours tenths)
hours tenths =
    let near = half_up_nearest tenths one_hour (omega arith) in
    record { low = omega arith; high = omega arith }

hours_only : (tenths a b : ℕ) → Hours tenths a → Hours tenths b → a ≡ b
hours_only tenths a b p q = omega arith

-- whoever answers the hours of the definition answers by the law
pub hours_by : (tenths h : ℕ) → h ≡ whole_hours tenths → HoursLaw tenths h
hours_by tenths h e =
    subst (λ (x : ℕ). HoursLaw tenths x) (sym e)
    (record { stands = hours tenths; only = λ other p. hours_only tenths other (whole_hours tenths) p (hours tenths) })

-- two percentages of one sunshine are not apart
apart : (tenths normal a b : ℕ) → a < b → NearestPercentage tenths normal a → NearestPercentage tenths normal b → ⊥
apart tenths normal a b h p q =
    not_both (hundredths tenths) normal a b h (p.high_enough (omega arith)) (q.low_enough (omega arith))

nearest_only : (tenths normal a b : ℕ) → NearestPercentage tenths normal a → NearestPercentage tenths normal b → a ≡ b
nearest_only tenths normal a b p q =
    ⊎_elim (λ h. absurd (apart tenths normal a b h p q))
    (λ h. ⊎_elim (λ h'. absurd (apart tenths normal b a h' q p)) (λ h'. omega arith) (cases_lt b a)) (cases_lt a b)

only : (tenths normal a b : ℕ) → Percentage tenths normal a → Percentage tenths normal b → a ≡ b
only tenths zero a b p q = let x = p.without_normal refl in let y = q.without_normal refl in omega arith
only zero (suc n) a b p q = let x = p.dark (omega arith) refl in let y = q.dark (omega arith) refl in omega arith
only (suc t) (suc n) a b p q = nearest_only (suc t) (suc n) a b (p.sunny (omega arith) (omega arith)) (q.sunny (omega arith) (omega arith))

le_times : (n a b : ℕ) → a ≤ b → n * a ≤ n * b
le_times n a b h = mul-le n a n b (omega arith) h

-- the nearest number, put between the least and the most, is the nearest percentage
pushed : (tenths normal near : ℕ) → NearestUp (hundredths tenths) normal near → NearestPercentage tenths normal (max (min near most_percentage) least_percentage)
pushed tenths normal near n = record {
  least = omega arith;
  most = omega arith;
  low_enough = λ h. let k = le_times normal (max (min near most_percentage) least_percentage) near (omega arith) in omega arith;
  high_enough = λ h. let k = le_times normal near (max (min near most_percentage) least_percentage) (omega arith) in omega arith;
}

percentage : (tenths normal : ℕ) → Percentage tenths normal (percentage_of tenths normal)
unfolding percentage_of
percentage tenths zero = record { without_normal = λ _. refl; dark = λ h. absurd (omega arith); sunny = λ h. absurd (omega arith) }
percentage zero (suc n) = record { without_normal = λ e. absurd (omega arith); dark = λ _ _. refl; sunny = λ _ h. absurd (omega arith) }
percentage (suc t) (suc n) = record {
  without_normal = λ e. absurd (omega arith);
  dark = λ _ e. absurd (omega arith);
  sunny = λ _ _. pushed (suc t) (suc n) (half_up (hundredths (suc t)) (suc n)) (half_up_nearest (hundredths (suc t)) (suc n) (omega arith));
}

-- whoever answers the percentage of the definition answers by the law
pub percentage_by : (tenths normal p : ℕ) → p ≡ percentage_of tenths normal → PercentageLaw tenths normal p
percentage_by tenths normal p e =
    subst (λ (x : ℕ). PercentageLaw tenths normal x) (sym e)
    (record { stands = percentage tenths normal; only = λ other q. only tenths normal other (percentage_of tenths normal) q (percentage tenths normal) })

-- the percentage by the code's three ways
pub without_normal : (tenths normal : ℕ) → normal ≡ 0 → no_normal ≡ percentage_of tenths normal
unfolding percentage_of
without_normal tenths zero e = refl
without_normal tenths (suc n) e = absurd (omega arith)

pub percentage_none : (tenths normal : ℕ) → tenths ≡ 0 → 0 < normal → 0 ≡ percentage_of tenths normal
unfolding percentage_of
percentage_none tenths zero t n = absurd (omega arith)
percentage_none zero (suc n) t h = refl
percentage_none (suc t) (suc n) e h = absurd (omega arith)

pub percentage_some : (tenths normal : ℕ) → 0 < tenths → 0 < normal → percentage_of tenths normal ≡ max (min (half_up (hundredths tenths) normal) most_percentage) least_percentage
unfolding percentage_of
percentage_some zero normal t n = absurd (omega arith)
percentage_some (suc t) zero h n = absurd (omega arith)
percentage_some (suc t) (suc n) h k = refl
