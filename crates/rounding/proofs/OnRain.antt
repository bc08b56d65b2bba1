-- The code of a month's rain is what the report has for it. Assumes nothing.
use Rattle.std.proofs.Common.{◌≡◌, ℕ, ◌<◌, ◌≤◌, true, false, ◌⊎◌, sym, refl, subst, inl, inr, ⊎_elim, arith}
use Rattle.std.proofs.lemmas.Bool.{cases_lt, cases_eq, le-leb, lt-leb}
use Rattle.std.proofs.lemmas.Bool.Decides.{nat_tests}
use Rattle.rounding.specs.Halves.{half_up, NearestUp}
use Rattle.rounding.specs.Rain.{one_millimetre, below_one_millimetre, most_coded, first_of_most, is_below_one_millimetre, rain_code, StandsFor, Coded}
use Rattle.rounding.proofs.OnHalves.{half_up_nearest}

-- the ways of an amount: none, below one millimetre, the most, and between
by_amount : {P : Type 0} (tenths : ℕ) → (tenths ≡ 0 → P) → (0 < tenths → tenths < one_millimetre → P) → (first_of_most ≤ tenths → P) → (one_millimetre ≤ tenths → tenths < first_of_most → P) → P
by_amount tenths dry little much other =
    ⊎_elim
    (λ low. ⊎_elim dry (λ wet. little (omega arith) low) (cases_eq tenths 0))
    (λ high. ⊎_elim (λ below. other high below) much (cases_lt tenths first_of_most))
    (cases_lt tenths one_millimetre)

only : (tenths a b : ℕ) → StandsFor tenths a → StandsFor tenths b → a ≡ b
only tenths a b p q =
    by_amount tenths
    (λ none. let x = p.dry.1 none in let y = q.dry.1 none in omega arith)
    (λ from to. let x = p.little.1 (from, to) in let y = q.little.1 (from, to) in omega arith)
    (λ from. let x = p.much.1 from in let y = q.much.1 from in omega arith)
    (λ from to. let x = p.other from to in let y = q.other from to in omega arith)

-- the code by the ways of the program
pub little_code : (tenths : ℕ) → is_below_one_millimetre tenths ≡ true → below_one_millimetre ≡ rain_code tenths
unfolding rain_code
little_code tenths little = rw little

pub much_code : (tenths : ℕ) → is_below_one_millimetre tenths ≡ false → first_of_most ≤ tenths → most_coded ≡ rain_code tenths
unfolding rain_code
much_code tenths enough much = rw (enough, le-leb first_of_most tenths much)

pub whole_code : (tenths : ℕ) → is_below_one_millimetre tenths ≡ false → tenths < first_of_most → half_up tenths one_millimetre ≡ rain_code tenths
unfolding rain_code
whole_code tenths enough less = rw (enough, lt-leb first_of_most tenths less)

dry_code : rain_code 0 ≡ 0
unfolding rain_code
dry_code = refl

is_little : (tenths : ℕ) → 0 < tenths → tenths < one_millimetre → is_below_one_millimetre tenths ≡ true
is_little tenths from to = grind (arith, nat_tests)

is_enough : (tenths : ℕ) → one_millimetre ≤ tenths → is_below_one_millimetre tenths ≡ false
is_enough tenths from = grind (arith, nat_tests)

stands_dry : (tenths code : ℕ) → tenths ≡ 0 → code ≡ 0 → StandsFor tenths code
stands_dry tenths code t c = record {
  dry = (λ _. t, λ _. c);
  little = (λ e. absurd (omega arith), λ e. absurd (omega arith));
  much = (λ e. absurd (omega arith), λ e. absurd (omega arith));
  other = λ from to. absurd (omega arith);
}

stands_little : (tenths code : ℕ) → 0 < tenths → tenths < one_millimetre → code ≡ below_one_millimetre → StandsFor tenths code
stands_little tenths code from to c = record {
  dry = (λ e. absurd (omega arith), λ e. absurd (omega arith));
  little = (λ _. (from, to), λ _. c);
  much = (λ e. absurd (omega arith), λ e. absurd (omega arith));
  other = λ from' to'. absurd (omega arith);
}

stands_much : (tenths code : ℕ) → first_of_most ≤ tenths → code ≡ most_coded → StandsFor tenths code
stands_much tenths code from c = record {
  dry = (λ e. absurd (omega arith), λ e. absurd (omega arith));
  little = (λ e. absurd (omega arith), λ e. absurd (omega arith));
  much = (λ _. from, λ _. c);
  other = λ from' to'. absurd (omega arith);
}

stands_other : (tenths code : ℕ) → one_millimetre ≤ tenths → tenths < first_of_most → NearestUp tenths one_millimetre code → StandsFor tenths code
stands_other tenths code from to near = record {
  dry = (λ e. absurd (omega arith), λ e. absurd (omega arith));
  little = (λ e. absurd (omega arith), λ e. absurd (omega arith));
  much = (λ e. absurd (omega arith), λ e. absurd (omega arith));
  other = λ from' to'. record { low = omega arith; high = omega arith; least = omega arith; most = omega arith };
}

stands : (tenths : ℕ) → StandsFor tenths (rain_code tenths)
stands tenths =
    by_amount tenths
    (λ none. subst (λ (t : ℕ). StandsFor t (rain_code t)) (sym none) (stands_dry 0 (rain_code 0) refl dry_code))
    (λ from to. stands_little tenths (rain_code tenths) from to (sym (little_code tenths (is_little tenths from to))))
    (λ from. stands_much tenths (rain_code tenths) from (sym (much_code tenths (is_enough tenths (omega arith)) from)))
    (λ from to.
    subst (λ (code : ℕ). StandsFor tenths code) (whole_code tenths (is_enough tenths from) to)
    (stands_other tenths (half_up tenths one_millimetre) from to (half_up_nearest tenths one_millimetre (omega arith))))

-- a code that stands for an amount has one of the report's forms
digits : (tenths code : ℕ) → StandsFor tenths code → (code ≤ most_coded) ⊎ (code ≡ below_one_millimetre)
digits tenths code p =
    by_amount tenths
    (λ none. let x = p.dry.1 none in inl (omega arith))
    (λ from to. inr (p.little.1 (from, to)))
    (λ from. let x = p.much.1 from in inl (omega arith))
    (λ from to. let x = p.other from to in inl (omega arith))

coded : (tenths : ℕ) → Coded tenths (rain_code tenths)
coded tenths = record {
  stands = stands tenths;
  only = λ another p. only tenths another (rain_code tenths) p (stands tenths);
  digits = digits tenths (rain_code tenths) (stands tenths);
}

-- whoever answers the code of the definition answers by the law
pub coded_by : (tenths code : ℕ) → code ≡ rain_code tenths → Coded tenths code
coded_by tenths code e = subst (λ (x : ℕ). Coded tenths x) (sym e) (coded tenths)
