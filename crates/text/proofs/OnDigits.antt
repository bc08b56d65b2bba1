-- Digits and the number that they write. Assumes nothing.
use Rattle.std.proofs.Common.{◌≡◌, ℕ, zero, suc, ◌+◌, ◌-◌, ◌*◌, ◌/◌, ◌%◌, ◌^◌, ◌<◌, ◌≤◌, true, false, eqb, List, [], ◌∷◌, length, Some, None, Option, sym, refl, ap, ◌∙◌, ⊎_elim, mod-lt, mod-eq_of_lt, pow-suc, add-one, arith, lit<}
use native.Mathlib.Nat.{pow-succ', div-div-eq-div-mul}
use lib.Arith.{digits_div, digits_mod, digits_lt, mod-mul}
use Rattle.std.proofs.lemmas.List.{length-replicate}
use Rattle.std.proofs.lemmas.Bool.{both_ways, cases_Bool, and_parts, and_from, and_left, and_right, cond-true, cond-false, eqb-true, ne_eqb, le-leb}
use Rattle.std.proofs.lemmas.Bool.Decides.{nat_tests}
use Rattle.std.specs.List.{list_all}
use Rattle.text.specs.Digits.{nought, nine, bar, digit_at, digits, is_digit, all_digits, value_of, most_digits, is_number, number_of, bars, all_bars}
use Rattle.text.specs.Undo.{DigitsUndo, BarsUndo}

ten_positive : (w : ℕ) → 0 < 10 ^ w
ten_positive zero = omega arith
ten_positive (suc w) = rw pow-suc (omega (arith, ten_positive w))

pub digit_bounds : (b : ℕ) → is_digit b ≡ true → (nought ≤ b) × (b ≤ nine)
digit_bounds b h = (grind (arith, nat_tests), grind (arith, nat_tests))

-- ---- the digits of a number
pub length_digits : (w n : ℕ) → length (digits w n) ≡ w
unfolding digits
length_digits zero n = refl
length_digits (suc w) n = ap suc (length_digits w n)

digit_at_digit : (n place : ℕ) → is_digit (digit_at n place) ≡ true
digit_at_digit n place = let low = mod-lt (n / 10 ^ place) {m = 10} (lit< tt) in grind (arith, nat_tests)

pub digits_all : (w n : ℕ) → all_digits (digits w n) ≡ true
unfolding digits
digits_all zero n = refl
digits_all (suc w) n = and_from _ _ (digit_at_digit n w) (digits_all w n)

-- one place further to the front
pub front_more : (n front place : ℕ) → front ≡ n / 10 ^ place → front / 10 ≡ n / 10 ^ (place + 1)
front_more n front place e =
    ap (λ x. x / 10) e ∙ div-div-eq-div-mul n (10 ^ place) 10 ∙ ap (λ x. n / x) (sym (ap (λ k. 10 ^ k) (add-one place) ∙ pow-suc 10 place))

-- ---- the number that digits write
pub value_below : (bs : List ℕ) → all_digits bs ≡ true → value_of bs < 10 ^ length bs
unfolding value_of
value_below [] h = omega arith
value_below (b ∷ bs) h =
    let parts = and_parts (is_digit b) (all_digits bs) h in
    let high = (digit_bounds b parts.0).1 in
    let digit : b - nought < 10 = omega arith in
    rw (pow-succ' 10 (length bs)) (digits_lt digit (value_below bs parts.1))

-- of a number's digits the value is what the width keeps of the number
pub value_digits : (w n : ℕ) → value_of (digits w n) ≡ n % 10 ^ w
unfolding digits value_of
value_digits zero n = omega arith
value_digits (suc w) n =
    let place : 10 ^ length (digits w n) ≡ 10 ^ w = ap (λ k. 10 ^ k) (length_digits w n) in
    let digit : nought + n / 10 ^ w % 10 - nought ≡ n / 10 ^ w % 10 = omega arith in
    (λ i. digit i * place i + value_digits w n i) ∙ sym (mod-mul n {m = 10} {c = 10 ^ w} (lit< tt) (ten_positive w))
    ∙ ap (λ x. n % x) (sym (pow-succ' 10 w))

-- digits are those of their value, whatever stands before them
digits_value : (k : ℕ) (bs : List ℕ) → all_digits bs ≡ true → digits (length bs) (k * 10 ^ length bs + value_of bs) ≡ bs
unfolding digits value_of
digits_value k [] h = refl
digits_value k (b ∷ bs) h =
    let parts = and_parts (is_digit b) (all_digits bs) h in
    let bounds = digit_bounds b parts.0 in
    let power = 10 ^ length bs in
    let below = value_below bs parts.1 in
    let digit : b - nought < 10 = omega (arith, bounds.1) in
    let split : k * 10 ^ suc (length bs) + ((b - nought) * power + value_of bs) ≡ (k * 10 + (b - nought)) * power + value_of bs =
    rw (pow-succ' 10 (length bs)) (omega arith) in
    let front : ((k * 10 + (b - nought)) * power + value_of bs) / power % 10 ≡ b - nought =
    ap (λ x. x % 10) (digits_div (k * 10 + (b - nought)) below) ∙ digits_mod k digit in
    let first : digit_at ((k * 10 + (b - nought)) * power + value_of bs) (length bs) ≡ b = ap (λ x. nought + x) front ∙ omega (arith, bounds.0) in
    let rest = digits_value (k * 10 + (b - nought)) bs parts.1 in
    ap (λ n. digit_at n (length bs) ∷ digits (length bs) n) split ∙ (λ i. first i ∷ rest i)

-- ---- what bytes are read as
pub is_number_from : (bs : List ℕ) → 1 ≤ length bs → length bs ≤ most_digits → all_digits bs ≡ true → number_of bs ≡ Some (value_of bs)
unfolding number_of
is_number_from bs some most all =
    cond-true (is_number bs) _ _ (and_from _ _ (and_from _ _ (le-leb 1 (length bs) some) (le-leb (length bs) most_digits most)) all)

-- what a number that was read tells of its bytes
record Number (bs : List ℕ) (n : ℕ) : Type 0 where
  pub some : 1 ≤ length bs
  pub all : all_digits bs ≡ true
  pub value : n ≡ value_of bs

number_tells : (bs : List ℕ) (n : ℕ) → number_of bs ≡ Some n → Number bs n
unfolding number_of
number_tells bs n e =
    ⊎_elim
    (λ holds.
    let parts = and_parts _ (all_digits bs) holds in
    let value = cond-true (is_number bs) (Some (value_of bs)) None holds in
    record { some = grind (arith, nat_tests); all = parts.1; value = cc })
    (λ fails.
    let none = cond-false (is_number bs) (Some (value_of bs)) None fails in
    let z : ◌≡◌ {A = ℕ} 0 1 = cc in
    absurd (omega arith))
    (cases_Bool (is_number bs))

there : (w n : ℕ) → n < 10 ^ w → 0 < w → w ≤ most_digits → number_of (digits w n) ≡ Some n
there w n fits some most =
    is_number_from (digits w n) (rw (length_digits w n) (omega arith)) (rw (length_digits w n) most) (digits_all w n)
    ∙ ap Some (value_digits w n ∙ mod-eq_of_lt fits)

back : (bs : List ℕ) (n : ℕ) → number_of bs ≡ Some n → digits (length bs) n ≡ bs
back bs n e =
    let number = number_tells bs n e in
    ap (digits (length bs)) (number.value ∙ omega arith) ∙ digits_value 0 bs number.all

below : (bs : List ℕ) (n : ℕ) → number_of bs ≡ Some n → n < 10 ^ length bs
below bs n e = let number = number_tells bs n e in let most = value_below bs number.all in omega arith

-- ---- bars
no_other_bars : (w : ℕ) → list_all (λ b. eqb b bar) (bars w) ≡ true
no_other_bars zero = refl
no_other_bars (suc w) = no_other_bars w

bars_there : (w : ℕ) → 0 < w → all_bars (bars w) ≡ true
bars_there w some = and_from _ _ (le-leb 1 (length (bars w)) (rw (length-replicate w bar) (omega arith))) (no_other_bars w)

bars_are : (bs : List ℕ) → list_all (λ b. eqb b bar) bs ≡ true → bars (length bs) ≡ bs
bars_are [] h = refl
bars_are (b ∷ bs) h =
    let parts = and_parts (eqb b bar) (list_all (λ x. eqb x bar) bs) h in
    let first = sym (eqb-true b bar parts.0) in
    let rest = bars_are bs parts.1 in
    λ i. first i ∷ rest i

bars_back : (bs : List ℕ) → all_bars bs ≡ true → bars (length bs) ≡ bs
bars_back bs h = bars_are bs (and_parts _ (list_all (λ b. eqb b bar) bs) h).1

-- the first of some digits is no bar
other_first : (bs : List ℕ) → 1 ≤ length bs → all_digits bs ≡ true → list_all (λ b. eqb b bar) bs ≡ false
other_first [] some all = absurd (omega arith)
other_first (b ∷ bs) some all =
    let low = (digit_bounds b (and_parts (is_digit b) (all_digits bs) all).0).0 in
    and_left _ _ (ne_eqb b bar (λ same. omega arith))

barless : (bs : List ℕ) (n : ℕ) → number_of bs ≡ Some n → all_bars bs ≡ false
barless bs n e = let number = number_tells bs n e in and_right _ _ (other_first bs number.some number.all)

apart : (bs : List ℕ) → all_bars bs ≡ true → number_of bs ≡ None
apart bs h = none (number_of bs) refl
  where
    none : (o : Option ℕ) → number_of bs ≡ o → number_of bs ≡ None
    none None e = e
    none (Some n) e = absurd (both_ways (all_bars bs) (barless bs n e) h)

pub digits_undo : DigitsUndo
digits_undo = record { there = there; back = back; below = below; width = length_digits; apart = apart; barless = barless }

pub bars_undo : BarsUndo
bars_undo = record { there = bars_there; back = bars_back; width = λ w. length-replicate w bar }
