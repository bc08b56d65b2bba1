-- Reading a number byte by byte. Assumes nothing.
use Rattle.std.proofs.Common.{◌≡◌, ℕ, suc, ◌+◌, ◌-◌, ◌*◌, ◌^◌, ◌<◌, ◌≤◌, true, false, cond, ◌&&◌, List, length, get_or, drop, Some, None, sym, refl, ap, ◌∙◌, subst, pow-suc, add-one, arith, lit<}
use native.Mathlib.Nat.{pow-le-pow_right}
use Rattle.std.proofs.lemmas.List.{at_drop_more, at_drop_all}
use Rattle.std.proofs.lemmas.Bool.{and_left, and_right, cond-false}
use Rattle.std.proofs.lemmas.Bool.Decides.{nat_tests}
use Rattle.text.specs.Digits.{nought, is_digit, all_digits, value_of, most_digits, is_number, number_of}
use Rattle.text.proofs.OnDigits.{digit_bounds, is_number_from}

-- ---- no number
pub too_short : (bs : List ℕ) → length bs < 1 → None ≡ number_of bs
unfolding number_of
too_short bs h = sym (cond-false (is_number bs) _ _ (grind (arith, nat_tests)))

pub too_long : (bs : List ℕ) → most_digits < length bs → None ≡ number_of bs
unfolding number_of
too_long bs h = sym (cond-false (is_number bs) _ _ (grind (arith, nat_tests)))

pub not_digits : (bs : List ℕ) → all_digits bs ≡ false → None ≡ number_of bs
unfolding number_of
not_digits bs h = sym (cond-false (is_number bs) _ _ (and_right _ _ h))

-- ---- the digits read so far: their value, and what the bytes left give
pub record Read (bs : List ℕ) (i value : ℕ) : Type 0 where
  pub small : value < 10 ^ i
  pub tests : all_digits (drop i bs) ≡ all_digits bs
  pub gives : value * 10 ^ length (drop i bs) + value_of (drop i bs) ≡ value_of bs

pub none_read : (bs : List ℕ) → Read bs 0 0
none_read bs = record { small = omega arith; tests = refl; gives = omega arith }

-- so few digits make a number that fits
pub digits_small : (v i n : ℕ) → v < 10 ^ i → i ≤ n → v < 10 ^ n
digits_small v i n h l = let p = pow-le-pow_right {n = 10} (lit< tt) {i = i} {j = n} l in omega arith

-- ---- one byte
pub digit_tells : (b d : ℕ) → Some d ≡ cond (is_digit b) (Some (b - nought)) None → (is_digit b ≡ true) × (d ≡ b - nought)
digit_tells b d e = grind arith

pub digit_lacks : (b : ℕ) → None ≡ cond (is_digit b) (Some (b - nought)) None → is_digit b ≡ false
digit_lacks b e = grind arith

module _ (bs : List ℕ) (i value : ℕ) (within : i < length bs) (so_far : Read bs i value) where
  byte_read : is_digit (get_or bs i 0) ≡ true → Read bs (i + 1) (value * 10 + (get_or bs i 0 - nought))
  unfolding value_of
  byte_read right =
      let b = get_or bs i 0 in
      let rest = drop (i + 1) bs in
      let high = (digit_bounds b right).1 in
      let power : 10 ^ (i + 1) ≡ 10 ^ i * 10 = ap (λ k. 10 ^ k) (add-one i) ∙ pow-suc 10 i in
      let tests : all_digits (drop i bs) ≡ (is_digit b && all_digits rest) = at_drop_more all_digits bs i 0 within in
      let gives : value * 10 ^ length (drop i bs) + value_of (drop i bs) ≡ value * 10 ^ suc (length rest) + ((b - nought) * 10 ^ length rest + value_of rest) =
      at_drop_more (λ xs. value * 10 ^ length xs + value_of xs) bs i 0 within in
      record {
        small = rw power (omega (arith, so_far.small));
        tests = sym (rw right at tests) ∙ so_far.tests;
        gives = let p = pow-suc 10 (length rest) in let g = rw p at gives in omega (arith, g, so_far.gives);
      }

  pub digit_read : (digit : ℕ) → Some digit ≡ cond (is_digit (get_or bs i 0)) (Some (get_or bs i 0 - nought)) None → Read bs (i + 1) (value * 10 + digit)
  digit_read digit e =
      let tells = digit_tells (get_or bs i 0) digit e in
      subst (λ (d : ℕ). Read bs (i + 1) (value * 10 + d)) (sym tells.1) (byte_read tells.0)

  pub digit_missing : is_digit (get_or bs i 0) ≡ false → None ≡ number_of bs
  digit_missing wrong = not_digits bs (sym so_far.tests ∙ at_drop_more all_digits bs i 0 within ∙ and_left _ _ wrong)

pub all_read : (bs : List ℕ) (i value : ℕ) → 1 ≤ length bs → length bs ≤ most_digits → length bs ≤ i → Read bs i value → Some value ≡ number_of bs
unfolding value_of
all_read bs i value some most past so_far =
    let end : value * 10 ^ length (drop i bs) + value_of (drop i bs) ≡ value * 1 + 0 = at_drop_all (λ xs. value * 10 ^ length xs + value_of xs) bs i past in
    let same : value ≡ value_of bs = omega (arith, end, so_far.gives) in
    ap Some same ∙ sym (is_number_from bs some most (sym so_far.tests ∙ at_drop_all all_digits bs i past))
