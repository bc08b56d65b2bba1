-- A figure that fits comes back from its code: what each kind of figure shows of itself.
use Rattle.std.specs.Prelude.{◌≡◌, ℕ, suc, ◌+◌, ◌-◌, ◌%◌, Bool, true, false, ℤ, pos, negsuc, neg_ℤ, nat_le, nat_lt, unsigned_abs}
use Rattle.std.proofs.Common.{refl, ap, ap₂, ◌∙◌, suc-le-suc}
use Rattle.std.proofs.Math.Nat.{le-add_right, le-add_left, add-sub_of_le, sub-lt_left_of_lt-add, add-mod_left, add-mod_right, mod-eq_of_lt}
use Rattle.std.proofs.lemmas.Bool.{and_parts, cond-true, cond-false, leb-true, ltb-true, ltb-false, lt-ltb, le-ltb, le-leb, lt-leb}
use Rattle.layout.specs.declared.figure.Temperature.{Temperature}
use Rattle.layout.specs.declared.figure.PlainNumber.{PlainNumber}
use Rattle.layout.specs.declared.figure.Pressure.{Pressure}
use Rattle.layout.specs.declared.figure.RainAmount.{RainAmount}
use Rattle.layout.specs.declared.figure.DayCode.{DayCode}
use Rattle.layout.specs.Figures.{signed, unsigned, always, temperature_code, temperature_at, is_tenths, pressure_code, pressure_at, is_pressure, plain_code, plain_at, rain_code, rain_at, day_code, day_at, is_day}

pub plain_back : (n : PlainNumber) → always n ≡ true → plain_at (plain_code n) ≡ n
plain_back n fits = refl

pub rain_back : (a : RainAmount) → always a ≡ true → rain_at (rain_code a) ≡ a
rain_back a fits = refl

-- three digits and their sign
unsigned_signed : (z : ℤ) → nat_le (unsigned_abs z) 999 ≡ true → unsigned (signed z) ≡ z
unsigned_signed (pos n) fits = cond-true (nat_lt n 1000) (pos n) (neg_ℤ (pos (n % 1000))) (lt-ltb n 1000 (suc-le-suc (leb-true n 999 fits)))
unsigned_signed (negsuc n) fits =
    cond-false (nat_lt (1000 + suc n) 1000) (pos (1000 + suc n)) (neg_ℤ (pos ((1000 + suc n) % 1000))) (le-ltb (1000 + suc n) 1000 (le-add_right 1000 (suc n)))
    ∙ ap (λ k. neg_ℤ (pos k)) (add-mod_left 1000 (suc n) ∙ mod-eq_of_lt (suc-le-suc (leb-true (suc n) 999 fits)))

pub temperature_back : (t : Temperature) → is_tenths t ≡ true → temperature_at (temperature_code t) ≡ t
temperature_back t fits = ap (λ z. record { tenths = z }) (unsigned_signed t.tenths fits)

-- a pressure with or without its thousand
thousand_back : (x : ℕ) (lacks : Bool) → nat_lt x 10000 ≡ lacks → nat_le 1000 x ≡ true → nat_le x 10999 ≡ true →
    pressure_at (pressure_code (record { tenths = x })) ≡ record { tenths = x }
thousand_back x true below low high =
    ap pressure_at (cond-true (nat_lt x 10000) x (x - 10000) below)
    ∙ ap (λ z. record { tenths = z }) (cond-false (nat_lt x 1000) (10000 + x) x (le-ltb x 1000 (leb-true 1000 x low)))
thousand_back x false above low high =
    let most = ltb-false x 10000 above in
    let c = x - 10000 in
    ap pressure_at (cond-false (nat_lt x 10000) x c above)
    ∙ ap (λ z. record { tenths = z }) (cond-true (nat_lt c 1000) (10000 + c) c (lt-ltb c 1000 (sub-lt_left_of_lt-add most (suc-le-suc (leb-true x 10999 high)))) ∙ add-sub_of_le most)

pub pressure_back : (p : Pressure) → is_pressure p ≡ true → pressure_at (pressure_code p) ≡ p
pressure_back p fits =
    let within = and_parts (nat_le 1000 p.tenths) (nat_le p.tenths 10999) fits in
    thousand_back p.tenths (nat_lt p.tenths 10000) refl within.0 within.1

-- a day and whether it recurs
recurrence_back : (d : ℕ) (recurs : Bool) → nat_lt d 50 ≡ true → day_at (day_code (record { day = d; recurs = recurs })) ≡ record { day = d; recurs = recurs }
recurrence_back d true fits =
    ap₂ (λ x b. record { day = x; recurs = b }) (add-mod_right d 50 ∙ mod-eq_of_lt (ltb-true d 50 fits)) (le-leb 50 (d + 50) (le-add_left 50 d))
recurrence_back d false fits = ap₂ (λ x b. record { day = x; recurs = b }) (mod-eq_of_lt (ltb-true d 50 fits)) (lt-leb 50 d (ltb-true d 50 fits))

pub day_back : (k : DayCode) → is_day k ≡ true → day_at (day_code k) ≡ k
day_back k fits = recurrence_back k.day k.recurs fits
