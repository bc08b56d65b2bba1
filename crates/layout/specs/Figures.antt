-- Figures as the numbers that their digits write.
use Rattle.std.specs.Prelude.{ℕ, suc, ◌+◌, ◌-◌, ◌%◌, Bool, true, cond, ◌&&◌, ℤ, pos, negsuc, neg_ℤ, nat_le, nat_lt, unsigned_abs}
use Rattle.layout.specs.declared.field.Field.{Field}
use Rattle.layout.specs.declared.field.Field.TheVariants.{Shown, Barred, LeftOut}
use Rattle.layout.specs.declared.figure.Temperature.{Temperature}
use Rattle.layout.specs.declared.figure.PlainNumber.{PlainNumber}
use Rattle.layout.specs.declared.figure.Pressure.{Pressure}
use Rattle.layout.specs.declared.figure.RainAmount.{RainAmount}
use Rattle.layout.specs.declared.figure.DayCode.{DayCode}

-- three digits of a temperature; behind the sign 1 it is below zero
abbrev pub signed : ℤ → ℕ
signed (pos n) = n
signed (negsuc n) = 1000 + suc n

-- the temperature with these digits: the last three, below zero where more stands before them
abbrev pub unsigned : ℕ → ℤ
unsigned c = cond (nat_lt c 1000) (pos c) (neg_ℤ (pos (c % 1000)))

-- every figure
abbrev pub always : {X : Type 0} → X → Bool
always x = true

abbrev pub temperature_code : Temperature → ℕ
temperature_code t = signed t.tenths

abbrev pub temperature_at : ℕ → Temperature
temperature_at c = record { tenths = unsigned c }

-- a temperature of at most three digits
abbrev pub is_tenths : Temperature → Bool
is_tenths t = nat_le (unsigned_abs t.tenths) 999

-- a pressure without its thousand from 1000.0 hPa on
abbrev pub pressure_code : Pressure → ℕ
pressure_code p = cond (nat_lt p.tenths 10000) p.tenths (p.tenths - 10000)

-- a number below 1000 lacks its thousand
abbrev pub pressure_at : ℕ → Pressure
pressure_at c = record { tenths = cond (nat_lt c 1000) (10000 + c) c }

-- a pressure from 100.0 to 1099.9 hPa
abbrev pub is_pressure : Pressure → Bool
is_pressure p = nat_le 1000 p.tenths && nat_le p.tenths 10999

abbrev pub plain_code : PlainNumber → ℕ
plain_code n = n.number

abbrev pub plain_at : ℕ → PlainNumber
plain_at c = record { number = c }

abbrev pub rain_code : RainAmount → ℕ
rain_code a = a.code

abbrev pub rain_at : ℕ → RainAmount
rain_at c = record { code = c }

-- the day, 50 more where it recurs
abbrev pub day_code : DayCode → ℕ
day_code k = cond k.recurs (k.day + 50) k.day

abbrev pub day_at : ℕ → DayCode
day_at c = record { day = c % 50; recurs = nat_le 50 c }

-- a day below 50
abbrev pub is_day : DayCode → Bool
is_day k = nat_lt k.day 50

-- the same state with another figure
abbrev pub on_field : {X Y : Type 0} → (X → Y) → Field X → Field Y
on_field f (Shown x) = Shown (f x)
on_field f Barred = Barred
on_field f LeftOut = LeftOut
