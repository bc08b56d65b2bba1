-- Which of two readings of a kind outranks the other, and the readings of a kind that a grid holds.
use Rattle.std.specs.Prelude.{ℕ, Bool, ℤ, Option, option_map, int_lt}
use Rattle.station.specs.declared.element.Element.{Element}
use Rattle.station.specs.declared.wind.WindIndicator.{WindIndicator}
use Rattle.daybook.specs.Grid.{Grid}
use Rattle.columns.specs.Columns.{column}
use Rattle.extremes.specs.declared.kinds.HighTemperature.{HighTemperature}
use Rattle.extremes.specs.declared.kinds.LowTemperature.{LowTemperature}
use Rattle.extremes.specs.declared.kinds.RainDepth.{RainDepth}
use Rattle.extremes.specs.declared.kinds.WindSpeed.{WindSpeed}

-- the higher of two temperatures outranks the lower
abbrev pub warmer : HighTemperature → HighTemperature → Bool
warmer x y = int_lt y.0 x.0

-- the lower of two temperatures outranks the higher
abbrev pub colder : LowTemperature → LowTemperature → Bool
colder x y = int_lt x.0 y.0

-- more rain outranks less
abbrev pub rainier : RainDepth → RainDepth → Bool
rainier x y = int_lt y.0 x.0

-- the faster of two winds outranks the slower, however they were observed
abbrev pub windier : WindSpeed → WindSpeed → Bool
windier x y = int_lt y.speed x.speed

-- a value as a temperature of which the highest is sought
abbrev pub as_high : ℤ → HighTemperature
as_high v = record { 0 = v }

-- a value as a temperature of which the lowest is sought
abbrev pub as_low : ℤ → LowTemperature
as_low v = record { 0 = v }

-- a value as the rain of a day
abbrev pub as_rain : ℤ → RainDepth
as_rain v = record { 0 = v }

-- a value as the wind of a day, observed as the indicator says
abbrev pub as_wind : WindIndicator → ℤ → WindSpeed
as_wind i v = record { speed = v; indicator = i }

-- what a grid holds of an element on each day, as readings of a kind
abbrev pub days_as : {X : Type 0} → (ℤ → X) → Grid → Element → ℕ → Option X
days_as kind g x day = option_map kind (column g x day)
