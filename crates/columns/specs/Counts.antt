-- Limits on values and kinds of weather, and the days that meet them.
use Rattle.std.specs.Prelude.{◌≡◌, ℕ, zero, suc, ◌+◌, ◌≤◌, Bool, false, cond, ◌||◌, List, [], ◌∷◌, ℤ, pos, Some, None, Option, int_le, int_lt}
use Rattle.station.specs.Numbers.{same}
use Rattle.station.specs.declared.element.Element.{Element}
use Rattle.station.specs.declared.element.Element.TheVariants.{HighestTemperature, LowestTemperature, Rain, SnowDepth, Wind, Visibility}
use Rattle.columns.specs.declared.limit.Comparison.{Comparison}
use Rattle.columns.specs.declared.limit.Comparison.TheVariants.{AtLeast, Above, Under}
use Rattle.columns.specs.declared.limit.Limit.{Limit}
use Rattle.columns.specs.declared.phenomenon.Phenomenon.{Phenomenon}
use Rattle.columns.specs.declared.phenomenon.Phenomenon.TheVariants.{Thunder, Hail}
use Rattle.columns.specs.Columns.{Column, Agree}

-- a value compared with a bound
abbrev pub compares : Comparison → ℤ → ℤ → Bool
compares AtLeast bound v = int_le bound v
compares Above bound v = int_lt bound v
compares Under bound v = int_lt v bound

-- a value that meets a limit
abbrev pub meets : Limit → ℤ → Bool
meets l v = compares l.comparison l.bound v

-- weather 1 is thunder, 2 is hail, and 3 is both
abbrev pub shows : Phenomenon → ℤ → Bool
shows Thunder v = same v (pos 1) || same v (pos 3)
shows Hail v = same v (pos 2) || same v (pos 3)

-- a day has a value, and it passes
abbrev pub passes_on : (ℤ → Bool) → Option ℤ → Bool
passes_on passes None = false
passes_on passes (Some v) = passes v

-- how many of the days from 1 to d have a value that passes
unfoldable pub days_when : (ℤ → Bool) → Column → ℕ → ℕ
days_when passes f zero = 0
days_when passes f (suc d) = cond (passes_on passes (f (suc d))) 1 0 + days_when passes f d

-- What holds of a count n of such days.
pub record Counted (passes : ℤ → Bool) (f : Column) (d n : ℕ) : Type 0 where
  -- not more than there are days
  pub at_most : n ≤ d
  -- no other day matters: columns that agree on these days have the same count
  pub these_days : (g : Column) → Agree f g d → days_when passes g d ≡ n

-- a limit, from its element, comparison and bound
abbrev pub limit : Element → Comparison → ℕ → Limit
limit x c b = record { element = x; comparison = c; bound = pos b }

-- a day of rain has 1.0 mm or more
abbrev pub rain_day : Limit
rain_day = limit Rain AtLeast 10

-- the limits that a report counts days against, in its order: highest temperature from 25, 30, 35 and 40 °C; lowest and highest
-- temperature below 0 °C; rain from 1, 5, 10, 50, 100 and 150 mm; snow above 0, 1, 10 and 50 cm; wind from 10, 20 and 30 m/s;
-- visibility below 50, 100 and 1000 m
abbrev pub limits : List Limit
limits =
    limit HighestTemperature AtLeast 250 ∷ limit HighestTemperature AtLeast 300
    ∷ limit HighestTemperature AtLeast 350 ∷ limit HighestTemperature AtLeast 400
    ∷ limit LowestTemperature Under 0 ∷ limit HighestTemperature Under 0
    ∷ limit Rain AtLeast 10 ∷ limit Rain AtLeast 50
    ∷ limit Rain AtLeast 100 ∷ limit Rain AtLeast 500
    ∷ limit Rain AtLeast 1000 ∷ limit Rain AtLeast 1500
    ∷ limit SnowDepth Above 0 ∷ limit SnowDepth Above 1
    ∷ limit SnowDepth Above 10 ∷ limit SnowDepth Above 50
    ∷ limit Wind AtLeast 100 ∷ limit Wind AtLeast 200 ∷ limit Wind AtLeast 300
    ∷ limit Visibility Under 5 ∷ limit Visibility Under 10 ∷ limit Visibility Under 100 ∷ []
