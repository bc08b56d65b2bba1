-- The extremes of a month, by what the days of a grid hold.
use Rattle.std.specs.Prelude.{◌≡◌, ℕ, ◌≤◌, Bool, true, ℤ, is_some, Option}
use Rattle.station.specs.declared.calendar.CalendarMonth.{CalendarMonth}
use Rattle.station.specs.declared.element.Element.{Element}
use Rattle.station.specs.declared.element.Element.TheVariants.{Rain, Wind}
use Rattle.station.specs.declared.wind.WindIndicator.{WindIndicator}
use Rattle.station.specs.Months.{days_of}
use Rattle.daybook.specs.Grid.{Grid, most_days}
use Rattle.columns.specs.Columns.{column}
use Rattle.extremes.specs.declared.kinds.HighTemperature.{HighTemperature}
use Rattle.extremes.specs.declared.kinds.LowTemperature.{LowTemperature}
use Rattle.extremes.specs.declared.kinds.RainDepth.{RainDepth}
use Rattle.extremes.specs.declared.kinds.WindSpeed.{WindSpeed}
use Rattle.extremes.specs.declared.search.Extreme.{Extreme}
use Rattle.extremes.specs.Kinds.{warmer, colder, rainier, windier, as_high, as_low, as_rain, as_wind, days_as}
use Rattle.extremes.specs.Tops.{Searched}

-- the element has a value on every day of the month
abbrev pub EveryDay : Grid → Element → CalendarMonth → Type 0
EveryDay g x m = (day : ℕ) → 1 ≤ day → day ≤ days_of m → is_some (column g x day) ≡ true

-- two grids hold the same of the element on every day of the month
abbrev pub SameDays : Grid → Grid → Element → CalendarMonth → Type 0
SameDays g g' x m = (day : ℕ) → 1 ≤ day → day ≤ days_of m → column g x day ≡ column g' x day

-- the extreme of an element in a month, of the grid's values as readings of a kind
pub record OfMonth {X : Type 0} (over : X → X → Bool) (kind : ℤ → X) (g : Grid) (x : Element) (m : CalendarMonth) (answer : Option (Extreme X)) : Type 0 where
  -- it is the extreme of the days from 1 to the month's length
  pub searched : Searched over (days_as kind g x) (days_of m) answer
  -- of which there are at most 31, so that a day has at most two digits
  pub at_most : days_of m ≤ most_days
  -- it is shown only if the element has a value on every day of the month
  pub whole : is_some answer ≡ true → EveryDay g x m
  -- and always if it has
  pub shown : EveryDay g x m → is_some answer ≡ true
  -- nothing else of the grid matters: one that holds the same of the element on those days has the same extreme
  pub days_only : (g' : Grid) → SameDays g g' x m → (other : Option (Extreme X)) → Searched over (days_as kind g' x) (days_of m) other → other ≡ answer

-- the highest temperature of an element
abbrev pub Highest : Grid → Element → CalendarMonth → Option (Extreme HighTemperature) → Type 0
Highest g x m answer = OfMonth warmer as_high g x m answer

-- the lowest temperature of an element
abbrev pub Lowest : Grid → Element → CalendarMonth → Option (Extreme LowTemperature) → Type 0
Lowest g x m answer = OfMonth colder as_low g x m answer

-- the greatest rain of a day
abbrev pub MostRain : Grid → CalendarMonth → Option (Extreme RainDepth) → Type 0
MostRain g m answer = OfMonth rainier as_rain g Rain m answer

-- the greatest wind of a day, observed as the indicator says
abbrev pub MostWind : Grid → CalendarMonth → WindIndicator → Option (Extreme WindSpeed) → Type 0
MostWind g m i answer = OfMonth windier (as_wind i) g Wind m answer
