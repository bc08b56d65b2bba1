-- The elements: their numbers, units and ranges.
use Rattle.std.specs.Prelude.{ℕ, Bool, false, List, [], ◌∷◌, ℤ, pos, negsuc, is_some, Some, None, codes, Option}
use Rattle.station.specs.Numbers.{within, first_bearing}
use Rattle.station.specs.declared.element.Element.{Element}
use Rattle.station.specs.declared.element.Element.TheVariants.{StationPressure, SeaLevelPressure, MeanTemperature, HighestTemperature, LowestTemperature, VapourPressure, Rain, Sunshine, SnowDepth, Wind, Visibility, Weather}
use Rattle.station.specs.declared.element.Unit.{Unit as Measure}
use Rattle.station.specs.declared.element.Unit.TheVariants.{TenthHectopascal, TenthDegreeCelsius, TenthMillimetre, TenthHour, Centimetre, TenthMetrePerSecond, TenMetres, WeatherCode}

-- all elements, in order of their numbers
abbrev pub elements : List Element
elements =
    StationPressure ∷ SeaLevelPressure ∷ MeanTemperature ∷ HighestTemperature ∷ LowestTemperature ∷ VapourPressure
    ∷ Rain ∷ Sunshine ∷ SnowDepth ∷ Wind ∷ Visibility ∷ Weather ∷ []

-- the number by which calls and files name an element
abbrev pub element_number : Element → ℕ
element_number StationPressure = 1
element_number SeaLevelPressure = 2
element_number MeanTemperature = 3
element_number HighestTemperature = 4
element_number LowestTemperature = 5
element_number VapourPressure = 6
element_number Rain = 7
element_number Sunshine = 8
element_number SnowDepth = 9
element_number Wind = 10
element_number Visibility = 11
element_number Weather = 12

-- the element with the number n, if there is one
unfoldable pub element_numbered : ℤ → Option Element
element_numbered n = first_bearing element_number n elements

-- an element bears this number
abbrev pub is_element : ℤ → Bool
is_element n = is_some (element_numbered n)

-- what one step of a value stands for
abbrev pub unit_of : Element → Measure
unit_of StationPressure = TenthHectopascal
unit_of SeaLevelPressure = TenthHectopascal
unit_of MeanTemperature = TenthDegreeCelsius
unit_of HighestTemperature = TenthDegreeCelsius
unit_of LowestTemperature = TenthDegreeCelsius
unit_of VapourPressure = TenthHectopascal
unit_of Rain = TenthMillimetre
unit_of Sunshine = TenthHour
unit_of SnowDepth = Centimetre
unit_of Wind = TenthMetrePerSecond
unit_of Visibility = TenMetres
unit_of Weather = WeatherCode

-- the lowest value of an element's range
abbrev pub lowest_of : Element → ℤ
lowest_of StationPressure = pos 4000
lowest_of SeaLevelPressure = pos 8500
lowest_of MeanTemperature = negsuc 899
lowest_of HighestTemperature = negsuc 899
lowest_of LowestTemperature = negsuc 899
lowest_of VapourPressure = pos 0
lowest_of Rain = pos 0
lowest_of Sunshine = pos 0
lowest_of SnowDepth = pos 0
lowest_of Wind = pos 0
lowest_of Visibility = pos 0
lowest_of Weather = pos 0

-- the highest value of an element's range
abbrev pub highest_of : Element → ℤ
highest_of StationPressure = pos 10999
highest_of SeaLevelPressure = pos 10999
highest_of MeanTemperature = pos 600
highest_of HighestTemperature = pos 600
highest_of LowestTemperature = pos 600
highest_of VapourPressure = pos 999
highest_of Rain = pos 9999
highest_of Sunshine = pos 240
highest_of SnowDepth = pos 999
highest_of Wind = pos 999
highest_of Visibility = pos 9999
highest_of Weather = pos 3

-- v lies in the range of x
abbrev pub takes : Element → ℤ → Bool
takes x v = within (lowest_of x) (highest_of x) v

-- whether an element, if there is one, takes a value
abbrev pub some_takes : Option Element → ℤ → Bool
some_takes None v = false
some_takes (Some x) v = takes x v

-- v lies in the range of the element with the number n
unfoldable pub in_range : ℤ → ℤ → Bool
in_range n v = some_takes (element_numbered n) v

-- the letters by which tables and messages name an element
abbrev pub symbol_of : Element → List ℕ
symbol_of StationPressure = codes "P0"
symbol_of SeaLevelPressure = codes "P"
symbol_of MeanTemperature = codes "T"
symbol_of HighestTemperature = codes "TX"
symbol_of LowestTemperature = codes "TN"
symbol_of VapourPressure = codes "E"
symbol_of Rain = codes "R"
symbol_of Sunshine = codes "S"
symbol_of SnowDepth = codes "SN"
symbol_of Wind = codes "F"
symbol_of Visibility = codes "V"
symbol_of Weather = codes "W"
