-- The station sheet: a station, a month of a year, and how the wind is observed.
use Rattle.std.specs.Prelude.{ℕ, ◌-◌, ◌^◌, Bool, false, ◌&&◌, List, [], ◌∷◌, ◌++◌, ℤ, pos, is_some, Option, codes}
use Rattle.std.specs.Fmt.{decimal, format_spec, padded_integral}
use Rattle.station.specs.declared.refusal.Refusal.{Refusal}
use Rattle.station.specs.declared.refusal.Refusal.TheVariants.{Sheet}
use Rattle.station.specs.declared.wind.WindIndicator.{WindIndicator}
use Rattle.station.specs.declared.wind.WindIndicator.TheVariants.{Estimated, Measured}
use Rattle.station.specs.Numbers.{within, first_bearing}
use Rattle.station.specs.Refusals.{requiring}
use Rattle.station.specs.Calendar.{is_month}

-- the lowest station number
abbrev pub first_station : ℕ
first_station = 1000

-- the highest station number
abbrev pub last_station : ℕ
last_station = 98999

-- a station number
abbrev pub is_station : ℤ → Bool
is_station n = within (pos first_station) (pos last_station) n

-- the code figure iw of a wind indicator
abbrev pub indicator_number : WindIndicator → ℕ
indicator_number Estimated = 0
indicator_number Measured = 1

-- all wind indicators
abbrev pub indicators : List WindIndicator
indicators = Estimated ∷ Measured ∷ []

-- the indicator with the code figure n, if there is one
unfoldable pub indicator_numbered : ℤ → Option WindIndicator
indicator_numbered n = first_bearing indicator_number n indicators

-- an indicator has this code figure
abbrev pub is_indicator : ℤ → Bool
is_indicator n = is_some (indicator_numbered n)

-- a sheet is declined exactly where one of its four numbers lies outside its limits
unfoldable pub sheet_refusal : ℤ → ℤ → ℤ → ℤ → Option Refusal
sheet_refusal station year month iw = requiring (is_station station && (is_month year month && is_indicator iw)) Sheet

-- a number in five decimal digits, with noughts before it where it has fewer
abbrev pub five_digits : ℕ → List ℕ
five_digits n = padded_integral (format_spec 32 0 4 5 (2 ^ 64 - 1)) false [] (decimal n)

-- how a sheet is shown
abbrev pub sheet_text : ℕ → ℕ → ℕ → ℕ → List ℕ
sheet_text station year month iw =
    codes "station " ++ five_digits station ++ codes " year " ++ decimal year ++ codes " month " ++ decimal month ++ codes " iw " ++ decimal iw
