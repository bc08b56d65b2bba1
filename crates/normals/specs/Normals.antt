-- Which climate normals are good: each number in its limits, and no days with rain where there is no rain.
use Rattle.std.specs.Prelude.{Bool, true, false, not, ◌&&◌, ◌||◌, ℤ, pos, negsuc, Some, None, Option}
use Rattle.station.specs.declared.refusal.Refusal.{Refusal}
use Rattle.station.specs.declared.refusal.Refusal.TheVariants.{Normal}
use Rattle.station.specs.Numbers.{within, same}
use Rattle.station.specs.Refusals.{requiring}
use Rattle.normals.specs.declared.record.Normals.{Normals}
use Rattle.normals.specs.declared.record.YearsMissing.{YearsMissing}

-- a number that is given lies within low and high; one that is absent is fine
abbrev pub fine : ℤ → ℤ → Option ℤ → Bool
fine low high None = true
fine low high (Some x) = within low high x

-- a number is given, and it is x
abbrev pub gives : ℤ → Option ℤ → Bool
gives x None = false
gives x (Some y) = same x y

-- two digits: a year of its century, or a number of years
unfoldable pub is_two_digits : ℤ → Bool
is_two_digits x = within (pos 0) (pos 99) x

-- in 0.1 hPa, at the station or at sea level
abbrev pub is_pressure : Option ℤ → Bool
is_pressure p = fine (pos 1000) (pos 10999) p

-- in 0.1 °C: from -99.9 to 99.9
abbrev pub is_temperature : Option ℤ → Bool
is_temperature t = fine (negsuc 998) (pos 999) t

-- three digits: a deviation or a vapour pressure
abbrev pub is_three_digits : Option ℤ → Bool
is_three_digits x = fine (pos 0) (pos 999) x

-- the rain, 31 days of 999.9 mm at most, and the days with rain; where the rain is given as 0, so are the days
abbrev pub is_rain : Option ℤ → Option ℤ → Bool
is_rain rain days = (fine (pos 0) (pos 309969) rain && fine (pos 0) (pos 31) days) && (not (gives (pos 0) rain) || gives (pos 0) days)

-- hours of sunshine, 31 days of 24 at most
abbrev pub is_sunshine : Option ℤ → Bool
is_sunshine s = fine (pos 0) (pos 744) s

-- each number of missing years
unfoldable pub missing_good : YearsMissing → Bool
missing_good m =
    is_two_digits m.pressure && is_two_digits m.temperature && is_two_digits m.extremes && is_two_digits m.vapour_pressure && is_two_digits m.rain && is_two_digits m.sunshine

-- the years of the period, and whether the normals are printed
unfoldable pub period_good : Normals → Bool
period_good n = is_two_digits n.first_year && is_two_digits n.last_year && within (pos 0) (pos 1) n.print

-- the pressures
unfoldable pub pressures_good : Normals → Bool
pressures_good n = is_pressure n.station_pressure && is_pressure n.sea_level_pressure && is_three_digits n.vapour_pressure

-- the temperatures and the deviation of their mean
unfoldable pub temperatures_good : Normals → Bool
temperatures_good n =
    is_temperature n.mean_temperature && is_temperature n.highest_temperature && is_temperature n.lowest_temperature && is_three_digits n.deviation

-- the rain and the sunshine
unfoldable pub weather_good : Normals → Bool
weather_good n = is_rain n.rain n.rain_days && is_sunshine n.sunshine

-- every number of the record is good
unfoldable pub is_good : Normals → Bool
is_good n = period_good n && pressures_good n && temperatures_good n && weather_good n && missing_good n.missing

-- normals are declined exactly where one number is not good
abbrev pub normals_refusal : Normals → Option Refusal
normals_refusal n = requiring (is_good n) Normal

-- no years are missing
abbrev pub none_missing : YearsMissing
none_missing = record { pressure = pos 0; temperature = pos 0; extremes = pos 0; vapour_pressure = pos 0; rain = pos 0; sunshine = pos 0 }

-- the years 0 to 0, nothing given, not printed
abbrev pub blank_normals : Normals
blank_normals = record {
  first_year = pos 0;
  last_year = pos 0;
  station_pressure = None;
  sea_level_pressure = None;
  mean_temperature = None;
  highest_temperature = None;
  lowest_temperature = None;
  deviation = None;
  vapour_pressure = None;
  rain = None;
  rain_days = None;
  sunshine = None;
  missing = none_missing;
  print = pos 0;
}
