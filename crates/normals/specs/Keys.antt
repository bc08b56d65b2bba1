-- Which stations and months normals are filed under.
use Rattle.std.specs.Prelude.{◌&&◌, ℤ, Option}
use Rattle.station.specs.declared.refusal.Refusal.{Refusal}
use Rattle.station.specs.declared.refusal.Refusal.TheVariants.{Sheet}
use Rattle.station.specs.Refusals.{requiring}
use Rattle.station.specs.Sheets.{is_station}
use Rattle.station.specs.Calendar.{is_month_number}

-- a station and a month are declined exactly where one is outside its limits
abbrev pub key_refusal : ℤ → ℤ → Option Refusal
key_refusal station month = requiring (is_station station && is_month_number month) Sheet
