-- The figures of the second section: the normals.
use Rattle.std.specs.Prelude.{ℕ, List, [], ◌∷◌, ℤ, Some, Option, unsigned_abs}
use Rattle.std.specs.Option.{option_map}
use Rattle.rounding.specs.Rain.{rain_code}
use Rattle.normals.specs.declared.record.Normals.{Normals}
use Rattle.layout.specs.Figures.{signed, pressure_code}

-- a pressure without its thousand from 1000.0 hPa on
abbrev pub pressure_number : ℤ → ℕ
pressure_number z = pressure_code (record { tenths = unsigned_abs z })

-- an amount of rain by its code
abbrev pub rain_number : ℤ → ℕ
rain_number z = rain_code (unsigned_abs z)

-- the figures of normals, in the order of the section's fields
abbrev pub second_figures : Normals → List (Option ℕ)
second_figures n =
    Some (unsigned_abs n.first_year) ∷ Some (unsigned_abs n.last_year)
    ∷ option_map pressure_number n.station_pressure ∷ option_map pressure_number n.sea_level_pressure
    ∷ option_map signed n.mean_temperature ∷ option_map unsigned_abs n.deviation
    ∷ option_map signed n.highest_temperature ∷ option_map signed n.lowest_temperature
    ∷ option_map unsigned_abs n.vapour_pressure
    ∷ option_map rain_number n.rain ∷ option_map unsigned_abs n.rain_days
    ∷ option_map unsigned_abs n.sunshine
    ∷ Some (unsigned_abs n.missing.pressure) ∷ Some (unsigned_abs n.missing.temperature) ∷ Some (unsigned_abs n.missing.extremes)
    ∷ Some (unsigned_abs n.missing.vapour_pressure) ∷ Some (unsigned_abs n.missing.rain) ∷ Some (unsigned_abs n.missing.sunshine) ∷ []
