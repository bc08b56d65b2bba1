use Rattle.std.proofs.Common.{◌≡◌, nat_abs, rules}
use Rattle.std.specs.Option.{option_map}
use Rattle.layout.specs.Figures.{signed}
use Rattle.section_figures.specs.Second.{pressure_number, rain_number}
use Rattle.section_figures.proofs.second.second_figures.Goals as goal

pub returns : goal.returns
returns c =
    let n = c.normals-normals.result in
    let station_pressure : c.map.result ≡ option_map pressure_number n.station_pressure = search rules in
    let sea_level_pressure : c.map-2.result ≡ option_map pressure_number n.sea_level_pressure = search rules in
    let mean_temperature : c.map-3.result ≡ option_map signed n.mean_temperature = search rules in
    let deviation : c.map-4.result ≡ option_map nat_abs n.deviation = search rules in
    let highest_temperature : c.map-5.result ≡ option_map signed n.highest_temperature = search rules in
    let lowest_temperature : c.map-6.result ≡ option_map signed n.lowest_temperature = search rules in
    let vapour_pressure : c.map-7.result ≡ option_map nat_abs n.vapour_pressure = search rules in
    let rain : c.map-8.result ≡ option_map rain_number n.rain = search rules in
    let rain_days : c.map-9.result ≡ option_map nat_abs n.rain_days = search rules in
    let sunshine : c.map-10.result ≡ option_map nat_abs n.sunshine = search rules in
    search rules
