use Rattle.std.proofs.Common.{◌≡◌, true, false, pos, nat_abs, sym, ap, ◌∙◌, arith, w32, to_z, of_z}
use Rattle.std.proofs.lemmas.Int.{to_z-of_z}
use Rattle.std.proofs.lemmas.Result.{err_from_is_err_and}
use Rattle.station.specs.Calendar.{is_month}
use Rattle.station.specs.Sheets.{is_station}
use Rattle.station.proofs.OnRefusals.{declines, accepts, declined, accepted, failed, failed_with, hands_on, passed, bearer, borne_by_none}
use Rattle.station.proofs.OnSheets.{wrong_station, wrong_month, wrong_indicator, right_sheet, station_bounds}
use Rattle.station.proofs.sheet.Sheet.check.Goals as goal

pub returns-then-not-is_station : goal.returns-then-not-is_station
returns-then-not-is_station c =
    let f = c.ranges.station in
    let wrong = simp to_z-of_z at c.is_station.ensures in
    declines _ _ _ (wrong_station c.args.station c.args.year c.args.month c.args.iw (sym wrong ∙ c.if-not-is_station.true))

pub returns-in_err-calendar : goal.returns-in_err-calendar
returns-in_err-calendar c =
    let fy = c.ranges.year in
    let fm = c.ranges.month in
    let e = err_from_is_err_and c.from_residual.result c.from_residual.ensures.1 in
    let h = simp to_z-of_z at c.in_err-calendar.ensures in
    let why = declined _ _ _ h in
    let wrong : is_month c.args.year c.args.month ≡ false = failed _ _ _ why in
    hands_on _ _ _ _ _ (wrong_month c.args.station c.args.year c.args.month c.args.iw wrong) e.1 (e.2 ∙ failed_with _ _ _ why)

pub returns-in_err-wind : goal.returns-in_err-wind
returns-in_err-wind c =
    let f = c.ranges.iw in
    let e = err_from_is_err_and c.from_residual-in_err-wind.result c.from_residual-in_err-wind.ensures.1 in
    let h = simp to_z-of_z at c.in_err-wind.ensures in
    let why = borne_by_none _ _ _ _ _ h in
    hands_on _ _ _ _ _ (wrong_indicator c.args.station c.args.year c.args.month c.args.iw why.0) e.1 (e.2 ∙ why.1)

pub returns : goal.returns
returns c =
    let fs = c.ranges.station in
    let fy = c.ranges.year in
    let fm = c.ranges.month in
    let fi = c.ranges.iw in
    let there = simp to_z-of_z at c.is_station.ensures in
    let station : is_station c.args.station ≡ true = sym there ∙ c.if-not-is_station.false in
    let number = ap (λ z. pos (nat_abs z)) (to_z-of_z w32 _ fs) ∙ (station_bounds c.args.station station).2 in
    let indicator = bearer _ _ _ _ _ (simp to_z-of_z at c.in_ok-wind.ensures) in
    let month = simp to_z-of_z at c.in_ok-calendar.ensures in
    let calendar = accepted _ _ _ month in
    accepts _ _ _ (right_sheet c.args.station c.args.year c.args.month c.args.iw c.in_ok-wind.wind station (passed _ _ calendar.0) indicator.0)
    (number, calendar.1.0, calendar.1.1, indicator.1)

pub invariant_of-result : goal.invariant_of-result
invariant_of-result c =
    let f = c.ranges.station in
    let there = simp to_z-of_z at c.is_station.ensures in
    let station : is_station c.args.station ≡ true = sym there ∙ c.if-not-is_station.false in
    let bounds = station_bounds c.args.station station in
    let same : nat_abs (to_z w32 (of_z w32 c.args.station)) ≡ nat_abs c.args.station = ap nat_abs (to_z-of_z w32 _ f) in
    record { station_from = omega arith; station_to = omega arith }
