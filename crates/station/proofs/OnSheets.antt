-- Which of a sheet's numbers declines it. Assumes nothing.
use Rattle.std.proofs.Common.{◌≡◌, ◌≤◌, true, false, ◌&&◌, ℤ, pos, negsuc, nat_abs, Some, None, Option, sym, refl, ap, ◌∙◌, arith}
use Rattle.std.specs.Option.{ok_or}
use Rattle.std.proofs.lemmas.Bool.Decides.{nat_tests}
use Rattle.std.proofs.lemmas.Bool.{and_left, and_right}
use Rattle.station.specs.declared.refusal.Refusal.TheVariants.{Sheet}
use Rattle.station.specs.declared.wind.WindIndicator.{WindIndicator}
use Rattle.station.specs.declared.wind.WindIndicator.TheVariants.{Estimated, Measured}
use Rattle.station.specs.Numbers.{Bearing}
use Rattle.station.specs.Refusals.{BearerOf}
use Rattle.station.specs.Calendar.{is_year, is_month_number, is_month}
use Rattle.station.specs.Sheets.{is_station, indicators, indicator_number, indicator_numbered, is_indicator, sheet_refusal}
use Rattle.station.proofs.OnNumbers.{first_bears}

pub station_bounds : (n : ℤ) → is_station n ≡ true → (1000 ≤ nat_abs n) × (nat_abs n ≤ 98999) × (pos (nat_abs n) ≡ n)
station_bounds (pos n) h = (grind (arith, nat_tests), grind (arith, nat_tests), refl)
station_bounds (negsuc n) h = absurd (grind arith)

module _ (station year month iw : ℤ) where
  pub wrong_station : is_station station ≡ false → sheet_refusal station year month iw ≡ Some Sheet
  unfolding sheet_refusal
  wrong_station h = rw (and_left (is_station station) (is_month year month && is_indicator iw) h)

  pub wrong_month : is_month year month ≡ false → sheet_refusal station year month iw ≡ Some Sheet
  unfolding sheet_refusal
  wrong_month h = rw (and_right (is_station station) (is_month year month && is_indicator iw) (and_left (is_month year month) (is_indicator iw) h))

  pub wrong_indicator : indicator_numbered iw ≡ None → sheet_refusal station year month iw ≡ Some Sheet
  unfolding sheet_refusal
  wrong_indicator h =
      let f : is_indicator iw ≡ false = rw h in
      rw (and_right (is_station station) (is_month year month && is_indicator iw) (and_right (is_month year month) (is_indicator iw) f))

  pub right_sheet : (w : WindIndicator) → is_station station ≡ true → is_month year month ≡ true → indicator_numbered iw ≡ Some w → sheet_refusal station year month iw ≡ None
  unfolding sheet_refusal
  right_sheet w s m h = rw (s, m, h)

pub all_right : (station year month iw : ℤ) → is_station station ≡ true → is_year year ≡ true → is_month_number month ≡ true → is_indicator iw ≡ true → sheet_refusal station year month iw ≡ None
unfolding sheet_refusal
all_right station year month iw s y m i = rw (s, y, m, i)

indicator_of : (w : WindIndicator) → indicator_numbered (pos (indicator_number w)) ≡ Some w
unfolding indicator_numbered
indicator_of Estimated = refl
indicator_of Measured = refl

pub bearing_indicator : (n : ℤ) (o : Option WindIndicator) → o ≡ indicator_numbered n → Bearing indicator_number n o
unfolding indicator_numbered
bearing_indicator n None h = λ w e. let z : None ≡ Some w = h ∙ ap indicator_numbered (sym e) ∙ indicator_of w in absurd (grind arith)
bearing_indicator n (Some w) h = sym (first_bears indicator_number n indicators w (sym h))

-- what a search by code figure found is what the conversion answers
pub found_indicator : (n : ℤ) (o : Option WindIndicator) → o ≡ indicator_numbered n → BearerOf indicator_number n (indicator_numbered n) Sheet (ok_or o Sheet)
found_indicator n o h = record { given = ap (λ p. ok_or p Sheet) h; bears = bearing_indicator n (indicator_numbered n) refl }
