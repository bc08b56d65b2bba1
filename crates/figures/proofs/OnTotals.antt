-- When a total is shown, and what it is. Assumes nothing.
use Rattle.std.proofs.Common.{◌≡◌, ℕ, ◌≤◌, pos, ◌*ℤ◌, Some, None, Option, refl, ap, ◌∙◌, arith}
use lib.IntN.{*ℤ-zero, pos-*ℤ-pos}
use Rattle.std.specs.Option.{option_map}
use Rattle.std.proofs.lemmas.Int.{ints}
use Rattle.std.proofs.lemmas.Option.{cond_some}
use Rattle.station.specs.declared.element.Element.{Element}
use Rattle.station.specs.declared.element.Element.TheVariants.{Rain, Sunshine}
use Rattle.station.specs.Elements.{lowest_of}
use Rattle.daybook.specs.Grid.{Grid, Valid}
use Rattle.columns.specs.Columns.{Column, column, present, sum}
use Rattle.columns.proofs.OnColumns.{every_day}
use Rattle.rounding.specs.Rain.{rain_code, StandsFor}
use Rattle.rounding.specs.Sunshine.{whole_hours, Hours, percentage_of, Percentage}
use Rattle.rounding.proofs.OnRain.{coded_by}
use Rattle.rounding.proofs.OnSunshine.{hours_by, percentage_by}
use Rattle.figures.specs.Days.{is_complete}
use Rattle.figures.specs.Totals.{total, total_shown, rain_shown, RainOf, sunshine_shown, SunshineOf, percentage_shown, PercentageShown}
use Rattle.figures.proofs.OnShown.{shown_on, mapped_on}
use Rattle.figures.proofs.OnBounds.{sum_from, sum_to, value_from, value_to}

-- the sum of values that are never below zero is not below zero
module _ (g : Grid) (valid : Valid g) (d : ℕ) where
  whole : (x : Element) → lowest_of x ≡ pos 0 → pos (total (column g x) d) ≡ sum (column g x) d
  whole x low =
      let least = sum_from (lowest_of x) (column g x) (value_from g x valid) d in
      let none : pos (present (column g x) d) *ℤ lowest_of x ≡ pos 0 = ap (λ z. pos (present (column g x) d) *ℤ z) low ∙ *ℤ-zero (pos (present (column g x) d)) in
      omega (arith, ints)

  most_sunshine : d ≤ 31 → total (column g Sunshine) d ≤ 7440
  most_sunshine h =
      let most = sum_to (pos 240) (column g Sunshine) (value_to g Sunshine valid) d in
      let product = pos-*ℤ-pos (present (column g Sunshine) d) 240 in
      omega (arith, ints, every_day (column g Sunshine) d, whole Sunshine refl)

  pub rain_law : RainOf (column g Rain) d (rain_shown (column g Rain) d)
  unfolding rain_shown
  rain_law =
      let code = coded_by (total (column g Rain) d) _ refl in
      record { whole = whole Rain refl; shown = shown_on (is_complete (column g Rain) d) (StandsFor (total (column g Rain) d)) _ code.stands code.only }

  pub sunshine_law : d ≤ 31 → SunshineOf (column g Sunshine) d (sunshine_shown (column g Sunshine) d)
  unfolding sunshine_shown
  sunshine_law short =
      let hours = hours_by (total (column g Sunshine) d) _ refl in
      let bound = most_sunshine short in
      record {
        whole = whole Sunshine refl;
        shown = shown_on (is_complete (column g Sunshine) d) (Hours (total (column g Sunshine) d)) _ hours.stands hours.only;
        most = λ h e. let here = cond_some (is_complete (column g Sunshine) d) _ h e in omega (arith, hours.stands.low);
      }

pub percentage_law : (f : Column) (d : ℕ) (normal : Option ℕ) → PercentageShown f d normal (percentage_shown f d normal)
percentage_law f d None = refl
percentage_law f d (Some normal) =
    let part = percentage_by (total f d) normal _ refl in
    shown_on (is_complete f d) (Percentage (total f d) normal) _ part.stands part.only

-- ---- figures made of the total
module _ (f : Column) (d : ℕ) (o : Option ℕ) (is : o ≡ total_shown f d) where
  pub rain_value : option_map rain_code o ≡ rain_shown f d
  unfolding total_shown rain_shown
  rain_value = ap (option_map rain_code) is ∙ mapped_on rain_code (is_complete f d) (total f d)

  pub sunshine_value : option_map whole_hours o ≡ sunshine_shown f d
  unfolding total_shown sunshine_shown
  sunshine_value = ap (option_map whole_hours) is ∙ mapped_on whole_hours (is_complete f d) (total f d)

  pub percentage_value : (normal : ℕ) → option_map (λ t. percentage_of t normal) o ≡ percentage_shown f d (Some normal)
  unfolding total_shown
  percentage_value normal = ap (option_map (λ t. percentage_of t normal)) is ∙ mapped_on (λ t. percentage_of t normal) (is_complete f d) (total f d)
