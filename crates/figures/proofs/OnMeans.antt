-- When a mean is shown, and what it is. Assumes nothing.
use Rattle.std.proofs.Common.{◌≡◌, ℕ, zero, suc, ◌+◌, ◌-◌, ◌*◌, ◌<◌, ◌≤◌, Bool, true, false, ◌&&◌, cond, eqb, get_or, ℤ, pos, ◌+ℤ◌, nat_abs, is_some, Some, None, Option, sym, refl, ap, ◌∙◌, subst, arith, lit≤}
use Rattle.std.proofs.lemmas.Int.{ints}
use Rattle.std.proofs.lemmas.Bool.{le-leb, lt-leb, both_ways, cond-true, cond-false, cond_both}
use Rattle.std.proofs.lemmas.Bool.Decides.{nat_tests}
use Rattle.station.specs.declared.calendar.CalendarMonth.{CalendarMonth}
use Rattle.station.specs.Calendar.{common_lengths, is_leap, month_length}
use Rattle.station.specs.Months.{days_of}
use Rattle.station.proofs.OnCalendar.{common_bounds}
use Rattle.station.specs.declared.element.Element.{Element}
use Rattle.station.specs.declared.element.Element.TheVariants.{MeanTemperature}
use Rattle.station.specs.Elements.{takes}
use Rattle.daybook.specs.Grid.{Grid, Valid}
use Rattle.columns.specs.declared.tally.Tally.{Tally}
use Rattle.columns.specs.Columns.{Column, column, amount, square, empties, present, sum, squares, tally_of}
use Rattle.columns.proofs.OnColumns.{every_day}
use Rattle.rounding.specs.Means.{mean_of, MeanLaw, Averaged}
use Rattle.rounding.specs.Deviations.{most_days, farthest, deviation_of, keeps_bounds, Deviated, SumsHold}
use Rattle.rounding.proofs.OnMeans.{averaged_by}
use Rattle.rounding.proofs.OnDeviations.{sums_grow, deviated_by}
use Rattle.figures.specs.Means.{most_empty, is_averaged, mean_shown, IsMean, MeanOf, deviation_shown, IsDeviation, DeviationOf}
use Rattle.figures.proofs.OnShown.{hidden, shown_by}
use Rattle.figures.proofs.OnBounds.{sum_from, sum_to, value_from, value_to, takes_between}

-- no month is shorter
pub month_least : (m : CalendarMonth) → 28 ≤ days_of m
unfolding month_length
month_least m =
    cond_both (eqb m.month 2 && is_leap m.year) 29 (get_or common_lengths (m.month - 1) 0) (λ n. 28 ≤ n) (λ _. lit≤ tt)
    (λ _. (common_bounds m.month m.month_from m.month_to).0)

-- ---- what a tally tells
module _ (f : Column) (d : ℕ) (t : Tally) (is : t ≡ tally_of f d) where
  many : most_empty < t.empties → is_averaged f d ≡ false
  many h = lt-leb (empties f d) most_empty (subst (λ (u : Tally). most_empty < u.empties) is h)

  few : t.empties ≤ most_empty → is_averaged f d ≡ true
  few h = le-leb (empties f d) most_empty (subst (λ (u : Tally). u.empties ≤ most_empty) is h)

  pub mean_hidden : most_empty < t.empties → None ≡ mean_shown f d
  unfolding mean_shown
  mean_hidden h = sym (cond-false (is_averaged f d) _ None (many h))

  pub mean_there : t.empties ≤ most_empty → mean_of t.sum t.present ≡ mean_shown f d
  unfolding mean_shown
  mean_there h = ap (λ (u : Tally). mean_of u.sum u.present) is ∙ sym (cond-true (is_averaged f d) _ None (few h))

  pub deviation_hidden : most_empty < t.empties → None ≡ deviation_shown f d
  unfolding deviation_shown
  deviation_hidden h = sym (cond-false (is_averaged f d) _ None (many h))

  pub deviation_there : t.empties ≤ most_empty → deviation_of t.present t.sum t.squares ≡ deviation_shown f d
  unfolding deviation_shown
  deviation_there h = ap (λ (u : Tally). deviation_of u.present u.sum u.squares) is ∙ sym (cond-true (is_averaged f d) _ None (few h))

few_empties : (f : Column) (d : ℕ) → is_averaged f d ≡ true → empties f d ≤ most_empty
few_empties f d h = grind (arith, nat_tests)

-- ---- the mean. In a month that has more than three days some day has a value where at most three are empty
module _ (g : Grid) (x : Element) (valid : Valid g) (d : ℕ) (long : 3 < d) where
  in_range_of : (m : ℤ) → MeanLaw (sum (column g x) d) (present (column g x) d) m → takes x m ≡ true
  in_range_of m law =
      takes_between x m (law.from_lowest _ (sum_from _ (column g x) (value_from g x valid) d)) (law.to_highest _ (sum_to _ (column g x) (value_to g x valid) d))

  mean_on : (b : Bool) → is_averaged (column g x) d ≡ b → (r : Option ℤ) → Averaged (sum (column g x) d) (present (column g x) d) r → MeanOf x (column g x) d (cond b r None)
  mean_on true h None none = absurd (omega (arith, few_empties (column g x) d h, every_day (column g x) d))
  mean_on true h (Some m) some = record {
    shown = shown_by (is_averaged (column g x) d) (IsMean (column g x) d) m h some.1.nearest some.1.only;
    in_range = λ k e. let same : m ≡ k = cc in subst (λ z. takes x z ≡ true) same (in_range_of m some.1);
  }
  mean_on false h r law = record { shown = hidden (is_averaged (column g x) d) (IsMean (column g x) d) h; in_range = λ m e. absurd (grind arith) }

  pub mean_law : MeanOf x (column g x) d (mean_shown (column g x) d)
  unfolding mean_shown
  mean_law = mean_on (is_averaged (column g x) d) refl _ (averaged_by (sum (column g x) d) (present (column g x) d) _ refl)

-- ---- the deviation
-- the sums of the days so far are those of temperatures
sums_step : (n q : ℕ) (s : ℤ) (o : Option ℤ) → ((v : ℤ) → Some v ≡ o → nat_abs v ≤ farthest) → SumsHold n s q → SumsHold (cond (is_some o) 1 0 + n) (s +ℤ amount o) (q + square o)
sums_step n q s None h k =
    let count : n ≡ 0 + n = omega arith in
    let whole : s ≡ s +ℤ pos 0 = omega (arith, ints) in
    let all : q ≡ q + 0 = omega arith in
    subst (λ i. SumsHold i (s +ℤ pos 0) (q + 0)) count (subst (λ z. SumsHold n z (q + 0)) whole (subst (SumsHold n s) all k))
sums_step n q s (Some v) h k =
    let count : n + 1 ≡ 1 + n = omega arith in
    subst (λ i. SumsHold i (s +ℤ v) (q + nat_abs v * nat_abs v)) count (sums_grow.one_more n s q v (h v refl) k)

temperature_size : (g : Grid) → Valid g → (d : ℕ) (v : ℤ) → Some v ≡ column g MeanTemperature d → nat_abs v ≤ farthest
temperature_size g valid d v e = omega (arith, ints, value_from g MeanTemperature valid d v e, value_to g MeanTemperature valid d v e)

sums_hold : (f : Column) → ((d : ℕ) (v : ℤ) → Some v ≡ f d → nat_abs v ≤ farthest) → (d : ℕ) → SumsHold (present f d) (sum f d) (squares f d)
unfolding present sum squares
sums_hold f h zero = sums_grow.none_yet
sums_hold f h (suc d) = sums_step (present f d) (squares f d) (sum f d) (f (suc d)) (h (suc d)) (sums_hold f h d)

module _ (g : Grid) (valid : Valid g) (d : ℕ) (long : 28 ≤ d) (short : d ≤ most_days) where
  bounds_kept : empties (column g MeanTemperature) d ≤ most_empty → keeps_bounds (present (column g MeanTemperature) d) (sum (column g MeanTemperature) d) (squares (column g MeanTemperature) d) ≡ true
  bounds_kept few =
      sums_grow.kept _ _ _ (omega (arith, every_day (column g MeanTemperature) d)) (omega (arith, every_day (column g MeanTemperature) d))
      (sums_hold (column g MeanTemperature) (temperature_size g valid) d)

  deviation_on : (b : Bool) → is_averaged (column g MeanTemperature) d ≡ b → (r : Option ℕ) →
      Deviated (present (column g MeanTemperature) d) (sum (column g MeanTemperature) d) (squares (column g MeanTemperature) d) r → DeviationOf (column g MeanTemperature) d (cond b r None)
  deviation_on true h None none = absurd (both_ways _ none (bounds_kept (few_empties (column g MeanTemperature) d h)))
  deviation_on true h (Some k) some = record {
    shown = shown_by (is_averaged (column g MeanTemperature) d) (IsDeviation (column g MeanTemperature) d) k h some.1.stands some.1.only;
    three_digits = λ j e. let same : k ≡ j = cc in omega (arith, some.1.most);
  }
  deviation_on false h r law = record { shown = hidden (is_averaged (column g MeanTemperature) d) (IsDeviation (column g MeanTemperature) d) h; three_digits = λ k e. absurd (grind arith) }

  pub deviation_law : DeviationOf (column g MeanTemperature) d (deviation_shown (column g MeanTemperature) d)
  unfolding deviation_shown
  deviation_law =
      let f = column g MeanTemperature in
      deviation_on (is_averaged f d) refl _ (deviated_by (present f d) (sum f d) (squares f d) _ refl)
