-- What a search over the days of a month says of the grid. Assumes that the month has a day.
use Rattle.std.proofs.Common.{◌≡◌, ℕ, ◌≤◌, Bool, true, false, ℤ, is_some, Some, None, Option, sym, refl, ap, ◌∙◌, subst, inl, inr, arith}
use Rattle.std.proofs.lemmas.Bool.{both_ways}
use Rattle.station.specs.declared.calendar.CalendarMonth.{CalendarMonth}
use Rattle.station.specs.declared.element.Element.{Element}
use Rattle.daybook.specs.Grid.{Grid, most_days}
use Rattle.extremes.specs.declared.search.Extreme.{Extreme}
use Rattle.columns.specs.Columns.{column}
use Rattle.extremes.specs.Kinds.{days_as}
use Rattle.std.specs.Option.{option_map}
use Rattle.extremes.specs.Tops.{Lacking, Right, Searched}
use Rattle.station.specs.Months.{days_of}
use Rattle.extremes.specs.Months.{EveryDay, OfMonth}

module _ {X : Type 0} (kind : ℤ → X) where
  -- a reading stands exactly where a value does
  is_some-option_map : (o : Option ℤ) → is_some (option_map kind o) ≡ is_some o
  is_some-option_map None = refl
  is_some-option_map (Some v) = refl

  module _ (over : X → X → Bool) (g : Grid) (x : Element) (m : CalendarMonth) where
    whole_month : (answer : Option (Extreme X)) → Right over (days_as kind g x) (days_of m) answer → is_some answer ≡ true → EveryDay g x m
    whole_month None r s day lo hi = absurd (both_ways false refl s)
    whole_month (Some e) r s day lo hi = sym (is_some-option_map (column g x day)) ∙ ap is_some (r.full day lo hi).1

    none_lacking : 1 ≤ days_of m → Lacking (days_as kind g x) (days_of m) → EveryDay g x m → ⊥
    none_lacking some (inl z) every = omega arith
    none_lacking some (inr k) every =
        both_ways (is_some (column g x k.0)) (sym (is_some-option_map (column g x k.0)) ∙ ap is_some k.3) (every k.0 k.1 k.2)

    shown_month : 1 ≤ days_of m → (answer : Option (Extreme X)) → Right over (days_as kind g x) (days_of m) answer → EveryDay g x m → is_some answer ≡ true
    shown_month some None r every = absurd (none_lacking some r every)
    shown_month some (Some e) r every = refl

    at_month : 1 ≤ days_of m → days_of m ≤ most_days → (answer : Option (Extreme X)) → Searched over (days_as kind g x) (days_of m) answer → OfMonth over kind g x m answer
    at_month some at_most answer s = record {
      searched = s;
      at_most = at_most;
      whole = whole_month answer s.right;
      shown = shown_month some answer s.right;
      days_only = λ g' same other o. s.only (days_as kind g' x) (λ day lo hi. ap (option_map kind) (same day lo hi)) other o.right;
    }

    pub of_month : (last : ℕ) → last ≡ days_of m → 28 ≤ last → last ≤ most_days → (answer : Option (Extreme X)) → Searched over (days_as kind g x) last answer → OfMonth over kind g x m answer
    of_month last is least most answer s =
        at_month (omega (arith, is)) (omega (arith, is)) answer (subst (λ (n : ℕ). Searched over (days_as kind g x) n answer) is s)
