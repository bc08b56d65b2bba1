-- Which pairs and values are declined. Assumes nothing.
use Rattle.std.proofs.Common.{◌≡◌, ℕ, ◌≤◌, true, ℤ, pos, negsuc, is_some, Some, None, Ok, Err, Option, sym, refl, arith}
use Rattle.std.proofs.lemmas.Bool.Decides.{nat_tests}
use Rattle.station.specs.declared.element.Element.{Element as Quantity}
use Rattle.station.specs.declared.refusal.Refusal.{Refusal}
use Rattle.station.specs.declared.refusal.Refusal.TheVariants.{Day, Element}
use Rattle.station.specs.Elements.{element_number, element_numbered, is_element}
use Rattle.station.specs.Refusals.{requiring, Answered}
use Rattle.station.proofs.OnElements.{numbered_of, bears}
use Rattle.station.proofs.OnRefusals.{declined, accepted, passed, none_first, none_second}
use Rattle.daybook.specs.declared.pair.Pair.{Pair}
use Rattle.daybook.specs.Grid.{is_day}
use Rattle.daybook.specs.Calls.{pair_refusal}

pub right_pair : (d e : ℤ) (x : Quantity) → is_day d ≡ true → element_numbered e ≡ Some x → pair_refusal d e ≡ None
unfolding pair_refusal
right_pair d e x h n = rw (h, n)

pub day_there : (day : ℕ) → 1 ≤ day → day ≤ 31 → is_day (pos day) ≡ true
day_there day from to = grind (arith, nat_tests)

pub pair_there : (day : ℕ) (x : Quantity) → 1 ≤ day → day ≤ 31 → pair_refusal (pos day) (pos (element_number x)) ≡ None
pair_there day x from to = right_pair (pos day) (pos (element_number x)) x (day_there day from to) (numbered_of x)

-- ---- what the check of a pair tells
abbrev pub StandsFor : ℤ → ℤ → Pair → Type 0
StandsFor d e p = (pos p.day ≡ d) × (pos (element_number p.element) ≡ e)

pub pair_taken : (d e : ℤ) (p : Pair) → Answered (pair_refusal d e) (Ok p) (StandsFor d e) → (pair_refusal d e ≡ None) × (pos p.day ≡ d) × (pos (element_number p.element) ≡ e)
pair_taken d e p h = let both = accepted (pair_refusal d e) p (StandsFor d e) h in (both.0, both.1.0, both.1.1)

pub pair_declined : (d e : ℤ) (r : Refusal) → Answered (pair_refusal d e) (Err r) (StandsFor d e) → pair_refusal d e ≡ Some r
pair_declined d e r h = declined (pair_refusal d e) r (StandsFor d e) h

-- a pair that is not declined has a day from 1 to 31 and an element
pub record FoundPair (d e : ℤ) : Type 0 where
  pub day : ℕ
  pub element : Quantity
  pub is_d : pos day ≡ d
  pub is_e : pos (element_number element) ≡ e
  pub from : 1 ≤ day
  pub to : day ≤ 31

pub found_pair : (d e : ℤ) → pair_refusal d e ≡ None → FoundPair d e
unfolding pair_refusal
found_pair d e h =
    let first = none_first (requiring (is_day d) Day) (requiring (is_element e) Element) h in
    let second = none_second (requiring (is_day d) Day) (requiring (is_element e) Element) h in
    found d (passed (is_day d) Day first) (element_numbered e) refl (passed (is_element e) Element second)
  where
    found : (i : ℤ) → is_day i ≡ true → (o : Option Quantity) → element_numbered e ≡ o → is_some o ≡ true → FoundPair i e
    found (negsuc n) t o k s = absurd (grind arith)
    found (pos n) t None k s = absurd (grind arith)
    found (pos n) t (Some x) k s = record { day = n; element = x; is_d = refl; is_e = sym (bears e x k); from = grind (arith, nat_tests); to = grind (arith, nat_tests) }
