-- The laws of every run of calls. Assumes nothing.
use Rattle.std.proofs.Common.{◌≡◌, ℕ, ◌+◌, ◌<◌, ◌≤◌, Bool, true, false, cond, not, ◌&&◌, leb, ◌⊎◌, List, [], ◌∷◌, ◌++◌, ℤ, pos, is_some, is_ok, Some, None, Ok, Option, sym, refl, ap, ◌∙◌, subst, inl, inr, ⊎_elim, arith}
use Rattle.std.proofs.lemmas.Bool.{and_parts, not-true, cond-false, cond-true, leb-false}
use Rattle.station.specs.declared.element.Element.{Element}
use Rattle.station.specs.declared.refusal.Refusal.{Refusal}
use Rattle.station.specs.declared.refusal.Refusal.TheVariants.{Full}
use Rattle.station.specs.Numbers.{same}
use Rattle.station.specs.Elements.{element_number}
use Rattle.station.specs.Refusals.{or_else, unless, altered}
use Rattle.station.proofs.OnNumbers.{same_true}
use Rattle.station.proofs.OnElements.{number_bounds}
use Rattle.station.proofs.OnRefusals.{none_first, none_second}
use Rattle.daybook.specs.declared.call.Call.{Call}
use Rattle.daybook.specs.declared.call.Call.TheVariants.{Enter, Strike, LookUp}
use Rattle.daybook.specs.declared.call.Logged.{Logged}
use Rattle.daybook.specs.Grid.{Grid, with_pair, filled}
use Rattle.daybook.specs.Calls.{pair_refusal, value_refusal, full_refusal, enter_refusal, strike_refusal, looked_up, entered, struck}
use Rattle.daybook.specs.Runs.{answer_to, after, standing, answered, carried_out, names, left_by, is_accepted, changes, untouched, RunsBy}
use Rattle.daybook.proofs.OnPairs.{found_pair}
use Rattle.daybook.proofs.OnGrids.{filled_with}
use Rattle.daybook.proofs.OnCalls.{look_found}

-- ---- a change under a refusal
keeps : (o : Option Refusal) (t : Bool) (old new : Grid) (d e : ℤ) → (t && is_ok (unless {X = Unit {0}} o tt)) ≡ false → (t ≡ false → new d e ≡ old d e) → altered o old new d e ≡ old d e
keeps None true old new d e h k = absurd (grind arith)
keeps None false old new d e h k = k refl
keeps (Some r) t old new d e h k = refl

no_refusal : (o : Option Refusal) (t : Bool) → (t && is_ok (unless {X = Unit {0}} o tt)) ≡ true → (t ≡ true) × (o ≡ None)
no_refusal None t h = ((and_parts t true h).0, refl)
no_refusal (Some r) t h = absurd (grind arith)

-- ---- one call, at the pair of d and e
module _ (g : Grid) (ceiling : ℕ) (d e : ℤ) where
  unchanged_by : (call : Call) → (names d e call && is_accepted (Some (answer_to g ceiling call))) ≡ false → after g ceiling call d e ≡ g d e
  unfolding entered struck
  unchanged_by (Enter i j v) h =
      keeps (enter_refusal g ceiling i j v) (same d i && same e j) g (with_pair g i j (Some v)) d e h (cond-false (same d i && same e j) (Some v) (g d e))
  unchanged_by (Strike i j) h =
      keeps (strike_refusal g i j) (same d i && same e j) g (with_pair g i j None) d e h (cond-false (same d i && same e j) None (g d e))
  unchanged_by (LookUp i j) h = refl

  here : (i j : ℤ) → (same d i && same e j) ≡ true → pair_refusal i j ≡ None → pair_refusal d e ≡ None
  here i j t n =
      let both = and_parts (same d i) (same e j) t in
      rw (same_true d i both.0, same_true e j both.1) n

  changed_by : (call : Call) → (names d e call && is_accepted (Some (answer_to g ceiling call))) ≡ true → (after g ceiling call d e ≡ left_by call) × (pair_refusal d e ≡ None)
  unfolding entered struck enter_refusal strike_refusal
  changed_by (Enter i j v) h =
      let both = no_refusal (enter_refusal g ceiling i j v) (same d i && same e j) h in
      (rw both.1 (cond-true (same d i && same e j) (Some v) (g d e) both.0), here i j both.0 (none_first (pair_refusal i j) _ both.1))
  changed_by (Strike i j) h =
      let both = no_refusal (strike_refusal g i j) (same d i && same e j) h in
      (rw both.1 (cond-true (same d i && same e j) None (g d e) both.0), here i j both.0 (none_first (pair_refusal i j) _ both.1))
  changed_by (LookUp i j) h = absurd (grind arith)

-- ---- one call, and the number of filled pairs
module _ (g : Grid) (ceiling : ℕ) where
  at_place : (i j : ℤ) (day : ℕ) (element : Element) (x : Option ℤ) → pos day ≡ i → pos (element_number element) ≡ j → 1 ≤ day → day ≤ 31 →
      filled (with_pair g i j x) + cond (is_some (g i j)) 1 0 ≡ filled g + cond (is_some x) 1 0
  at_place i j day element x is-i is-j from to =
      let bounds = number_bounds element in
      rw (← is-i, ← is-j) (filled_with day (element_number element) from to bounds.0 bounds.1 g x)

  pub at_pair : (i j : ℤ) (x : Option ℤ) → pair_refusal i j ≡ None → filled (with_pair g i j x) + cond (is_some (g i j)) 1 0 ≡ filled g + cond (is_some x) 1 0
  at_pair i j x n = let pair = found_pair i j n in at_place i j pair.day pair.element x pair.is_d pair.is_e pair.from pair.to

  room_left : (t : Bool) → cond (not t && leb ceiling (filled g)) (Some Full) None ≡ None → (t ≡ true) ⊎ (filled g < ceiling)
  room_left true h = inl refl
  room_left false h = inr (leb-false ceiling (filled g) (no_test (leb ceiling (filled g)) h))
    where
      no_test : (b : Bool) → cond b (Some Full) None ≡ None → b ≡ false
      no_test true k = cc
      no_test false k = refl

  enter_within : (i j v : ℤ) → enter_refusal g ceiling i j v ≡ None → filled g ≤ ceiling → filled (with_pair g i j (Some v)) ≤ ceiling
  unfolding enter_refusal
  enter_within i j v n h =
      let later = none_second (pair_refusal i j) (or_else (value_refusal j v) (full_refusal g ceiling i j)) n in
      let step = at_pair i j (Some v) (none_first (pair_refusal i j) _ n) in
      ⊎_elim
      (λ (t : is_some (g i j) ≡ true). let step' = rw t at step in omega arith)
      (λ (l : filled g < ceiling). omega arith)
      (room_left (is_some (g i j)) (none_second (value_refusal j v) (full_refusal g ceiling i j) later))

  strike_within : (i j : ℤ) → strike_refusal g i j ≡ None → filled g ≤ ceiling → filled (with_pair g i j None) ≤ ceiling
  unfolding strike_refusal
  strike_within i j n h = let step = at_pair i j None (none_first (pair_refusal i j) _ n) in omega arith

  either : (o : Option Refusal) (new : Grid) → (o ≡ None → filled new ≤ ceiling) → filled g ≤ ceiling → filled (altered o g new) ≤ ceiling
  either None new k h = k refl
  either (Some r) new k h = h

  within_by : (call : Call) → filled g ≤ ceiling → filled (after g ceiling call) ≤ ceiling
  unfolding entered struck
  within_by (Enter i j v) h = either (enter_refusal g ceiling i j v) (with_pair g i j (Some v)) (λ n. enter_within i j v n h) h
  within_by (Strike i j) h = either (strike_refusal g i j) (with_pair g i j None) (λ n. strike_within i j n h) h
  within_by (LookUp i j) h = h

-- ---- runs
run_keeps : (log : List Logged) (g : Grid) (ceiling : ℕ) (d e : ℤ) → untouched d e (carried_out g ceiling log) ≡ true → standing g ceiling log d e ≡ g d e
unfolding untouched carried_out standing
run_keeps [] g ceiling d e h = refl
run_keeps (l ∷ rest) g ceiling d e h =
    let next : Grid = after g ceiling l.call in
    let both = and_parts (not (changes d e (answered g ceiling l))) (untouched d e (carried_out next ceiling rest)) h in
    run_keeps rest next ceiling d e both.1 ∙ unchanged_by g ceiling d e l.call (not-true _ both.0)

run_within : (log : List Logged) (g : Grid) (ceiling : ℕ) → filled g ≤ ceiling → filled (standing g ceiling log) ≤ ceiling
unfolding standing
run_within [] g ceiling h = h
run_within (l ∷ rest) g ceiling h = run_within rest (after g ceiling l.call) ceiling (within_by g ceiling l.call h)

run_last : (before log later : List Logged) (m : Logged) (g : Grid) (ceiling : ℕ) (d e : ℤ) → carried_out g ceiling log ≡ before ++ (m ∷ later) →
    changes d e m ≡ true → untouched d e later ≡ true → looked_up (standing g ceiling log) d e ≡ Ok (left_by m.call)
unfolding carried_out standing
run_last [] [] later m g ceiling d e split c u = absurd (grind arith)
run_last (b ∷ before) [] later m g ceiling d e split c u = absurd (grind arith)
run_last [] (l ∷ rest) later m g ceiling d e split c u =
    let next : Grid = after g ceiling l.call in
    let first : answered g ceiling l ≡ m = cc in
    let others : carried_out next ceiling rest ≡ later = cc in
    let change = changed_by g ceiling d e l.call (subst (λ k. changes d e k ≡ true) (sym first) c) in
    let kept = run_keeps rest next ceiling d e (subst (λ k. untouched d e k ≡ true) (sym others) u) in
    let same-call : l.call ≡ m.call = ap (λ k. k.call) first in
    look_found (standing next ceiling rest) d e change.1 ∙ ap Ok (kept ∙ change.0 ∙ ap left_by same-call)
run_last (b ∷ before) (l ∷ rest) later m g ceiling d e split c u =
    let others : carried_out (after g ceiling l.call) ceiling rest ≡ before ++ (m ∷ later) = cc in
    run_last before rest later m (after g ceiling l.call) ceiling d e others c u

pub runs_by : (g g' : Grid) (ceiling : ℕ) (log log' : List Logged) → carried_out g ceiling log ≡ log' → standing g ceiling log ≡ g' → RunsBy g ceiling log' g'
runs_by g g' ceiling log log' whole end = rw (← whole, ← end) (record {
  last_change = λ before later m d e split c u. run_last before log later m g ceiling d e split c u;
  no_change = run_keeps log g ceiling;
  ceiling_kept = run_within log g ceiling;
})
