-- What the checks of a call, one after the other, come to. Assumes nothing.
use Rattle.std.proofs.Common.{◌≡◌, ℕ, ◌<◌, ◌≤◌, true, false, not, leb, ℤ, is_some, Some, None, Ok, Err}
use Rattle.std.proofs.lemmas.Bool.{and_right, lt-leb, le-leb}
use Rattle.station.specs.declared.refusal.Refusal.{Refusal}
use Rattle.station.specs.declared.refusal.Refusal.TheVariants.{Full, Empty}
use Rattle.daybook.specs.Grid.{Grid, filled, with_pair}
use Rattle.daybook.specs.Calls.{pair_refusal, value_refusal, enter_refusal, strike_refusal, looked_up, entered, struck}

module _ (g : Grid) (d e : ℤ) where
  -- ---- looking up
  pub look_declined : (r : Refusal) → pair_refusal d e ≡ Some r → looked_up g d e ≡ Err r
  unfolding looked_up
  look_declined r h = rw h

  pub look_found : pair_refusal d e ≡ None → looked_up g d e ≡ Ok (g d e)
  unfolding looked_up
  look_found h = rw h

  -- ---- striking
  pub strike_declined : (r : Refusal) → pair_refusal d e ≡ Some r → strike_refusal g d e ≡ Some r
  unfolding strike_refusal
  strike_declined r h = rw h

  pub strike_empty : pair_refusal d e ≡ None → is_some (g d e) ≡ false → strike_refusal g d e ≡ Some Empty
  unfolding strike_refusal
  strike_empty h k = rw (h, k)

  pub strike_taken : pair_refusal d e ≡ None → is_some (g d e) ≡ true → strike_refusal g d e ≡ None
  unfolding strike_refusal
  strike_taken h k = rw (h, k)

  pub struck_same : (r : Refusal) → strike_refusal g d e ≡ Some r → struck g d e ≡ g
  unfolding struck
  struck_same r h = rw h

  pub struck_empties : strike_refusal g d e ≡ None → struck g d e ≡ with_pair g d e None
  unfolding struck
  struck_empties h = rw h

module _ (g : Grid) (ceiling : ℕ) (d e v : ℤ) where
  -- ---- entering
  pub enter_declined : (r : Refusal) → pair_refusal d e ≡ Some r → enter_refusal g ceiling d e v ≡ Some r
  unfolding enter_refusal
  enter_declined r h = rw h

  pub enter_value : (r : Refusal) → pair_refusal d e ≡ None → value_refusal e v ≡ Some r → enter_refusal g ceiling d e v ≡ Some r
  unfolding enter_refusal
  enter_value r h k = rw (h, k)

  pub enter_full : pair_refusal d e ≡ None → value_refusal e v ≡ None → is_some (g d e) ≡ false → ceiling ≤ filled g → enter_refusal g ceiling d e v ≡ Some Full
  unfolding enter_refusal
  enter_full h k n l = rw (h, k, n, le-leb ceiling (filled g) l)

  pub enter_again : pair_refusal d e ≡ None → value_refusal e v ≡ None → is_some (g d e) ≡ true → enter_refusal g ceiling d e v ≡ None
  unfolding enter_refusal
  enter_again h k s = rw (h, k, s)

  pub enter_new : pair_refusal d e ≡ None → value_refusal e v ≡ None → filled g < ceiling → enter_refusal g ceiling d e v ≡ None
  unfolding enter_refusal
  enter_new h k l = rw (h, k, and_right (not (is_some (g d e))) (leb ceiling (filled g)) (lt-leb ceiling (filled g) l))

  pub entered_same : (r : Refusal) → enter_refusal g ceiling d e v ≡ Some r → entered g ceiling d e v ≡ g
  unfolding entered
  entered_same r h = rw h

  pub entered_sets : enter_refusal g ceiling d e v ≡ None → entered g ceiling d e v ≡ with_pair g d e (Some v)
  unfolding entered
  entered_sets h = rw h
