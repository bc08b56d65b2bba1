-- How an answer follows from a refusal, and a refusal from an answer. Assumes nothing.
use Rattle.std.proofs.Common.{◌≡◌, ℕ, Bool, true, false, Some, None, Ok, Err, Option, Result, ℤ, pos, sym, refl, ap, ◌∙◌}
use Rattle.station.specs.declared.refusal.Refusal.{Refusal}
use Rattle.station.specs.Refusals.{requiring, or_else, unless, Answered, BearerOf}

pub declines : {X : Type 0} (o : Option Refusal) (r : Refusal) (P : X → Type 0) → o ≡ Some r → Answered o (Err r) P
declines o r P e = rw e refl

pub accepts : {X : Type 0} (o : Option Refusal) (x : X) (P : X → Type 0) → o ≡ None → P x → Answered o (Ok x) P
accepts o x P e h = rw e h

pub declined : {X : Type 0} (o : Option Refusal) (r : Refusal) (P : X → Type 0) → Answered o (Err r) P → o ≡ Some r
declined None r P h = absurd h
declined (Some s) r P h = let e : s ≡ r = sym h in rw e

pub accepted : {X : Type 0} (o : Option Refusal) (x : X) (P : X → Type 0) → Answered o (Ok x) P → (o ≡ None) × P x
accepted None x P h = (refl, h)
accepted (Some s) x P h = absurd h

-- a refusal that is handed on
pub hands_on : {X : Type 0} (o : Option Refusal) (answer : Result X Refusal) (r s : Refusal) (P : X → Type 0) → o ≡ Some r → answer ≡ Err s → s ≡ r → Answered o answer P
hands_on o answer r s P e f h = rw (e, f) h

-- a check that declined, and one that did not
pub failed : (b : Bool) (r s : Refusal) → requiring b r ≡ Some s → b ≡ false
failed true r s h = cc
failed false r s h = refl

pub passed : (b : Bool) (r : Refusal) → requiring b r ≡ None → b ≡ true
passed true r h = refl
passed false r h = cc

pub failed_with : (b : Bool) (r s : Refusal) → requiring b r ≡ Some s → s ≡ r
failed_with true r s h = cc
failed_with false r s h = cc

pub unless_ok : {X : Type 0} (o : Option Refusal) (x y : X) → Ok x ≡ unless o y → o ≡ None
unless_ok None x y h = refl
unless_ok (Some r) x y h = cc

pub unless_err : {X : Type 0} (o : Option Refusal) (r : Refusal) (y : X) → Err r ≡ unless o y → o ≡ Some r
unless_err None r y h = cc
unless_err (Some s) r y h = cc

-- where one check after the other says nothing, neither says anything
pub none_first : {X : Type 0} (o p : Option X) → or_else o p ≡ None → o ≡ None
none_first None p h = refl
none_first (Some r) p h = cc

pub none_second : {X : Type 0} (o p : Option X) → or_else o p ≡ None → p ≡ None
none_second None p h = h
none_second (Some r) p h = cc

-- what a conversion from a number found, and a refusal because nothing bears the number
pub bearer : {X : Type 0} (number : X → ℕ) (n : ℤ) (o : Option X) (r : Refusal) (x : X) → BearerOf number n o r (Ok x) → (o ≡ Some x) × (pos (number x) ≡ n)
bearer number n None r x h = let z : Ok x ≡ Err r = h.given in cc
bearer {X} number n (Some y) r x h =
    let z : Ok x ≡ Ok y = h.given in
    let e : x ≡ y = cc in
    (ap Some (sym e), ap (λ k. pos (number k)) e ∙ h.bears)

pub borne_by_none : {X : Type 0} (number : X → ℕ) (n : ℤ) (o : Option X) (r s : Refusal) → BearerOf number n o r (Err s) → (o ≡ None) × (s ≡ r)
borne_by_none number n None r s h = let z : Err s ≡ Err r = h.given in (refl, cc)
borne_by_none {X} number n (Some y) r s h = let z : Err s ≡ Ok y = h.given in cc
