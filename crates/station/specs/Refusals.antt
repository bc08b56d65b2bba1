-- The number of each refusal, and what a call with a refusal answers.
use Rattle.std.specs.Prelude.{◌≡◌, ℕ, Bool, cond, List, ℤ, Some, None, Ok, Err, Option, Result, ok_or}
use Rattle.station.specs.declared.refusal.Refusal.{Refusal}
use Rattle.std.specs.Fmt.{decimal}
use Rattle.station.specs.Numbers.{Bearing}
use Rattle.station.specs.declared.refusal.Refusal.TheVariants.{Sheet, Normal, Day, Element, Value, Full, Empty, Room, Month, Malformed}

-- the number by which a refusal is known
abbrev pub refusal_number : Refusal → ℕ
refusal_number Sheet = 1
refusal_number Normal = 2
refusal_number Day = 3
refusal_number Element = 4
refusal_number Value = 5
refusal_number Full = 6
refusal_number Empty = 7
refusal_number Room = 8
refusal_number Month = 9
refusal_number Malformed = 18

-- its number in decimal digits
abbrev pub refusal_text : Refusal → List ℕ
refusal_text r = decimal (refusal_number r)

-- the refusal where the test fails, and none where it passes
abbrev pub requiring : Bool → Refusal → Option Refusal
requiring passes r = cond passes None (Some r)

-- what the first of two checks says, and where it says nothing the second
abbrev pub or_else : {X : Type 0} → Option X → Option X → Option X
or_else (Some r) later = Some r
or_else None later = later

-- the answer of a call: the refusal, or x where there is none
abbrev pub unless : {X : Type 0} → Option Refusal → X → Result X Refusal
unless (Some r) x = Err r
unless None x = Ok x

-- what the call leaves: the old where it declined, the new where it did not
abbrev pub altered : {X : Type 0} → Option Refusal → X → X → X
altered (Some r) old new = old
altered None old new = new

-- the answer is this refusal, or where there is none a value with the property P
abbrev pub Answered : {X : Type 0} → Option Refusal → Result X Refusal → (X → Type 0) → Type 0
Answered (Some r) (Ok x) P = ⊥
Answered (Some r) (Err s) P = s ≡ r
Answered None (Ok x) P = P x
Answered None (Err s) P = ⊥

-- What a conversion from a number answers: what bears the number, or the refusal where nothing does.
pub record BearerOf {X : Type 0} (number : X → ℕ) (n : ℤ) (found : Option X) (refusal : Refusal) (answer : Result X Refusal) : Type 0 where
  -- it is what was found, or the refusal
  pub given : answer ≡ ok_or found refusal
  -- what was found bears the number, and where nothing was found nothing does
  pub bears : Bearing number n found
