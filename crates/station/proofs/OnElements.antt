-- An element and its number determine each other. Assumes nothing.
use Rattle.std.proofs.Common.{◌≡◌, ℕ, zero, suc, ◌+◌, ◌<◌, ◌≤◌, Bool, true, false, ◌&&◌, eqb, List, [], ◌∷◌, length, get_or, ℤ, pos, negsuc, is_some, Some, None, Option, sym, refl, ap, ◌∙◌, add-zero, one-add, arith, lit≤, eqb-true}
use Rattle.std.specs.Option.{ok_or}
use Rattle.std.proofs.lemmas.Bool.{and_parts}
use Rattle.station.specs.declared.element.Element.{Element}
use Rattle.station.specs.declared.element.Element.TheVariants.{StationPressure, SeaLevelPressure, MeanTemperature, HighestTemperature, LowestTemperature, VapourPressure, Rain, Sunshine, SnowDepth, Wind, Visibility, Weather}
use Rattle.station.specs.declared.refusal.Refusal.TheVariants.{Element as NoElement}
use Rattle.station.specs.Numbers.{Bearing}
use Rattle.station.specs.Refusals.{BearerOf}
use Rattle.station.specs.Elements.{elements, element_number, element_numbered, is_element, takes, some_takes, in_range}
use Rattle.station.proofs.OnNumbers.{first_bears}

pub numbered_of : (x : Element) → element_numbered (pos (element_number x)) ≡ Some x
unfolding element_numbered
numbered_of StationPressure = refl
numbered_of SeaLevelPressure = refl
numbered_of MeanTemperature = refl
numbered_of HighestTemperature = refl
numbered_of LowestTemperature = refl
numbered_of VapourPressure = refl
numbered_of Rain = refl
numbered_of Sunshine = refl
numbered_of SnowDepth = refl
numbered_of Wind = refl
numbered_of Visibility = refl
numbered_of Weather = refl

-- only the element's own number leads to it
pub bears : (n : ℤ) (x : Element) → element_numbered n ≡ Some x → n ≡ pos (element_number x)
unfolding element_numbered
bears n x h = first_bears element_number n elements x h

-- the numbers run from 1 to the number of elements
pub number_bounds : (x : Element) → (1 ≤ element_number x) × (element_number x ≤ length elements)
number_bounds StationPressure = (lit≤ tt, lit≤ tt)
number_bounds SeaLevelPressure = (lit≤ tt, lit≤ tt)
number_bounds MeanTemperature = (lit≤ tt, lit≤ tt)
number_bounds HighestTemperature = (lit≤ tt, lit≤ tt)
number_bounds LowestTemperature = (lit≤ tt, lit≤ tt)
number_bounds VapourPressure = (lit≤ tt, lit≤ tt)
number_bounds Rain = (lit≤ tt, lit≤ tt)
number_bounds Sunshine = (lit≤ tt, lit≤ tt)
number_bounds SnowDepth = (lit≤ tt, lit≤ tt)
number_bounds Wind = (lit≤ tt, lit≤ tt)
number_bounds Visibility = (lit≤ tt, lit≤ tt)
number_bounds Weather = (lit≤ tt, lit≤ tt)

-- a number that no element bears leads to none
pub numbered_none : (n : ℤ) → ((x : Element) → n ≡ pos (element_number x) → ⊥) → element_numbered n ≡ None
numbered_none n h = split (element_numbered n) refl
  where
    split : (o : Option Element) → element_numbered n ≡ o → o ≡ None
    split None e = refl
    split (Some x) e = absurd (h x (bears n x e))

-- some elements bear the numbers from n on, in order
abbrev in_order : ℕ → List Element → Bool
in_order n [] = true
in_order n (x ∷ rest) = eqb (element_number x) n && in_order (suc n) rest

order_at : (n : ℕ) (xs : List Element) (k : ℕ) → in_order n xs ≡ true → k < length xs → element_number (get_or xs k StationPressure) ≡ n + k
order_at n [] k h l = absurd (omega arith)
order_at n (x ∷ rest) zero h l = let p = and_parts (eqb (element_number x) n) (in_order (suc n) rest) h in eqb-true (element_number x) n p.0 ∙ sym (add-zero n)
order_at n (x ∷ rest) (suc k) h l =
    let p = and_parts (eqb (element_number x) n) (in_order (suc n) rest) h in
    let later = order_at (suc n) rest k p.1 (omega arith) in
    omega arith

-- the element at a place of the list bears the number of that place, counted from 1
pub numbered_at : (n : ℤ) (k : ℕ) → n ≡ pos (suc k) → k < length elements → Some (get_or elements k StationPressure) ≡ element_numbered n
numbered_at n k e l =
    let x : Element = get_or elements k StationPressure in
    let h : element_number x ≡ suc k = order_at 1 elements k refl l ∙ one-add k in
    sym (ap element_numbered (e ∙ ap pos (sym h)) ∙ numbered_of x)

pub bearing_numbered : (n : ℤ) (o : Option Element) → o ≡ element_numbered n → Bearing element_number n o
bearing_numbered n None h = λ x e. let z : None ≡ Some x = h ∙ ap element_numbered (sym e) ∙ numbered_of x in absurd (grind arith)
bearing_numbered n (Some x) h = sym (bears n x (sym h))

-- what a search by number found is what the conversion answers
pub found_element : (n : ℤ) (o : Option Element) → o ≡ element_numbered n → BearerOf element_number n (element_numbered n) NoElement (ok_or o NoElement)
found_element n o h = record { given = ap (λ p. ok_or p NoElement) h; bears = bearing_numbered n (element_numbered n) refl }

pub range_of : (x : Element) (v : ℤ) → in_range (pos (element_number x)) v ≡ takes x v
unfolding in_range
range_of x v = ap (λ o. some_takes o v) (numbered_of x)

-- a number that an element bears lies between theirs
pub is_element_bounds : (n : ℕ) → is_element (pos n) ≡ true → (1 ≤ n) × (n ≤ length elements)
is_element_bounds n h = split (element_numbered (pos n)) refl h
  where
    split : (o : Option Element) → element_numbered (pos n) ≡ o → is_some o ≡ true → (1 ≤ n) × (n ≤ length elements)
    split None e k = absurd (grind arith)
    split (Some x) e k = let z : n ≡ element_number x = let f = bears (pos n) x e in grind arith in rw z (number_bounds x)

-- no element bears a negative number
pub negative_none : (n : ℕ) → is_element (negsuc n) ≡ false
negative_none n = ap is_some (numbered_none (negsuc n) (λ x e. let z : ◌≡◌ {A = ℕ} 0 1 = cc in omega arith))
