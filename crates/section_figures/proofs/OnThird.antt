-- The figures of the third section, limit by limit. Assumes nothing.
use Rattle.std.proofs.Common.{◌≡◌, ℕ, zero, suc, ◌+◌, List, ◌∷◌, length, map, get_or, drop, sym, ap, ap₂, ◌∙◌, subst, arith}
use Rattle.std.proofs.lemmas.List.{drop_more, drop_all}
use Rattle.std.specs.Array.{MapsFrom}
use Rattle.std.specs.Fn.{Called}
use denote.Param.Members.{Mut}

-- what calls of a closure give that each give h of an element and leave the closure as it was
pub mapped : {F A B : Type 0} (g : Mut F (A × Unit {0}) B) (h : A → B) (f : F) (xs : List A) (ys : List B) (i n : ℕ) →
    ((x : A) (y : B) (q : F) → Called g f (x, tt) y q → (q ≡ f) × (y ≡ h x)) → length xs ≡ i + n → length ys ≡ i + n → MapsFrom g f xs ys i n → drop i ys ≡ map h (drop i xs)
mapped g h f xs ys i zero gives long_xs long_ys calls = drop_all i ys (omega arith) ∙ ap (map h) (sym (drop_all i xs (omega arith)))
mapped g h f xs ys i (suc n) gives long_xs long_ys (q, x, y, x_at, y_at, call, others) =
    let given = gives x y q call in
    let rest = mapped g h f xs ys (i + 1) n gives (omega arith) (omega arith) (subst (λ p. MapsFrom g p xs ys (i + 1) n) given.0 others) in
    let first : get_or ys i y ≡ h (get_or xs i x) = y_at.0 ∙ given.1 ∙ ap h (sym x_at.0) in
    drop_more ys i y (omega arith) ∙ ap₂ ◌∷◌ first rest ∙ ap (map h) (sym (drop_more xs i x (omega arith)))
