-- Figures that are shown, and figures that are not. Assumes nothing.
use Rattle.std.proofs.Common.{◌≡◌, Bool, true, false, cond, is_some, Some, None, Option, sym, refl, ap, ◌∙◌, subst, arith}
use Rattle.std.specs.Option.{IfSome, option_map}
use Rattle.figures.specs.Shown.{Shown}

module _ {X : Type 0} (condition : Bool) (Is : X → Type 0) where
  pub hidden : condition ≡ false → Shown condition Is None
  hidden h = record { exactly = sym h; is = λ x e. absurd (grind arith); only = λ x other e. absurd (grind arith) }

  pub shown_by : (x : X) → condition ≡ true → Is x → ((other : X) → Is other → other ≡ x) → Shown condition Is (Some x)
  shown_by x h p q = record {
    exactly = sym h;
    is = λ y e. let same : x ≡ y = cc in subst Is same p;
    only = λ y other e r. let same : x ≡ y = cc in q other r ∙ same;
  }

-- what is the only x for which Is holds, shown on the condition
pub shown_on : {X : Type 0} (condition : Bool) (Is : X → Type 0) (x : X) → Is x → ((other : X) → Is other → other ≡ x) → Shown condition Is (cond condition (Some x) None)
shown_on true Is x p q = shown_by true Is x refl p q
shown_on false Is x p q = hidden false Is refl

-- what is answered exactly on a condition, and is then x
pub answered_on : {X : Type 0} (condition : Bool) (x : X) (o : Option X) → is_some o ≡ condition → IfSome o (λ y. y ≡ x) → o ≡ cond condition (Some x) None
answered_on true x (Some y) e h = ap Some h
answered_on true x None e h = absurd (grind arith)
answered_on false x (Some y) e h = absurd (grind arith)
answered_on false x None e h = refl

-- a figure made of what is shown on a condition is shown on it
pub mapped_on : {X Y : Type 0} (f : X → Y) (condition : Bool) (x : X) → option_map f (cond condition (Some x) None) ≡ cond condition (Some (f x)) None
mapped_on f true x = refl
mapped_on f false x = refl
