-- A figure that is shown under a condition.
use Rattle.std.specs.Prelude.{◌≡◌, Bool, is_some, Some, Option}

-- What holds of a figure, shown or not, that is to be shown on a condition and is then to be as Is says.
pub record Shown {X : Type 0} (condition : Bool) (Is : X → Type 0) (figure : Option X) : Type 0 where
  -- it is shown exactly on that condition
  pub exactly : is_some figure ≡ condition
  -- shown, it is as it is to be
  pub is : (x : X) → figure ≡ Some x → Is x
  -- and nothing else is
  pub only : (x other : X) → figure ≡ Some x → Is other → other ≡ x
