-- A field whose figure is made into another.
use Rattle.std.specs.Prelude.{◌≡◌}
use Rattle.layout.specs.declared.field.Field.{Field}
use Rattle.layout.specs.declared.field.Field.TheVariants.{Shown, Barred, LeftOut}

-- another may be made of the figure that is shown
abbrev pub MayMap : {X : Type 0} → (X → Type 0) → Field X → Type 0
MayMap pre (Shown x) = pre x
MayMap pre Barred = Unit {0}
MayMap pre LeftOut = Unit {0}

-- a field in the same state, with a figure that may be made of the one shown
abbrev pub Mapped : {X Y : Type 0} → (X → Y → Type 0) → Field X → Field Y → Type 0
Mapped makes (Shown x) made = (y : _) × makes x y × (made ≡ Shown y)
Mapped makes Barred made = made ≡ Barred
Mapped makes LeftOut made = made ≡ LeftOut
