-- The text of a section's fields.
use Rattle.std.specs.Prelude.{ℕ, cond, List, [], ◌∷◌, ◌++◌, take, drop}
use Rattle.std.specs.List.{list_all}
use Rattle.text.specs.Digits.{digits, bars}
use Rattle.layout.specs.declared.field.Field.TheVariants.{Shown, Barred, LeftOut}
use Rattle.layout.specs.declared.row.Row.{Row}
use Rattle.layout.specs.declared.row.Group.{Group}
use Rattle.layout.specs.declared.section.Section.{Section}
use Rattle.layout.specs.declared.section.Section.TheVariants.{First, Second, Third, Fourth}
use Rattle.layout.specs.Tables.{groups_of, rows_of, number_of}
use Rattle.layout.specs.Lawful.{Cell, is_left_out}

-- a space
abbrev pub space : ℕ
space = 32

-- a field: its number in the field's width, or bars over all of it
abbrev pub field_text : Row → Cell → List ℕ
field_text r (Shown c) = digits r.width c
field_text r Barred = bars r.width
field_text r LeftOut = []

-- fields one after the other
unfoldable pub fields_text : List Row → List Cell → List ℕ
fields_text [] cells = []
fields_text (r ∷ rows) [] = []
fields_text (r ∷ rows) (c ∷ cells) = field_text r c ++ fields_text rows cells

-- a group: a space, its digit and its fields; nothing where it is left out
abbrev pub group_text : Group → List Row → List Cell → List ℕ
group_text g rows cells = cond (list_all is_left_out cells) [] (space ∷ (digits 1 g.digit ++ fields_text rows cells))

-- groups one after the other
unfoldable pub groups_text : List Group → List Row → List Cell → List ℕ
groups_text [] rows cells = []
groups_text (g ∷ groups) rows cells =
    group_text g (take g.count rows) (take g.count cells) ++ groups_text groups (drop g.count rows) (drop g.count cells)

-- a section: a space, its number and its groups; nothing where it has no group
abbrev pub section_text : Section → List Cell → List ℕ
section_text s cells = cond (list_all is_left_out cells) [] (space ∷ (number_of s ++ groups_text (groups_of s) (rows_of s) cells))

-- the most bytes that a section takes
abbrev pub most_bytes : Section → ℕ
most_bytes First = 73
most_bytes Second = 75
most_bytes Third = 68
most_bytes Fourth = 58
