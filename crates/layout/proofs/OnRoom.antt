-- How many bytes a section takes at most. Assumes nothing.
use Rattle.std.proofs.Common.{◌≡◌, ℕ, ◌+◌, ◌≤◌, true, false, cond, List, [], ◌∷◌, ◌++◌, length, take, drop, refl, arith, length-append}
use lib.ListN.{length-replicate}
use Rattle.std.specs.List.{list_all}
use Rattle.text.specs.Digits.{digits}
use Rattle.text.proofs.OnDigits.{length_digits}
use Rattle.layout.specs.declared.field.Field.TheVariants.{Shown, Barred, LeftOut}
use Rattle.layout.specs.declared.row.Row.{Row}
use Rattle.layout.specs.declared.row.Group.{Group}
use Rattle.layout.specs.declared.section.Section.{Section}
use Rattle.layout.specs.declared.section.Section.TheVariants.{First, Second, Third, Fourth}
use Rattle.layout.specs.Tables.{groups_of, rows_of, number_of}
use Rattle.layout.specs.Lawful.{Cell, is_left_out}
use Rattle.layout.specs.Texts.{field_text, fields_text, group_text, groups_text, section_text, most_bytes}

-- the widths of fields
widths : List Row → ℕ
widths [] = 0
widths (r ∷ rows) = r.width + widths rows

-- the bytes of groups that all stand
room : List Group → List Row → ℕ
room [] rows = 0
room (g ∷ groups) rows = (2 + widths (take g.count rows)) + room groups (drop g.count rows)

field_room : (r : Row) (c : Cell) → length (field_text r c) ≤ r.width
field_room r (Shown c) = omega (arith, length_digits r.width c)
field_room r Barred = omega (arith, length-replicate {A = ℕ} r.width 47)
field_room r LeftOut = omega arith

fields_room : (rows : List Row) (cells : List Cell) → length (fields_text rows cells) ≤ widths rows
unfolding fields_text widths
fields_room [] cells = omega arith
fields_room (r ∷ rows) [] = omega arith
fields_room (r ∷ rows) (c ∷ cells) = omega (arith, length-append (field_text r c) (fields_text rows cells), field_room r c, fields_room rows cells)

group_room : (g : Group) (rows : List Row) (cells : List Cell) → length (group_text g rows cells) ≤ 2 + widths rows
group_room g rows cells =
    let standing : length (32 ∷ (digits 1 g.digit ++ fields_text rows cells)) ≤ 2 + widths rows =
    omega (arith, length-append (digits 1 g.digit) (fields_text rows cells), length_digits 1 g.digit, fields_room rows cells) in
    elim (list_all is_left_out cells) as (λ b. length (cond b [] (32 ∷ (digits 1 g.digit ++ fields_text rows cells))) ≤ 2 + widths rows) [ true ↦ omega arith | false ↦ standing ]

groups_room : (groups : List Group) (rows : List Row) (cells : List Cell) → length (groups_text groups rows cells) ≤ room groups rows
unfolding groups_text room
groups_room [] rows cells = omega arith
groups_room (g ∷ groups) rows cells =
    omega (
      arith,
      length-append (group_text g (take g.count rows) (take g.count cells)) (groups_text groups (drop g.count rows) (drop g.count cells)),
      group_room g (take g.count rows) (take g.count cells),
      groups_room groups (drop g.count rows) (drop g.count cells),
    )

number_length : (s : Section) → length (number_of s) ≡ 3
number_length First = refl
number_length Second = refl
number_length Third = refl
number_length Fourth = refl

section_sum : (s : Section) → 4 + room (groups_of s) (rows_of s) ≡ most_bytes s
unfolding room widths
section_sum First = refl
section_sum Second = refl
section_sum Third = refl
section_sum Fourth = refl

pub section_room : (s : Section) (cells : List Cell) → length (section_text s cells) ≤ most_bytes s
section_room s cells =
    let standing : length (32 ∷ (number_of s ++ groups_text (groups_of s) (rows_of s) cells)) ≤ most_bytes s =
    omega (arith, length-append (number_of s) (groups_text (groups_of s) (rows_of s) cells), number_length s, groups_room (groups_of s) (rows_of s) cells, section_sum s) in
    elim (list_all is_left_out cells) as (λ b. length (cond b [] (32 ∷ (number_of s ++ groups_text (groups_of s) (rows_of s) cells))) ≤ most_bytes s) [ true ↦ omega arith | false ↦ standing ]
