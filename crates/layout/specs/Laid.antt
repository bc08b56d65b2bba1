-- A section's fields, from the figures that there are.
use Rattle.std.specs.Prelude.{◌≡◌, ℕ, Bool, true, false, cond, not, ◌&&◌, ◌||◌, List, [], ◌∷◌, ◌++◌, length, map, take, drop, Some, None, Option, ◌==◌, nat_le}
use Rattle.std.specs.List.{list_all}
use Rattle.layout.specs.declared.field.Field.TheVariants.{Shown, Barred, LeftOut}
use Rattle.layout.specs.declared.row.Row.{Row}
use Rattle.layout.specs.declared.row.Group.{Group}
use Rattle.layout.specs.declared.section.Section.{Section}
use Rattle.layout.specs.Tables.{groups_of, rows_of}
use Rattle.layout.specs.Lawful.{Cell, all_good, section_lawful}

-- there is no figure
abbrev pub is_absent : Option ℕ → Bool
is_absent None = true
is_absent (Some n) = false

-- there is a figure, and it is nought
abbrev pub is_zero : Option ℕ → Bool
is_zero None = false
is_zero (Some n) = n == 0

-- a group that is left out: it has no figure, or, where such a group is left out, nothing but noughts
abbrev pub is_silent : Group → List (Option ℕ) → Bool
is_silent g figures = list_all is_absent figures || (g.noughts && list_all is_zero figures)

-- a field: left out in a silent group, else its figure, or a bar where there is none
abbrev pub cell_of : Bool → Option ℕ → Cell
cell_of true f = LeftOut
cell_of false None = Barred
cell_of false (Some n) = Shown n

-- the fields of a group that is silent, or not
abbrev pub settled : Bool → List (Option ℕ) → List Cell
settled silent figures = map (cell_of silent) figures

-- the fields of groups, one after the other; what belongs to no group is left out
unfoldable pub laid : List Group → List (Option ℕ) → List Cell
laid [] figures = settled true figures
laid (g ∷ groups) figures = settled (is_silent g (take g.count figures)) (take g.count figures) ++ laid groups (drop g.count figures)

-- the fields of a section
abbrev pub laid_out : Section → List (Option ℕ) → List Cell
laid_out s figures = laid (groups_of s) figures

-- the figures of a group fit its fields, in a month of d days: it is silent and may be left out, or each field is good
abbrev pub group_fits : ℕ → Group → List Row → List (Option ℕ) → Bool
group_fits d g rows figures = cond (is_silent g figures) (not g.required) (all_good d rows LeftOut (settled false figures))

-- the figures of groups fit their fields: there are as many, and those of each group fit
unfoldable pub figures_fit : ℕ → List Group → List Row → List (Option ℕ) → Bool
figures_fit d [] rows [] = true
figures_fit d [] rows (f ∷ figures) = false
figures_fit d (g ∷ groups) rows figures =
    nat_le g.count (length figures)
    && (group_fits d g (take g.count rows) (take g.count figures) && figures_fit d groups (drop g.count rows) (drop g.count figures))

-- figures that fit a section are laid out as lawful fields
abbrev pub LaidLawful : Section → List (Option ℕ) → Type 0
LaidLawful s figures = (d : ℕ) → figures_fit d (groups_of s) (rows_of s) figures ≡ true → section_lawful d s (laid_out s figures) ≡ true
