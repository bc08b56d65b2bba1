-- Which fields a report may have.
use Rattle.std.specs.Prelude.{ℕ, Bool, cond, ◌&&◌, ◌||◌, List, take}
use Rattle.std.specs.List.{list_all}
use Rattle.layout.specs.declared.section.Section.TheVariants.{First, Second, Third, Fourth}
use Rattle.layout.specs.Lawful.{Cell, is_left_out, section_lawful}

-- the fields of groups 1 to 7 of the first section: means and totals
abbrev pub mean_fields : ℕ
mean_fields = 12

-- a report without any mean or total says that there is nothing to report
abbrev pub is_nil : List Cell → Bool
is_nil first = list_all is_left_out (take mean_fields first)

-- nothing at all
abbrev pub is_empty : List Cell → List Cell → List Cell → List Cell → Bool
is_empty first second third fourth = list_all is_left_out first && (list_all is_left_out second && (list_all is_left_out third && list_all is_left_out fourth))

-- In a month of d days: nothing at all where there is no mean and no total; else lawful fields in each section, of which the second may
-- be left out as a whole.
unfoldable pub is_lawful : ℕ → List Cell → List Cell → List Cell → List Cell → Bool
is_lawful d first second third fourth =
    cond (is_nil first)
    (is_empty first second third fourth)
    (section_lawful d First first && ((list_all is_left_out second || section_lawful d Second second) && (section_lawful d Third third && section_lawful d Fourth fourth)))
