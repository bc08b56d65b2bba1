-- Which fields of a section are lawful.
use Rattle.std.specs.Prelude.{ℕ, ◌+◌, ◌^◌, Bool, true, false, cond, not, ◌&&◌, ◌||◌, List, [], ◌∷◌, take, drop, ◌==◌, nat_le, nat_lt}
use Rattle.std.specs.List.{list_all}
use Rattle.layout.specs.declared.field.Field.{Field}
use Rattle.layout.specs.declared.field.Field.TheVariants.{Shown, Barred, LeftOut}
use Rattle.layout.specs.declared.row.Kind.{Kind}
use Rattle.layout.specs.declared.row.Kind.TheVariants.{Temperature, Pressure, Number, Days, Rain, DayCode}
use Rattle.layout.specs.declared.row.Tie.{Tie}
use Rattle.layout.specs.declared.row.Tie.TheVariants.{Free, Together, Under, Dry}
use Rattle.layout.specs.declared.row.Row.{Row}
use Rattle.layout.specs.declared.row.Group.{Group}
use Rattle.layout.specs.declared.section.Section.{Section}
use Rattle.layout.specs.Tables.{groups_of, rows_of}

-- a field by the number that its digits write
abbrev pub Cell : Type 0
Cell = Field ℕ

-- the pressure that a code of four digits stands for, in tenths of a hectopascal: below 1000 it lacks its thousand
abbrev pub pressure_of : ℕ → ℕ
pressure_of code = cond (nat_lt code 1000) (10000 + code) code

-- the numbers that a field's digits may write, in a month of d days
abbrev pub is_code : ℕ → Kind → ℕ → ℕ → ℕ → Bool
is_code d Temperature low high c = cond (nat_lt c 1000) (nat_le c high) (nat_le 1001 c && nat_le c (1000 + low))
is_code d Pressure low high c = nat_le low (pressure_of c) && nat_le (pressure_of c) high
is_code d Number low high c = nat_le low c && nat_le c high
is_code d Days low high c = nat_le c d
is_code d Rain low high c = nat_le c 8899 || c == 9999
is_code d DayCode low high c = (nat_le 1 c && nat_le c d) || (nat_le 51 c && nat_le c (49 + d))

abbrev pub is_barred : Cell → Bool
is_barred (Shown c) = false
is_barred Barred = true
is_barred LeftOut = false

abbrev pub is_nought : Cell → Bool
is_nought (Shown c) = c == 0
is_nought Barred = false
is_nought LeftOut = false

abbrev pub is_left_out : Cell → Bool
is_left_out (Shown c) = false
is_left_out Barred = false
is_left_out LeftOut = true

-- whether the tie to a leading field lets a field be barred, or shown
abbrev pub tie_allows : Tie → Cell → Bool → Bool
tie_allows Free lead barred = true
tie_allows Together lead barred = cond (is_barred lead) barred (not barred)
tie_allows Under lead barred = not (is_barred lead) || barred
tie_allows Dry lead barred = not (is_nought lead) || not barred

-- the highest number of a field under its tie to a leading field
abbrev pub highest_under : Tie → Cell → ℕ → ℕ
highest_under Free lead high = high
highest_under Together lead high = high
highest_under Under lead high = high
highest_under Dry lead high = cond (is_nought lead) 0 high

-- a field shown with this number: it has the field's width, lies in its limits, and its tie lets it be shown
abbrev pub may_show : ℕ → Row → Cell → ℕ → Bool
may_show d r lead c = tie_allows r.tie lead false && (nat_lt c (10 ^ r.width) && is_code d r.kind r.low (highest_under r.tie lead r.high) c)

-- a field barred: it may be barred, and its tie lets it be
abbrev pub may_bar : Row → Cell → Bool
may_bar r lead = r.bar && tie_allows r.tie lead true

-- a field of a group that stands
abbrev pub is_good : ℕ → Row → Cell → Cell → Bool
is_good d r lead (Shown c) = may_show d r lead c
is_good d r lead Barred = may_bar r lead
is_good d r lead LeftOut = false

-- which field leads the next one
abbrev pub next_lead : Tie → Cell → Cell → Cell
next_lead Free lead cell = cell
next_lead Together lead cell = lead
next_lead Under lead cell = lead
next_lead Dry lead cell = lead

-- the fields of a group that stands
unfoldable pub all_good : ℕ → List Row → Cell → List Cell → Bool
all_good d [] lead [] = true
all_good d [] lead (c ∷ cells) = false
all_good d (r ∷ rows) lead [] = false
all_good d (r ∷ rows) lead (c ∷ cells) = is_good d r lead c && all_good d rows (next_lead r.tie lead c) cells

-- a group that tells nothing: all its fields are barred, or all are nought where such a group is left out
abbrev pub tells_nothing : Group → List Cell → Bool
tells_nothing g cells = list_all is_barred cells || (g.noughts && list_all is_nought cells)

-- a group that stands and may: its fields are good and tell something
abbrev pub stands_well : ℕ → Group → List Row → List Cell → Bool
stands_well d g rows cells = all_good d rows LeftOut cells && not (tells_nothing g cells)

-- the groups of a section that stands: each stands well, or is left out where it may be
unfoldable pub groups_lawful : ℕ → List Group → List Row → List Cell → Bool
groups_lawful d [] rows [] = true
groups_lawful d [] rows (c ∷ cells) = false
groups_lawful d (g ∷ groups) rows cells =
    (stands_well d g (take g.count rows) (take g.count cells) || (not g.required && list_all is_left_out (take g.count cells)))
    && groups_lawful d groups (drop g.count rows) (drop g.count cells)

-- the fields of a section that stands, in a month of d days
abbrev pub section_lawful : ℕ → Section → List Cell → Bool
section_lawful d s cells = groups_lawful d (groups_of s) (rows_of s) cells
