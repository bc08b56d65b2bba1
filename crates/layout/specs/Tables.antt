-- The layout of the four sections: which groups they have, and which fields a group has.
use Rattle.std.specs.Prelude.{ℕ, Bool, true, false, List, [], ◌∷◌, codes}
use Rattle.layout.specs.declared.row.Kind.{Kind}
use Rattle.layout.specs.declared.row.Kind.TheVariants.{Temperature, Pressure, Number, Days, Rain, DayCode}
use Rattle.layout.specs.declared.row.Tie.{Tie}
use Rattle.layout.specs.declared.row.Tie.TheVariants.{Free, Together, Under, Dry}
use Rattle.layout.specs.declared.row.Row.{Row}
use Rattle.layout.specs.declared.row.Group.{Group}
use Rattle.layout.specs.declared.section.Section.{Section}
use Rattle.layout.specs.declared.section.Section.TheVariants.{First, Second, Third, Fourth}

-- a group: its digit, the number of its fields, whether it is never left out, and whether it is left out where all its fields are nought
abbrev pub group : ℕ → ℕ → Bool → Bool → Group
group digit count required noughts = record { digit = digit; count = count; required = required; noughts = noughts }

-- a field: its kind, its width in bytes, its limits, whether it may be barred, and its tie to the fields before it
abbrev pub row : Kind → ℕ → ℕ → ℕ → Bool → Tie → Row
row kind width low high bar tie = record { kind = kind; width = width; low = low; high = high; bar = bar; tie = tie }

-- the groups of the first section
abbrev pub first_groups : List Group
first_groups =
    group 1 1 false false
    ∷ group 2 1 false false
    ∷ group 3 2 false false
    ∷ group 4 2 false false
    ∷ group 5 1 false false
    ∷ group 6 3 false false
    ∷ group 7 2 false false
    ∷ group 8 4 true false
    ∷ group 9 3 true false
    ∷ []

-- the fields of the first section
abbrev pub first_rows : List Row
first_rows =
    row Pressure 4 4000 10999 true Free
    ∷ row Pressure 4 8500 10999 true Free
    ∷ row Temperature 4 900 600 true Free
    ∷ row Number 3 0 999 true Together
    ∷ row Temperature 4 900 600 true Free
    ∷ row Temperature 4 900 600 true Free
    ∷ row Number 3 0 999 true Free
    ∷ row Rain 4 0 9999 true Free
    ∷ row Number 1 0 6 true Under
    ∷ row Days 2 0 31 true Together
    ∷ row Number 3 0 744 true Free
    ∷ row Number 3 0 999 true Under
    ∷ row Days 2 0 31 false Free
    ∷ row Days 2 0 31 false Free
    ∷ row Number 1 0 9 false Free
    ∷ row Number 1 0 9 false Free
    ∷ row Days 2 0 31 false Free
    ∷ row Days 2 0 31 false Free
    ∷ row Days 2 0 31 false Free
    ∷ []

-- the groups of the second section
abbrev pub second_groups : List Group
second_groups =
    group 0 2 true false
    ∷ group 1 1 false false
    ∷ group 2 1 false false
    ∷ group 3 2 false false
    ∷ group 4 2 false false
    ∷ group 5 1 false false
    ∷ group 6 2 false false
    ∷ group 7 1 false false
    ∷ group 8 3 true false
    ∷ group 9 3 true false
    ∷ []

-- the fields of the second section
abbrev pub second_rows : List Row
second_rows =
    row Number 2 0 99 false Free
    ∷ row Number 2 0 99 false Free
    ∷ row Pressure 4 1000 10999 true Free
    ∷ row Pressure 4 1000 10999 true Free
    ∷ row Temperature 4 999 999 true Free
    ∷ row Number 3 0 999 true Free
    ∷ row Temperature 4 999 999 true Free
    ∷ row Temperature 4 999 999 true Free
    ∷ row Number 3 0 999 true Free
    ∷ row Rain 4 0 9999 true Free
    ∷ row Number 2 0 31 true Dry
    ∷ row Number 3 0 744 true Free
    ∷ row Number 2 0 99 false Free
    ∷ row Number 2 0 99 false Free
    ∷ row Number 2 0 99 false Free
    ∷ row Number 2 0 99 false Free
    ∷ row Number 2 0 99 false Free
    ∷ row Number 2 0 99 false Free
    ∷ []

-- the groups of the third section
abbrev pub third_groups : List Group
third_groups =
    group 0 2 false true
    ∷ group 1 2 false true
    ∷ group 2 2 false true
    ∷ group 3 2 false true
    ∷ group 4 2 false true
    ∷ group 5 2 false true
    ∷ group 6 2 false true
    ∷ group 7 2 false true
    ∷ group 8 3 false true
    ∷ group 9 3 false true
    ∷ []

-- the fields of the third section
abbrev pub third_rows : List Row
third_rows =
    row Days 2 0 31 true Free
    ∷ row Days 2 0 31 true Together
    ∷ row Days 2 0 31 true Free
    ∷ row Days 2 0 31 true Together
    ∷ row Days 2 0 31 true Free
    ∷ row Days 2 0 31 true Free
    ∷ row Days 2 0 31 true Free
    ∷ row Days 2 0 31 true Together
    ∷ row Days 2 0 31 true Free
    ∷ row Days 2 0 31 true Together
    ∷ row Days 2 0 31 true Free
    ∷ row Days 2 0 31 true Together
    ∷ row Days 2 0 31 true Free
    ∷ row Days 2 0 31 true Together
    ∷ row Days 2 0 31 true Free
    ∷ row Days 2 0 31 true Together
    ∷ row Days 2 0 31 true Free
    ∷ row Days 2 0 31 true Together
    ∷ row Days 2 0 31 true Together
    ∷ row Days 2 0 31 true Free
    ∷ row Days 2 0 31 true Together
    ∷ row Days 2 0 31 true Together
    ∷ []

-- the groups of the fourth section
abbrev pub fourth_groups : List Group
fourth_groups =
    group 0 2 false false
    ∷ group 1 2 false false
    ∷ group 2 2 false false
    ∷ group 3 2 false false
    ∷ group 4 2 false false
    ∷ group 5 3 false false
    ∷ group 6 2 false false
    ∷ []

-- the fields of the fourth section
abbrev pub fourth_rows : List Row
fourth_rows =
    row Temperature 4 900 600 true Free
    ∷ row DayCode 2 1 80 true Together
    ∷ row Temperature 4 900 600 true Free
    ∷ row DayCode 2 1 80 true Together
    ∷ row Temperature 4 900 600 true Free
    ∷ row DayCode 2 1 80 true Together
    ∷ row Temperature 4 900 600 true Free
    ∷ row DayCode 2 1 80 true Together
    ∷ row Number 4 0 9999 true Free
    ∷ row DayCode 2 1 80 true Together
    ∷ row Number 1 0 1 true Free
    ∷ row Number 3 0 999 true Together
    ∷ row DayCode 2 1 80 true Together
    ∷ row Days 2 0 31 true Free
    ∷ row Days 2 0 31 true Together
    ∷ []

-- the groups of a section
abbrev pub groups_of : Section → List Group
groups_of First = first_groups
groups_of Second = second_groups
groups_of Third = third_groups
groups_of Fourth = fourth_groups

-- the fields of a section
abbrev pub rows_of : Section → List Row
rows_of First = first_rows
rows_of Second = second_rows
rows_of Third = third_rows
rows_of Fourth = fourth_rows

-- the number that begins a section
abbrev pub number_of : Section → List ℕ
number_of First = codes "111"
number_of Second = codes "222"
number_of Third = codes "333"
number_of Fourth = codes "444"
