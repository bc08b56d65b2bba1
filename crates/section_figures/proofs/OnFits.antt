-- Figures that fit the fields of their section. Assumes nothing.
use Rattle.std.proofs.Common.{◌≡◌, ℕ, ◌≤◌, Bool, true, false, cond, ◌&&◌, eqb, ltb, [], ◌∷◌, Some, None, Option, refl, arith}
use Rattle.std.proofs.lemmas.Bool.{and_from, and_right, lt-ltb, le-leb}
use Rattle.station.specs.declared.element.Element.{Element}
use Rattle.station.specs.declared.element.Element.TheVariants.{HighestTemperature, LowestTemperature, Rain, SnowDepth, Wind, Visibility}
use Rattle.daybook.specs.Grid.{Grid}
use Rattle.columns.specs.declared.limit.Comparison.{Comparison}
use Rattle.columns.specs.declared.limit.Comparison.TheVariants.{AtLeast, Above, Under}
use Rattle.columns.specs.Columns.{column}
use Rattle.columns.specs.Counts.{meets, limit, days_when}
use Rattle.columns.proofs.OnColumns.{days_most}
use Rattle.figures.specs.Days.{is_complete, count_shown}
use Rattle.layout.specs.declared.row.Kind.TheVariants.{Days}
use Rattle.layout.specs.declared.row.Tie.{Tie}
use Rattle.layout.specs.declared.row.Tie.TheVariants.{Free, Together}
use Rattle.layout.specs.declared.row.Row.{Row}
use Rattle.layout.specs.declared.section.Section.TheVariants.{Third}
use Rattle.layout.specs.Tables.{group, row, groups_of, rows_of}
use Rattle.layout.specs.Lawful.{all_good}
use Rattle.layout.specs.Laid.{group_fits, figures_fit}
use Rattle.section_figures.specs.Third.{third_figures}

-- a count of days, with its tie to the fields before it
abbrev days_row : Tie → Row
days_row t = row Days 2 0 31 true t

-- a count that is shown, or not
abbrev count_if : Bool → ℕ → Option ℕ
count_if b n = cond b (Some n) None

either : (s : Bool) → cond s true true ≡ true
either true = refl
either false = refl

module _ (d digit x y : ℕ) (short : d ≤ 31) (p : x ≤ d) (q : y ≤ d) where
  x_digits : ltb x 100 ≡ true
  x_digits = lt-ltb x 100 (omega arith)

  y_digits : ltb y 100 ≡ true
  y_digits = lt-ltb y 100 (omega arith)

  -- two counts of one element
  pub pair_fits : (b : Bool) → group_fits d (group digit 2 false true) (days_row Free ∷ days_row Together ∷ []) (count_if b x ∷ count_if b y ∷ []) ≡ true
  unfolding all_good
  pair_fits false = refl
  pair_fits true = rw (x_digits, y_digits, le-leb x d p, le-leb y d q) (either (eqb x 0 && (eqb y 0 && true)))

  -- counts of two elements
  pub two_fit : (a b : Bool) → group_fits d (group digit 2 false true) (days_row Free ∷ days_row Free ∷ []) (count_if a x ∷ count_if b y ∷ []) ≡ true
  unfolding all_good
  two_fit false false = refl
  two_fit false true = rw (y_digits, le-leb y d q)
  two_fit true false = rw (x_digits, le-leb x d p, and_right (eqb x 0) false refl)
  two_fit true true = rw (x_digits, y_digits, le-leb x d p, le-leb y d q) (either (eqb x 0 && (eqb y 0 && true)))

  -- three counts of one element
  pub three_fit : (z : ℕ) → z ≤ d → (b : Bool) →
      group_fits d (group digit 3 false true) (days_row Free ∷ days_row Together ∷ days_row Together ∷ []) (count_if b x ∷ count_if b y ∷ count_if b z ∷ []) ≡ true
  unfolding all_good
  three_fit z r false = refl
  three_fit z r true =
      let z-digits : ltb z 100 ≡ true = lt-ltb z 100 (omega arith) in
      rw (x_digits, y_digits, z-digits, le-leb x d p, le-leb y d q, le-leb z d r) (either (eqb x 0 && (eqb y 0 && (eqb z 0 && true))))

-- one group that fits, and those behind it
next : {a b : Bool} → a ≡ true → b ≡ true → (true && (a && b)) ≡ true
next p q = and_from _ _ p q

module _ (g : Grid) (d : ℕ) where
  n : Element → Comparison → ℕ → ℕ
  n x k b = days_when (meets (limit x k b)) (column g x) d

  m : (x : Element) (k : Comparison) (b : ℕ) → n x k b ≤ d
  unfolding n
  m x k b = days_most (meets (limit x k b)) (column g x) d

  pub third_fits : d ≤ 31 → figures_fit d (groups_of Third) (rows_of Third) (third_figures g d) ≡ true
  unfolding figures_fit count_shown n
  third_fits short =
      (next (pair_fits d 0 (n HighestTemperature AtLeast 250) (n HighestTemperature AtLeast 300) short (m HighestTemperature AtLeast 250) (m HighestTemperature AtLeast 300) (is_complete (column g HighestTemperature) d))
      (next (pair_fits d 1 (n HighestTemperature AtLeast 350) (n HighestTemperature AtLeast 400) short (m HighestTemperature AtLeast 350) (m HighestTemperature AtLeast 400) (is_complete (column g HighestTemperature) d))
      (next (two_fit d 2 (n LowestTemperature Under 0) (n HighestTemperature Under 0) short (m LowestTemperature Under 0) (m HighestTemperature Under 0) (is_complete (column g LowestTemperature) d) (is_complete (column g HighestTemperature) d))
      (next (pair_fits d 3 (n Rain AtLeast 10) (n Rain AtLeast 50) short (m Rain AtLeast 10) (m Rain AtLeast 50) (is_complete (column g Rain) d))
      (next (pair_fits d 4 (n Rain AtLeast 100) (n Rain AtLeast 500) short (m Rain AtLeast 100) (m Rain AtLeast 500) (is_complete (column g Rain) d))
      (next (pair_fits d 5 (n Rain AtLeast 1000) (n Rain AtLeast 1500) short (m Rain AtLeast 1000) (m Rain AtLeast 1500) (is_complete (column g Rain) d))
      (next (pair_fits d 6 (n SnowDepth Above 0) (n SnowDepth Above 1) short (m SnowDepth Above 0) (m SnowDepth Above 1) (is_complete (column g SnowDepth) d))
      (next (pair_fits d 7 (n SnowDepth Above 10) (n SnowDepth Above 50) short (m SnowDepth Above 10) (m SnowDepth Above 50) (is_complete (column g SnowDepth) d))
      (next (three_fit d 8 (n Wind AtLeast 100) (n Wind AtLeast 200) short (m Wind AtLeast 100) (m Wind AtLeast 200) (n Wind AtLeast 300) (m Wind AtLeast 300) (is_complete (column g Wind) d))
      (next (three_fit d 9 (n Visibility Under 5) (n Visibility Under 10) short (m Visibility Under 5) (m Visibility Under 10) (n Visibility Under 100) (m Visibility Under 100) (is_complete (column g Visibility) d))
      refl))))))))))
