-- The figures of the third section: days against limits.
use Rattle.std.specs.Prelude.{ℕ, List, map, Option}
use Rattle.daybook.specs.Grid.{Grid}
use Rattle.columns.specs.declared.limit.Limit.{Limit}
use Rattle.columns.specs.Columns.{column}
use Rattle.columns.specs.Counts.{meets, limits}
use Rattle.figures.specs.Days.{count_shown}

-- the days that meet a limit, in a month of d days
abbrev pub days_at : Grid → ℕ → Limit → Option ℕ
days_at g d l = count_shown (meets l) (column g l.element) d

-- those of each limit of a report
abbrev pub third_figures : Grid → ℕ → List (Option ℕ)
third_figures g d = map (days_at g d) limits
