-- What each call on a day source or a daybook answers, and the grid that it leaves.
use Rattle.std.specs.Prelude.{ℕ, cond, not, ◌&&◌, ℤ, is_some, Some, None, Option, Result, nat_le}
use Rattle.station.specs.declared.refusal.Refusal.{Refusal}
use Rattle.station.specs.declared.refusal.Refusal.TheVariants.{Day, Element, Value, Full, Empty}
use Rattle.station.specs.Refusals.{requiring, or_else, unless, altered}
use Rattle.station.specs.Elements.{is_element, in_range}
use Rattle.daybook.specs.Grid.{Grid, is_day, with_pair, filled}

-- a day outside 1 to 31
abbrev pub day_refusal : ℤ → Option Refusal
day_refusal d = requiring (is_day d) Day

-- a number that no element bears
abbrev pub element_refusal : ℤ → Option Refusal
element_refusal e = requiring (is_element e) Element

-- the day is checked first, then the element
unfoldable pub pair_refusal : ℤ → ℤ → Option Refusal
pair_refusal d e = or_else (day_refusal d) (element_refusal e)

-- a value outside its element's range
abbrev pub value_refusal : ℤ → ℤ → Option Refusal
value_refusal e v = requiring (in_range e v) Value

-- an empty pair is not filled where the ceiling's number of pairs is filled
abbrev pub full_refusal : Grid → ℕ → ℤ → ℤ → Option Refusal
full_refusal g ceiling d e = cond (not (is_some (g d e)) && nat_le ceiling (filled g)) (Some Full) None

-- entering checks the pair, the value and then the ceiling
unfoldable pub enter_refusal : Grid → ℕ → ℤ → ℤ → ℤ → Option Refusal
enter_refusal g ceiling d e v = or_else (pair_refusal d e) (or_else (value_refusal e v) (full_refusal g ceiling d e))

-- striking checks the pair, and then that something stands there
unfoldable pub strike_refusal : Grid → ℤ → ℤ → Option Refusal
strike_refusal g d e = or_else (pair_refusal d e) (requiring (is_some (g d e)) Empty)

-- what looking a pair up answers
unfoldable pub looked_up : Grid → ℤ → ℤ → Result (Option ℤ) Refusal
looked_up g d e = unless (pair_refusal d e) (g d e)

-- the grid after entering v: that pair alone is set, and where the call declines none
unfoldable pub entered : Grid → ℕ → ℤ → ℤ → ℤ → Grid
entered g ceiling d e v = altered (enter_refusal g ceiling d e v) g (with_pair g d e (Some v))

-- the grid after striking: that pair alone is emptied, and where the call declines none
unfoldable pub struck : Grid → ℤ → ℤ → Grid
struck g d e = altered (strike_refusal g d e) g (with_pair g d e None)
