-- A run of calls on a daybook: each answer, the grid at the end, and what holds of every run.
use Rattle.std.specs.Prelude.{◌≡◌, ℕ, ◌≤◌, Bool, true, false, not, ◌&&◌, List, [], ◌∷◌, ◌++◌, ℤ, is_ok, Some, None, Ok, Option}
use Rattle.station.specs.Numbers.{same}
use Rattle.station.specs.Refusals.{unless}
use Rattle.daybook.specs.declared.call.Call.{Call}
use Rattle.daybook.specs.declared.call.Call.TheVariants.{Enter, Strike, LookUp}
use Rattle.daybook.specs.declared.call.Answer.{Answer}
use Rattle.daybook.specs.declared.call.Answer.TheVariants.{Changed, Found}
use Rattle.daybook.specs.declared.call.Logged.{Logged}
use Rattle.daybook.specs.Grid.{Grid, filled}
use Rattle.daybook.specs.Calls.{enter_refusal, strike_refusal, looked_up, entered, struck}

-- what a call answers
abbrev pub answer_to : Grid → ℕ → Call → Answer
answer_to g ceiling (Enter d e v) = Changed (unless (enter_refusal g ceiling d e v) tt)
answer_to g ceiling (Strike d e) = Changed (unless (strike_refusal g d e) tt)
answer_to g ceiling (LookUp d e) = Found (looked_up g d e)

-- the grid that a call leaves
abbrev pub after : Grid → ℕ → Call → Grid
after g ceiling (Enter d e v) = entered g ceiling d e v
after g ceiling (Strike d e) = struck g d e
after g ceiling (LookUp d e) = g

-- the grid that the calls of a log leave, one after the other
unfoldable pub standing : Grid → ℕ → List Logged → Grid
standing g ceiling [] = g
standing g ceiling (l ∷ rest) = standing (after g ceiling l.call) ceiling rest

-- a call with its answer
abbrev pub answered : Grid → ℕ → Logged → Logged
answered g ceiling l = record { call = l.call; answer = Some (answer_to g ceiling l.call) }

-- the log with each call's answer
unfoldable pub carried_out : Grid → ℕ → List Logged → List Logged
carried_out g ceiling [] = []
carried_out g ceiling (l ∷ rest) = answered g ceiling l ∷ carried_out (after g ceiling l.call) ceiling rest

-- ---- what a log shows

-- an entry or a strike of the pair of d and e
abbrev pub names : ℤ → ℤ → Call → Bool
names d e (Enter d' e' v) = same d d' && same e e'
names d e (Strike d' e') = same d d' && same e e'
names d e (LookUp d' e') = false

-- what an entry or a strike leaves at its pair
abbrev pub left_by : Call → Option ℤ
left_by (Enter d e v) = Some v
left_by (Strike d e) = None
left_by (LookUp d e) = None

-- an answer that is no refusal
abbrev pub is_accepted : Option Answer → Bool
is_accepted None = false
is_accepted (Some (Changed r)) = is_ok r
is_accepted (Some (Found r)) = is_ok r

-- an entry or a strike of the pair that was not declined
abbrev pub changes : ℤ → ℤ → Logged → Bool
changes d e l = names d e l.call && is_accepted l.answer

-- no call of the log changes the pair
unfoldable pub untouched : ℤ → ℤ → List Logged → Bool
untouched d e [] = true
untouched d e (l ∷ rest) = not (changes d e l) && untouched d e rest

-- What holds of every run of calls from the grid g to the grid g', by its log.
pub record RunsBy (g : Grid) (ceiling : ℕ) (log : List Logged) (g' : Grid) : Type 0 where
  -- what was entered last, and not struck since, is looked up; what was struck last, and not entered since, is empty
  pub last_change : (before later : List Logged) (l : Logged) (d e : ℤ) → log ≡ before ++ (l ∷ later) →
      changes d e l ≡ true → untouched d e later ≡ true → looked_up g' d e ≡ Ok (left_by l.call)
  -- a pair that no call changes keeps its value
  pub no_change : (d e : ℤ) → untouched d e log ≡ true → g' d e ≡ g d e
  -- the number of filled pairs never passes the ceiling once it is within it
  pub ceiling_kept : filled g ≤ ceiling → filled g' ≤ ceiling
