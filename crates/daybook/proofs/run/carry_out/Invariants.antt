use Rattle.std.proofs.Common.{◌≡◌, ◌++◌, take, drop}
use Rattle.daybook.specs.Runs.{standing, carried_out}
use Rattle.daybook.proofs.run.carry_out.Given as goal

-- what is left of the log gives the rest of the run
abbrev pub invariant-loop-logged : goal.invariant-loop-logged
invariant-loop-logged g l =
    let grid = g.B.DaySource.grid in
    let limit = g.B.Daybook.limit in
    (limit l.book ≡ limit l.initial.book)
    × (carried_out (grid l.initial.book) (limit l.initial.book) l.fn.log
    ≡ take l.logged-index l.logged-items ++ carried_out (grid l.book) (limit l.initial.book) (drop l.logged-index l.logged-items))
    × (standing (grid l.initial.book) (limit l.initial.book) l.fn.log ≡ standing (grid l.book) (limit l.initial.book) (drop l.logged-index l.logged-items))
