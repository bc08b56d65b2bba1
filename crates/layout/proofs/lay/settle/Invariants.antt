use Rattle.std.proofs.Common.{◌≡◌, take}
use Rattle.layout.specs.Laid.{settled}
use Rattle.layout.proofs.lay.settle.Given as goal

-- the cells so far are the fields of the figures so far
abbrev pub invariant-loop-i : goal.invariant-loop-i
invariant-loop-i l = take l.i l.cells ≡ settled l.silent (take l.i l.figures)
