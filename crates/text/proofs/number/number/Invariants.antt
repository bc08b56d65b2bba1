use Rattle.text.proofs.OnNumbers.{Read}
use Rattle.text.proofs.number.number.Given as goal

-- the bytes passed are digits, with this value
abbrev pub invariant-loop-byte : goal.invariant-loop-byte
invariant-loop-byte l = Read l.bytes l.byte-index l.value
