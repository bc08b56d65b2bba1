use Rattle.std.proofs.Common.{◌≡◌, ◌/◌, ◌^◌}
use Rattle.text.proofs.symbol.digit_at.Given as goal

-- the digits behind are gone
abbrev pub invariant-loop : goal.invariant-loop
invariant-loop l = l.front ≡ l.number / 10 ^ l.counter
