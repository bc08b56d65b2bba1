use Rattle.text.proofs.OnDigits.{front_more}
use Rattle.text.proofs.symbol.digit_at.Goals as goal

pub loop-preserved : goal.loop-preserved
loop-preserved c = front_more c.args.number c.loop.front c.loop.counter c.loop.invariant
