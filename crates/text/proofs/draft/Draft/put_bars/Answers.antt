use Rattle.text.specs.Drafts.{text_of}
use Rattle.text.proofs.OnDrafts.{none_written}
use Rattle.text.proofs.OnWriting.{bars_more}
use Rattle.text.proofs.draft.Draft.put_bars.Goals as goal

pub loop-init : goal.loop-init
loop-init c = none_written c.args.self.now

pub loop-preserved : goal.loop-preserved
loop-preserved c = bars_more (text_of c.args.self.now) c.loop.counter c.loop.invariant c.push.ensures
