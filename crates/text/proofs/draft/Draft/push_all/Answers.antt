use Rattle.text.specs.Drafts.{text_of}
use Rattle.text.proofs.OnDrafts.{none_written}
use Rattle.text.proofs.OnWriting.{bytes_more}
use Rattle.text.proofs.draft.Draft.push_all.Goals as goal

pub loop-byte-init : goal.loop-byte-init
loop-byte-init c = none_written c.args.self.now

pub loop-byte-preserved : goal.loop-byte-preserved
loop-byte-preserved c =
    bytes_more (text_of c.args.self.now) c.args.bytes.now c.loop-byte.byte-index c.loop-byte-test.true c.loop-byte.invariant c.push.ensures
