use Rattle.std.proofs.Common.{◌++◌}
use Rattle.text.specs.Digits.{digits}
use Rattle.text.specs.Drafts.{text_of}
use Rattle.text.proofs.OnWriting.{digit_written, digits_written}
use Rattle.text.proofs.draft.Draft.put_digits.Goals as goal

pub loop-place-preserved : goal.loop-place-preserved
loop-place-preserved c =
    digit_written (text_of c.args.self.now) (text_of c.loop-place.self) (text_of c.push.new.self) c.args.width c.args.number c.loop-place.place c.digit_at.result c.loop-place-test.true c.digit_at.ensures c.push.ensures c.loop-place.invariant

pub returns : goal.returns
returns c =
    digits_written c.loop-place.self (text_of c.args.self.now ++ digits c.args.width c.args.number) c.args.number c.loop-place.place c.loop-place-test.false c.loop-place.invariant
