use Rattle.std.proofs.Common.{rules}
use Rattle.text.proofs.OnWriting.{pushed, not_pushed}
use Rattle.text.proofs.draft.Draft.push.Goals as goal

pub returns : goal.returns
returns c = search (rules, pushed, not_pushed)
