use Rattle.text.proofs.OnDrafts.{writing_law}
use Rattle.text.proofs.draft.Draft.new.Goals as goal

pub returns-clause-law : goal.returns-clause-law
returns-clause-law c = writing_law
