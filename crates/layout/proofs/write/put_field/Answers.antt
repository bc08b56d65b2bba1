use Rattle.std.proofs.Common.{◌++◌, sym, ap, ◌∙◌}
use Rattle.text.specs.Drafts.{kept, text_of}
use Rattle.text.proofs.OnDrafts.{none_written}
use Rattle.layout.specs.Texts.{field_text}
use Rattle.layout.proofs.write.put_field.Goals as goal

pub returns-in-LeftOut : goal.returns-in-LeftOut
returns-in-LeftOut c = none_written c.args.draft.now ∙ ap (λ cell. kept (text_of c.args.draft.now ++ field_text c.args.row cell)) (sym c.in-LeftOut.is)
