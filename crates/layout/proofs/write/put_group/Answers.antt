use Rattle.std.proofs.Common.{[], ◌∷◌, ◌++◌, sym, ap, ◌∙◌}
use Rattle.std.specs.List.{list_all}
use Rattle.std.proofs.lemmas.Bool.{cond-true, cond-false}
use Rattle.text.specs.Digits.{digits}
use Rattle.text.specs.Drafts.{kept, text_of}
use Rattle.text.proofs.OnDrafts.{kept_then, none_written}
use Rattle.layout.specs.Lawful.{is_left_out}
use Rattle.layout.specs.Texts.{space, fields_text}
use Rattle.layout.proofs.write.put_group.Goals as goal

pub returns-then-are_left_out : goal.returns-then-are_left_out
returns-then-are_left_out c =
    let text = text_of c.args.draft.now in
    none_written c.args.draft.now ∙ ap (λ z. kept (text ++ z)) (sym (cond-true (list_all is_left_out c.args.cells.now) [] _ (sym c.if-are_left_out.ensures)))

pub returns : goal.returns
returns c =
    let text = text_of c.args.draft.now in
    let digit = digits 1 c.args.group.digit in
    let fields = fields_text c.args.rows.now c.args.cells.now in
    let put = c.put_digits.ensures ∙ ap (λ n. kept (text_of c.push.new.self ++ digits 1 n)) c.from.ensures in
    let begun = kept_then text (space ∷ []) digit c.push.ensures put in
    kept_then text (space ∷ digit) fields begun c.put_fields.ensures
    ∙ ap (λ z. kept (text ++ z)) (sym (cond-false (list_all is_left_out c.args.cells.now) [] (space ∷ (digit ++ fields)) (sym c.if-are_left_out.ensures)))
