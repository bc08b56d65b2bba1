use Rattle.std.proofs.Common.{[], ◌∷◌, ◌++◌, sym, ap, ◌∙◌, ap₂}
use Rattle.std.specs.List.{list_all}
use Rattle.std.proofs.lemmas.Bool.{cond-true, cond-false}
use Rattle.text.specs.Drafts.{kept, text_of}
use Rattle.text.proofs.OnDrafts.{kept_then, none_written}
use Rattle.layout.specs.Tables.{groups_of, rows_of, number_of}
use Rattle.layout.specs.Lawful.{is_left_out}
use Rattle.layout.specs.Texts.{space, groups_text}
use Rattle.layout.proofs.OnRoom.{section_room}
use Rattle.layout.proofs.write.put_section.Goals as goal

pub returns-then-are_left_out : goal.returns-then-are_left_out
returns-then-are_left_out c =
    let text = text_of c.args.draft.now in
    record {
      text = none_written c.args.draft.now ∙ ap (λ z. kept (text ++ z)) (sym (cond-true (list_all is_left_out c.args.cells.now) [] _ (sym c.if-are_left_out.ensures)));
      room = section_room c.args.section c.args.cells.now;
    }

pub returns : goal.returns
returns c =
    let text = text_of c.args.draft.now in
    let cells = c.args.cells.now in
    let number = number_of c.args.section in
    let groups = groups_text (groups_of c.args.section) (rows_of c.args.section) cells in
    let put = c.push_all.ensures ∙ ap (λ z. kept (text_of c.push.new.self ++ z)) c.number.ensures in
    let begun = kept_then text (space ∷ []) number c.push.ensures put in
    let rest = c.put_groups.ensures ∙ ap₂ (λ g r. kept (text_of c.push_all.new.self ++ groups_text g r cells)) c.groups.ensures c.rows.ensures in
    record {
      text = kept_then text (space ∷ number) groups begun rest ∙ ap (λ z. kept (text ++ z)) (sym (cond-false (list_all is_left_out cells) [] (space ∷ (number ++ groups)) (sym c.if-are_left_out.ensures)));
      room = section_room c.args.section cells;
    }
