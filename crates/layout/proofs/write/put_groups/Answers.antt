use Rattle.std.proofs.Common.{◌+◌, false, ◌++◌, get_or, take, drop, sym, ap, ◌∙◌, ap₂}
use Rattle.text.specs.Drafts.{kept, text_of}
use Rattle.layout.specs.declared.row.Group.{Group}
use Rattle.layout.specs.Texts.{group_text, groups_text}
use Rattle.layout.proofs.OnTexts.{part_written, all_written, groups_at, groups_over}
use Rattle.layout.proofs.write.put_groups.Goals as goal

pub loop-group-preserved : goal.loop-group-preserved
loop-group-preserved c =
    let groups = c.args.groups.now in
    let i = c.loop-group.group-index in
    let rows = c.loop-group.rows_left.now in
    let cells = c.loop-group.cells_left.now in
    let text = text_of c.loop-group.draft in
    let none : Group = record { digit = 0; count = 0; required = false; noughts = false } in
    let g : Group = get_or groups i none in
    let next = c.loop-group.invariant ∙ ap (λ z. kept (text ++ z)) (groups_at groups rows cells i none c.loop-group-test.true) in
    let put = c.put_group.ensures ∙ ap₂ (λ a b. kept (text ++ group_text g a b)) c.split.ensures.front c.split-in-loop-group.ensures.front in
    part_written _ text (group_text g (take g.count rows) (take g.count cells)) (groups_text (drop (i + 1) groups) (drop g.count rows) (drop g.count cells)) _ next put
    ∙ ap₂ (λ a b. kept (text_of c.put_group.new.draft ++ groups_text (drop (i + 1) groups) a b)) (sym c.split.ensures.behind) (sym c.split-in-loop-group.ensures.behind)

pub returns : goal.returns
returns c = all_written _ c.loop-group.draft _ c.loop-group.invariant (groups_over c.args.groups.now _ _ c.loop-group.group-index c.loop-group-test.false)
