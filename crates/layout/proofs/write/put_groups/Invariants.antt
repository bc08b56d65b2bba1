use Rattle.std.proofs.Common.{◌≡◌, ◌++◌, drop}
use Rattle.text.specs.Drafts.{kept, text_of}
use Rattle.layout.specs.Texts.{groups_text}
use Rattle.layout.proofs.write.put_groups.Given as goal

-- the text so far and the groups from here on give the whole
abbrev pub invariant-loop-group : goal.invariant-loop-group
invariant-loop-group l =
    kept (text_of l.initial.draft ++ groups_text l.groups l.rows l.cells) ≡ kept (text_of l.draft ++ groups_text (drop l.group-index l.groups) l.rows_left l.cells_left)
