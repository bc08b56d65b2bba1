use Rattle.std.proofs.Common.{◌≡◌, ◌++◌}
use Rattle.std.specs.Iterator.Adapters.{zip_first, zip_second}
use Rattle.std.specs.Slice.Iter.{iter_rest}
use Rattle.text.specs.Drafts.{kept, text_of}
use Rattle.layout.specs.Texts.{fields_text}
use Rattle.layout.proofs.write.put_fields.Given as goal

-- the text so far and the fields that are left give the whole
abbrev pub invariant-loop-row : goal.invariant-loop-row
invariant-loop-row l =
    kept (text_of l.initial.draft ++ fields_text l.rows l.cells)
    ≡ kept (text_of l.draft ++ fields_text (iter_rest (zip_first l.row-iterator)) (iter_rest (zip_second l.row-iterator)))
