use Rattle.std.proofs.Common.{◌++◌, ap, ◌∙◌}
use Rattle.std.proofs.lemmas.Slice.Zip.{either_empty_from_Zip}
use Rattle.std.specs.Iterator.Adapters.{zip_first, zip_second}
use Rattle.std.specs.Slice.Iter.{iter_rest}
use Rattle.text.specs.Drafts.{kept, text_of}
use Rattle.layout.specs.Texts.{field_text, fields_text}
use Rattle.layout.proofs.OnTexts.{part_written, all_written, field_next, no_field}
use Rattle.layout.proofs.write.put_fields.Goals as goal

pub loop-row-preserved : goal.loop-row-preserved
loop-row-preserved c =
    let text = text_of c.loop-row.draft in
    let left = c.in-Some.ensures in
    let next = c.loop-row.invariant ∙ ap (λ z. kept (text ++ z)) (field_next c.in-Some.row.now c.in-Some.cell.now left.steps.0 left.steps.1) in
    part_written _ text (field_text c.in-Some.row.now c.in-Some.cell.now) (fields_text (iter_rest (zip_first c.next.new.self)) (iter_rest (zip_second c.next.new.self))) _ next c.put_field.ensures

pub returns : goal.returns
returns c =
    all_written _ c.loop-row.draft _ c.loop-row.invariant
    (no_field (iter_rest (zip_first c.loop-row.row-iterator)) (iter_rest (zip_second c.loop-row.row-iterator)) (either_empty_from_Zip c.loop-row.row-iterator c.next.new.self c.next.result c.in-None.is c.next.ensures.steps))
