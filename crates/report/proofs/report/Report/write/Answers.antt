use Rattle.std.proofs.Common.{◌++◌, ap, ◌∙◌}
use Rattle.text.specs.Digits.{digits}
use Rattle.text.specs.Drafts.{kept, text_of}
use Rattle.text.proofs.OnDrafts.{kept_then, kept_from_empty}
use Rattle.report.specs.Written.{body, end_mark, written}
use Rattle.report.proofs.OnWritten.{whole_text, whole_length}
use Rattle.report.proofs.report.Report.write.Goals as goal

pub returns : goal.returns
returns c =
    let r = c.args.self.now in
    let start = text_of c.new-draft.result in
    let station = digits 5 r.station in
    let begun = kept_then start station (body r) c.put_digits.ensures c.put_body.ensures.text in
    let all = kept_then start (station ++ body r) end_mark begun c.push_all.ensures ∙ ap (λ z. kept (start ++ z)) (whole_text r) in
    let room = whole_length r c.put_body.ensures.room in
    record { text = kept_from_empty (written r) c.new-draft.ensures.text all room; room = room }
