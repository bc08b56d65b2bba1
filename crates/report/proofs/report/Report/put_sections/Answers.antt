use Rattle.std.proofs.Common.{◌++◌, ap, ◌∙◌}
use Rattle.text.specs.Drafts.{kept, text_of}
use Rattle.text.proofs.OnDrafts.{kept_then}
use Rattle.layout.specs.declared.section.Section.TheVariants.{First, Second, Third, Fourth}
use Rattle.layout.specs.Texts.{section_text}
use Rattle.report.proofs.OnWritten.{four_parts, four_lengths}
use Rattle.report.proofs.report.Report.put_sections.Goals as goal

pub returns : goal.returns
returns c =
    let r = c.args.self.now in
    let start = text_of c.args.draft.now in
    let one = section_text First r.first in
    let two = section_text Second r.second in
    let three = section_text Third r.third in
    let four = section_text Fourth r.fourth in
    let both = kept_then start one two c.put_section.ensures.text c.put_section-2.ensures.text in
    let most = kept_then start (one ++ two) three both c.put_section-3.ensures.text in
    let all = kept_then start ((one ++ two) ++ three) four most c.put_section-4.ensures.text in
    record {
      text = all ∙ ap (λ z. kept (start ++ z)) (four_parts one two three four);
      room = four_lengths one two three four 73 75 68 58 c.put_section.ensures.room c.put_section-2.ensures.room c.put_section-3.ensures.room c.put_section-4.ensures.room;
    }
