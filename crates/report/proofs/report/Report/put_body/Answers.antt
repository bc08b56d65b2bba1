use Rattle.std.proofs.Common.{◌≡◌, ℕ, ◌≤◌, true, false, List, ◌++◌, length, ap, ◌∙◌, subst, arith, rules}
use Rattle.text.specs.Drafts.{kept, text_of}
use Rattle.report.specs.Lawful.{is_nil}
use Rattle.report.proofs.OnWritten.{nil_body, full_body}
use Rattle.report.proofs.report.Report.put_body.Goals as goal

pub returns-then-is_nil : goal.returns-then-is_nil
returns-then-is_nil c =
    let nil : is_nil c.args.self.now.first ≡ true = search rules in
    let whole = nil_body c.args.self.now nil in
    record {
      text = c.push_all.ensures ∙ ap (λ z. kept (text_of c.args.draft.now ++ z)) whole;
      room = subst (λ (z : List ℕ). length z ≤ 274) whole (omega arith);
    }

pub returns : goal.returns
returns c =
    let full : is_nil c.args.self.now.first ≡ false = search rules in
    let whole = full_body c.args.self.now full in
    record {
      text = c.put_sections.ensures.text ∙ ap (λ z. kept (text_of c.args.draft.now ++ z)) whole;
      room = subst (λ (z : List ℕ). length z ≤ 274) whole c.put_sections.ensures.room;
    }
