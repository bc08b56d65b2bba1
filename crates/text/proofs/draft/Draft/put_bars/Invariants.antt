use Rattle.std.proofs.Common.{◌≡◌, ◌++◌}
use Rattle.text.specs.Digits.{bars}
use Rattle.text.specs.Drafts.{kept, text_of}
use Rattle.text.proofs.draft.Draft.put_bars.Given as goal

-- so many bars are written
abbrev pub invariant-loop : goal.invariant-loop
invariant-loop l = text_of l.self ≡ kept (text_of l.initial.self ++ bars l.counter)
