use Rattle.std.proofs.Common.{◌≡◌, ◌++◌}
use Rattle.text.specs.Digits.{digits}
use Rattle.text.specs.Drafts.{kept, text_of}
use Rattle.text.proofs.draft.Draft.put_digits.Given as goal

-- with the digits that are left it will be the whole
abbrev pub invariant-loop-place : goal.invariant-loop-place
invariant-loop-place l =
    kept (text_of l.initial.self ++ digits l.width l.number) ≡ kept (text_of l.self ++ digits l.place l.number)
