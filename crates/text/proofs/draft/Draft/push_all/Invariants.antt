use Rattle.std.proofs.Common.{◌≡◌, ◌++◌, take}
use Rattle.text.specs.Drafts.{kept, text_of}
use Rattle.text.proofs.draft.Draft.push_all.Given as goal

-- the bytes passed are written
abbrev pub invariant-loop-byte : goal.invariant-loop-byte
invariant-loop-byte l = text_of l.self ≡ kept (text_of l.initial.self ++ take l.byte-index l.bytes)
