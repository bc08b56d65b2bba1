-- What a draft holds.
use Rattle.std.specs.Prelude.{◌≡◌, ℕ, ◌≤◌, List, [], ◌++◌, length, take}
use Rattle.text.specs.declared.draft.Draft.{Draft}

-- as many bytes as a draft has room for
abbrev pub capacity : ℕ
capacity = 281

-- what a draft holds of bytes that are written into it
unfoldable pub kept : List ℕ → List ℕ
kept bs = take capacity bs

-- the bytes written into a draft
abbrev pub text_of : Draft → List ℕ
text_of d = d.bytes.items

-- what calls one after another write
pub record WritingLaw : Type 0 where
  -- a draft holds no more than it has room for
  pub within : (d : Draft) → length (text_of d) ≤ capacity
  -- what fits is kept whole
  pub whole : (bs : List ℕ) → length bs ≤ capacity → kept bs ≡ bs
  -- whether bytes come at once or one after another, the same are kept
  pub again : (a b : List ℕ) → kept (kept a ++ b) ≡ kept (a ++ b)
  -- two calls write what one call would with both
  pub chained : (text first next behind-first behind-next : List ℕ) → behind-first ≡ kept (text ++ first) → behind-next ≡ kept (behind-first ++ next) → behind-next ≡ kept (text ++ (first ++ next))
  -- from an empty draft on, the text is what was written, where it fits
  pub from_empty : (start written end : List ℕ) → start ≡ [] → end ≡ kept (start ++ written) → length written ≤ capacity → end ≡ written
