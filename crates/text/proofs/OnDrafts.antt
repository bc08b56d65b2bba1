-- What a draft holds after one call and after several. Assumes nothing.
use Rattle.std.proofs.Common.{◌≡◌, ℕ, zero, suc, ◌≤◌, List, [], ◌∷◌, ◌++◌, length, take, sym, refl, ap, ◌∙◌, append_assoc, append-nil}
use Rattle.std.proofs.lemmas.List.{take_all}
use Rattle.text.specs.declared.draft.Draft.{Draft}
use Rattle.text.specs.Drafts.{capacity, kept, text_of, WritingLaw}

-- ---- what is kept
take_again : (n : ℕ) (a b : List ℕ) → take n (take n a ++ b) ≡ take n (a ++ b)
take_again zero a b = refl
take_again (suc n) [] b = refl
take_again (suc n) (x ∷ a) b = ap (λ xs. x ∷ xs) (take_again n a b)

-- whether bytes come at once or one after another, the same are kept
pub kept_again : (a b : List ℕ) → kept (kept a ++ b) ≡ kept (a ++ b)
unfolding kept
kept_again a b = take_again capacity a b

-- what fits is kept whole
pub kept_whole : (bs : List ℕ) → length bs ≤ capacity → kept bs ≡ bs
unfolding kept
kept_whole bs fits = take_all capacity bs fits

-- two calls write what one call would with both
pub kept_then : (text first next : List ℕ) {behind-first behind-next : List ℕ} → behind-first ≡ kept (text ++ first) → behind-next ≡ kept (behind-first ++ next) → behind-next ≡ kept (text ++ (first ++ next))
kept_then text first next e e' =
    e' ∙ ap (λ a. kept (a ++ next)) e ∙ kept_again (text ++ first) next ∙ ap kept (append_assoc text first next)

-- from an empty draft on, the text is what was written, where it fits
pub kept_from_empty : (written : List ℕ) {start end : List ℕ} → start ≡ [] → end ≡ kept (start ++ written) → length written ≤ capacity → end ≡ written
kept_from_empty written empty e fits = e ∙ ap (λ a. kept (a ++ written)) empty ∙ kept_whole written fits

-- ---- drafts
pub text_within : (d : Draft) → length (text_of d) ≤ capacity
text_within d = d.within

pub text_kept : (d : Draft) → kept (text_of d) ≡ text_of d
text_kept d = kept_whole (text_of d) (text_within d)

-- nothing is written yet
pub none_written : (d : Draft) → text_of d ≡ kept (text_of d ++ [])
none_written d = sym (ap kept (append-nil (text_of d)) ∙ text_kept d)

pub writing_law : WritingLaw
writing_law = record {
  within = text_within;
  whole = kept_whole;
  again = kept_again;
  chained = λ text first next behind-first behind-next. kept_then text first next;
  from_empty = λ start written end. kept_from_empty written;
}
