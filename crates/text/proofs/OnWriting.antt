-- The turns of writing. Assumes nothing.
use Rattle.std.proofs.Common.{◌≡◌, ℕ, zero, suc, ◌+◌, ◌-◌, ◌<◌, ◌≤◌, List, [], ◌∷◌, ◌++◌, length, get_or, take, sym, ap, ap₂, ◌∙◌, append_assoc, arith}
use Rattle.std.proofs.lemmas.List.{length_push, take_all, take-append-le, take_more, replicate_more}
use Rattle.text.specs.Digits.{bar, digit_at, digits, bars}
use Rattle.text.specs.declared.draft.Draft.{Draft}
use Rattle.text.specs.Drafts.{capacity, kept, text_of}
use Rattle.text.proofs.OnDrafts.{kept_again, kept_whole, kept_then, none_written}

-- ---- one byte, where there is room
pub pushed : (text : List ℕ) (byte : ℕ) → length text < capacity → text ++ byte ∷ [] ≡ kept (text ++ byte ∷ [])
pushed text byte room = sym (kept_whole (text ++ byte ∷ []) (rw (length_push text byte) (omega arith)))

-- and where there is none
pub not_pushed : (text : List ℕ) (byte : ℕ) → length text ≡ capacity → text ≡ kept (text ++ byte ∷ [])
unfolding kept
not_pushed text byte full = sym (take-append-le capacity text (byte ∷ []) (omega arith) ∙ take_all capacity text (omega arith))

-- ---- the turns of the loops, on the text at the start and behind it what is written so far
pub bytes_more : (start bs : List ℕ) (i : ℕ) {text next : List ℕ} → i < length bs → text ≡ kept (start ++ take i bs) → next ≡ kept (text ++ get_or bs i 0 ∷ []) → next ≡ kept (start ++ take (i + 1) bs)
bytes_more start bs i within inv push =
    kept_then start (take i bs) (get_or bs i 0 ∷ []) inv push ∙ ap (λ xs. kept (start ++ xs)) (sym (take_more bs i 0 within))

-- a digit is written, and those behind it are left
pub digit_written : (start text next : List ℕ) (w n place byte : ℕ) → 0 < place → byte ≡ digit_at n (place - 1) → next ≡ kept (text ++ byte ∷ []) → kept (start ++ digits w n) ≡ kept (text ++ digits place n) → kept (start ++ digits w n) ≡ kept (next ++ digits (place - 1) n)
unfolding digits
digit_written start text next w n zero byte some digit push left = absurd (omega arith)
digit_written start text next w n (suc place) byte some digit push left =
    let before : suc place - 1 ≡ place = omega arith in
    left ∙ ap kept (sym (append_assoc text (digit_at n place ∷ []) (digits place n)))
    ∙ sym (kept_again (text ++ digit_at n place ∷ []) (digits place n))
    ∙ ap₂ (λ xs k. kept (xs ++ digits k n)) (sym (push ∙ ap (λ b. kept (text ++ b ∷ [])) (digit ∙ ap (digit_at n) before))) (sym before)

-- no digit is left
pub digits_written : (d : Draft) (whole : List ℕ) (n place : ℕ) → place ≤ 0 → kept whole ≡ kept (text_of d ++ digits place n) → text_of d ≡ kept whole
unfolding digits
digits_written d whole n zero none left = none_written d ∙ sym left
digits_written d whole n (suc place) none left = absurd (omega arith)

pub bars_more : (start : List ℕ) (i : ℕ) {text next : List ℕ} → text ≡ kept (start ++ bars i) → next ≡ kept (text ++ bar ∷ []) → next ≡ kept (start ++ bars (i + 1))
bars_more start i inv push =
    kept_then start (bars i) (bar ∷ []) inv push ∙ ap (λ xs. kept (start ++ xs)) (replicate_more i bar)
