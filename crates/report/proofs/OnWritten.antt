-- The parts of a report's text. Assumes nothing.
use Rattle.std.proofs.Common.{◌≡◌, ℕ, ◌+◌, ◌≤◌, true, false, List, ◌++◌, length, codes, sym, append_assoc, arith, length-append}
use Rattle.std.proofs.lemmas.Bool.{cond-true, cond-false}
use Rattle.text.specs.Digits.{digits}
use Rattle.text.proofs.OnDigits.{length_digits}
use Rattle.report.specs.declared.report.Report.{Report}
use Rattle.report.specs.Lawful.{is_nil}
use Rattle.report.specs.Written.{sections_text, body, end_mark, written}

pub four_parts : (a b c d : List ℕ) → ((a ++ b) ++ c) ++ d ≡ a ++ (b ++ (c ++ d))
four_parts a b c d = simp append_assoc

pub four_lengths : (a b c d : List ℕ) (k l m n : ℕ) → length a ≤ k → length b ≤ l → length c ≤ m → length d ≤ n → length (a ++ (b ++ (c ++ d))) ≤ k + (l + (m + n))
four_lengths a b c d k l m n p q r s = omega (arith, length-append a (b ++ (c ++ d)), length-append b (c ++ d), length-append c d)

pub nil_body : (r : Report) → is_nil r.first ≡ true → codes " NIL" ≡ body r
unfolding body
nil_body r h = sym (cond-true (is_nil r.first) (codes " NIL") (sections_text r) h)

pub full_body : (r : Report) → is_nil r.first ≡ false → sections_text r ≡ body r
unfolding body
full_body r h = sym (cond-false (is_nil r.first) (codes " NIL") (sections_text r) h)

pub whole_text : (r : Report) → (digits 5 r.station ++ body r) ++ end_mark ≡ written r
unfolding written
whole_text r = append_assoc (digits 5 r.station) (body r) end_mark

pub whole_length : (r : Report) → length (body r) ≤ 274 → length (written r) ≤ 281
unfolding written
whole_length r h = omega (arith, length-append (digits 5 r.station) (body r ++ end_mark), length-append (body r) end_mark, length_digits 5 r.station)
