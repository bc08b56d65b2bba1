use Rattle.std.proofs.Common.{get_or, sym, ◌∙◌, ⊎_elim, arith}
use Rattle.text.proofs.OnDigits.{digit_bounds, digits_undo}
use Rattle.text.proofs.OnExamples.{examples}
use Rattle.text.proofs.OnNumbers.{too_short, too_long, digits_small, digit_tells, digit_lacks, digit_read, digit_missing, all_read}
use Rattle.text.proofs.number.number.Goals as goal

pub returns-then-is_empty : goal.returns-then-is_empty
returns-then-is_empty c = record {
  value = ⊎_elim (λ h. too_short _ (grind arith)) (λ h. too_long _ h.1) c.then-is_empty.either;
  law = digits_undo;
  examples = examples;
}

pub returns-in_err-value : goal.returns-in_err-value
returns-in_err-value c = record {
  value =
      c.from_residual.ensures
      ∙ digit_missing c.args.bytes.now c.loop-byte.byte-index c.loop-byte.value c.loop-byte-test.true c.loop-byte.invariant
      (digit_lacks (get_or c.args.bytes.now c.loop-byte.byte-index 0) (sym (c.in_err-value.was) ∙ c.digit.ensures));
  law = digits_undo;
  examples = examples;
}

pub overflow_mul-value : goal.overflow_mul-value
overflow_mul-value c = let small = digits_small c.loop-byte.value c.loop-byte.byte-index 8 c.loop-byte.invariant.small (omega arith) in omega arith

pub overflow_add-value : goal.overflow_add-value
overflow_add-value c =
    let small = digits_small c.loop-byte.value c.loop-byte.byte-index 8 c.loop-byte.invariant.small (omega arith) in
    let digit = digit_tells (get_or c.args.bytes.now c.loop-byte.byte-index 0) c.in_ok-value.field-0 (sym (c.in_ok-value.was) ∙ c.digit.ensures) in
    let high = (digit_bounds (get_or c.args.bytes.now c.loop-byte.byte-index 0) digit.0).1 in
    omega arith

pub loop-byte-preserved : goal.loop-byte-preserved
loop-byte-preserved c =
    digit_read c.args.bytes.now c.loop-byte.byte-index c.loop-byte.value c.loop-byte-test.true c.loop-byte.invariant c.in_ok-value.field-0
    (sym (c.in_ok-value.was) ∙ c.digit.ensures)

pub returns : goal.returns
returns c = record {
  value = all_read c.args.bytes.now c.loop-byte.byte-index c.loop-byte.value (grind arith) (omega arith) c.loop-byte-test.false c.loop-byte.invariant;
  law = digits_undo;
  examples = examples;
}
