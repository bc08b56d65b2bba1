-- The worked examples, computed. Assumes nothing.
use Rattle.std.proofs.Common.{refl}
use Rattle.text.specs.Digits.{digits, value_of, number_of}
use Rattle.text.specs.Examples.{Examples}

pub examples : Examples
unfolding digits value_of number_of
examples = record {
  filled = refl;
  shortened = refl;
  read = refl;
  nothing = refl;
  longest = refl;
  too_long = refl;
  sign = refl;
  barred = refl;
  seen_barred = refl;
  half_barred = refl;
  no_bar = refl;
}
