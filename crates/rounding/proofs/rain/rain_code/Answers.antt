use Rattle.std.proofs.Common.{◌≡◌, true, false, ◌∙◌, ap₂, arith}
use Rattle.rounding.specs.Halves.{half_up}
use Rattle.rounding.specs.Rain.{is_below_one_millimetre}
use Rattle.rounding.proofs.OnRain.{little_code, much_code, whole_code, coded_by}
use Rattle.rounding.proofs.rain.rain_code.Goals as goal

pub returns-then-is_below_one_millimetre : goal.returns-then-is_below_one_millimetre
returns-then-is_below_one_millimetre c =
    let tenths = c.args.tenths in
    let little : is_below_one_millimetre tenths ≡ true = cc in
    let value = little_code tenths little in
    record { value = value; law = coded_by tenths _ value }

pub returns-then-tenths-ge-FIRST_OF_MOST : goal.returns-then-tenths-ge-FIRST_OF_MOST
returns-then-tenths-ge-FIRST_OF_MOST c =
    let tenths = c.args.tenths in
    let enough : is_below_one_millimetre tenths ≡ false = cc in
    let value = much_code tenths enough (omega arith) in
    record { value = value; law = coded_by tenths _ value }

pub returns : goal.returns
returns c =
    let tenths = c.args.tenths in
    let enough : is_below_one_millimetre tenths ≡ false = cc in
    let value = c.half_up.ensures ∙ ap₂ half_up c.from.ensures c.from-2.ensures ∙ whole_code tenths enough (omega arith) in
    record { value = value; law = coded_by tenths c.half_up.result value }
