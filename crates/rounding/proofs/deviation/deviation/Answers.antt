use Rattle.std.proofs.Common.{◌≡◌, ℕ, ◌-◌, ◌*◌, nat_abs, Option, sym, ap, ap₂, ◌∙◌, subst, arith}
use Rattle.std.proofs.lemmas.Int.{ints}
use Rattle.rounding.specs.Deviations.{scatter, deviation_divisor, Deviates, IsDeviation, Deviated, SumsHold}
use Rattle.rounding.proofs.OnDeviations.{bounds_broken, none_deviates, root_found, some_deviates, deviated_by, sums_grow}
use Rattle.rounding.proofs.deviation.deviation.Goals as goal

pub returns-then-n-lt-LEAST_DAYS : goal.returns-then-n-lt-LEAST_DAYS
returns-then-n-lt-LEAST_DAYS c =
    let n = c.args.count in
    let s = c.args.sum in
    let squares = c.args.squares in
    let size : c.from-size.result ≡ nat_abs s = omega (arith, ints) in
    let broken = bounds_broken n s squares (λ least days sums.
    elim c.then-n-lt-LEAST_DAYS.branch [
      | goal.then-n-lt-LEAST_DAYS-via-then-n-lt-LEAST_DAYS w ↦ omega arith
      | goal.then-n-lt-LEAST_DAYS-via-else-n-lt-LEAST_DAYS+then-n-gt-MOST_DAYS w ↦ omega arith
      | goal.then-n-lt-LEAST_DAYS-via-else-n-lt-LEAST_DAYS+else-n-gt-MOST_DAYS+then-size-n w ↦ omega arith
      | goal.then-n-lt-LEAST_DAYS-via-else-n-lt-LEAST_DAYS+else-n-gt-MOST_DAYS+else-size-n+then-squares-n w ↦ omega arith
    ]) in
    record { value = none_deviates n s squares broken; law = broken; sums = sums_grow }

pub returns-in_err-scatter : goal.returns-in_err-scatter
returns-in_err-scatter c =
    let n = c.args.count in
    let s = c.args.sum in
    let squares = c.args.squares in
    let same : c.from-n.result * squares ≡ n * squares = let e : c.from-n.result ≡ n = omega arith in cc in
    let square : c.from-size.result * c.from-size.result ≡ nat_abs s * nat_abs s = let size : c.from-size.result ≡ nat_abs s = omega (arith, ints) in cc in
    let broken = bounds_broken n s squares (λ least days sums. let enough = sums.squares_enough in let short = c.in_err-scatter.ensures in short (omega arith)) in
    record { value = c.from_residual.ensures ∙ none_deviates n s squares broken; law = subst (λ (z : Option ℕ). Deviated n s squares z) (sym c.from_residual.ensures) broken; sums = sums_grow }

-- the sums have passed the tests
tested : (c : goal.After-nearest_root) → SumsHold c.args.count c.args.sum c.args.squares
tested c =
    let size : c.from-size.result ≡ nat_abs c.args.sum = omega (arith, ints) in
    let same : c.from-n.result * c.args.squares ≡ c.args.count * c.args.squares = let e : c.from-n.result ≡ c.args.count = omega arith in cc in
    let square : c.from-size.result * c.from-size.result ≡ nat_abs c.args.sum * nat_abs c.args.sum = cc in
    let scatter = c.in_ok-scatter.ensures in
    record { sum_within = omega arith; squares_within = omega arith; squares_enough = omega arith }

-- what the root says, in the words of the definition
deviates : (c : goal.After-nearest_root) → IsDeviation c.args.count c.args.sum c.args.squares c.nearest_root.result
unfolding deviation_divisor
deviates c =
    let n = c.args.count in
    let s = c.args.sum in
    let k = c.nearest_root.result in
    let size : c.from-size.result ≡ nat_abs s = omega (arith, ints) in
    let days : c.from-n.result ≡ n = omega arith in
    let rest = c.in_ok-scatter.ensures in
    let same : c.in_ok-scatter.scatter ≡ scatter n s c.args.squares = rest.1 ∙ ap₂ (λ m a. m * c.args.squares - a * a) days size in
    let divisor = ap deviation_divisor days in
    subst (λ (d : ℕ). Deviates d (scatter n s c.args.squares) k) divisor (subst (λ (q : ℕ). Deviates (deviation_divisor c.from-n.result) q k) same c.nearest_root.ensures)

pub overflow_cast-result : goal.overflow_cast-result
overflow_cast-result c =
    let found = root_found c.args.count c.args.sum c.args.squares c.nearest_root.result (omega arith) (tested c) (deviates c) in
    omega arith

pub returns : goal.returns
returns c =
    let n = c.args.count in
    let s = c.args.sum in
    let squares = c.args.squares in
    let value = some_deviates n s squares c.nearest_root.result (omega arith) (omega arith) (tested c) (deviates c) in
    record { value = value; law = deviated_by n s squares _ value; sums = sums_grow }
