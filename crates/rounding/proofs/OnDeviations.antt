-- The deviation is the number nearest to the root, and has three digits. Assumes nothing.
use Rattle.std.proofs.Common.{◌≡◌, ℕ, zero, suc, ◌+◌, ◌-◌, ◌*◌, ◌/◌, ◌<◌, ◌≤◌, min, true, false, leb, ℤ, ◌+ℤ◌, nat_abs, Some, None, Option, sym, ap, ◌∙◌, subst, ⊎_elim, div-mul-le_self, arith}
use native.Mathlib.Nat.{lt-div-mul-add, le_of_mul-le-mul_left}
use Rattle.std.proofs.lemmas.Int.{ints}
use Rattle.std.proofs.lemmas.Nat.{mul-le}
use Rattle.std.proofs.lemmas.Bool.{cases_lt, cases_Bool, cond-true, cond-false, le-leb, lt-leb}
use Rattle.std.proofs.lemmas.Bool.Decides.{nat_tests}
use Rattle.rounding.specs.Deviations.{least_days, most_days, farthest, most_deviation, scatter, deviation_divisor, Deviates, halves_passed, nearest_root, keeps_bounds, deviation_of, IsDeviation, DeviationLaw, Deviated, SumsHold, SumsGrow}

-- squares times the divisor grow
scaled : (divisor a b : ℕ) → a ≤ b → a * a * divisor ≤ b * b * divisor
scaled divisor a b h = mul-le (a * a) divisor (b * b) divisor (mul-le a a b b h h) (omega arith)

apart : (divisor q k l : ℕ) → k < l → Deviates divisor q k → Deviates divisor q l → ⊥
apart divisor q k l h d e =
    let m = scaled divisor (2 * k + 1) (2 * l - 1) (omega arith) in
    let low = e.low (omega arith) in
    let high = d.high in
    omega arith

pub deviates_only : (divisor q k l : ℕ) → Deviates divisor q k → Deviates divisor q l → k ≡ l
deviates_only divisor q k l d e =
    ⊎_elim (λ h. absurd (apart divisor q k l h d e))
    (λ h. ⊎_elim (λ h'. absurd (apart divisor q l k h' e d)) (λ h'. omega arith) (cases_lt l k)) (cases_lt k l)

-- half of the root of 4 q / divisor, rounded up at one half
pub root_deviates : (divisor q t : ℕ) → 0 < divisor → t * t ≤ 4 * q / divisor → 4 * q / divisor < (t + 1) * (t + 1) → Deviates divisor q ((t + 1) / 2)
root_deviates divisor q t positive low high =
    let k = (t + 1) / 2 in
    let down = div-mul-le_self (4 * q) divisor in
    let over = lt-div-mul-add {a = 4 * q} positive in
    record {
      low = λ p.
          let a = scaled divisor (2 * k - 1) t (omega arith) in
          let b = mul-le (t * t) divisor (4 * q / divisor) divisor low (omega arith) in
          omega arith;
      high =
          let a = scaled divisor (t + 1) (2 * k + 1) (omega arith) in
          let b : (4 * q / divisor + 1) * divisor ≤ (t + 1) * (t + 1) * divisor = mul-le (4 * q / divisor + 1) divisor ((t + 1) * (t + 1)) divisor (omega arith) (omega arith) in
          omega arith;
    }

-- below b + 1/2 there is a nearest number, at most b
nearest_below : (divisor q b : ℕ) → 4 * q < (2 * b + 1) * (2 * b + 1) * divisor → (k : ℕ) × Deviates divisor q k × (k ≤ b)
nearest_below divisor q zero h = (0, record { low = λ p. absurd (omega arith); high = h }, omega arith)
nearest_below divisor q (suc b) h =
    ⊎_elim
    (λ below. let r = nearest_below divisor q b below in (r.0, r.1, omega arith))
    (λ above.
    let half : 2 * suc b - 1 ≡ 2 * b + 1 = omega arith in
    (suc b, record { low = λ p. subst (λ (x : ℕ). x * x * divisor ≤ 4 * q) (sym half) above; high = h }, omega arith))
    (cases_lt (4 * q) ((2 * b + 1) * (2 * b + 1) * divisor))

-- of the first b halves the root passes as many as the nearest number counts
passed_min : (divisor q k b : ℕ) → Deviates divisor q k → halves_passed divisor q b ≡ min b k
unfolding halves_passed
passed_min divisor q k zero d = omega arith
passed_min divisor q k (suc b) d =
    let before = passed_min divisor q k b d in
    let high = d.high in
    let half = (2 * b + 1) * (2 * b + 1) * divisor in
    ⊎_elim
    (λ lt.
    let m = scaled divisor (2 * b + 1) (2 * k - 1) (omega arith) in
    let low = d.low (omega arith) in
    let one = cond-true {A = ℕ} (leb half (4 * q)) 1 0 (le-leb _ _ (omega arith)) in
    omega arith)
    (λ ge.
    let m = scaled divisor (2 * k + 1) (2 * b + 1) (omega arith) in
    let none = cond-false {A = ℕ} (leb half (4 * q)) 1 0 (lt-leb _ _ (omega arith)) in
    omega arith)
    (cases_lt b k)

-- a root below the most that a deviation can be has a nearest number: the one that is counted
counted : (divisor q : ℕ) → 4 * q < (2 * most_deviation + 1) * (2 * most_deviation + 1) * divisor → Deviates divisor q (nearest_root divisor q) × (nearest_root divisor q ≤ most_deviation)
unfolding nearest_root
counted divisor q h =
    let r = nearest_below divisor q most_deviation h in
    let same : nearest_root divisor q ≡ r.0 = passed_min divisor q r.0 most_deviation r.1 ∙ omega arith in
    (subst (λ (k : ℕ). Deviates divisor q k) (sym same) r.1, omega arith)

-- twice a product is at most the sum of the squares
product_ordered : (x d : ℕ) → 2 * (x * (x + d)) ≤ x * x + (x + d) * (x + d)
product_ordered x d = omega arith

product_le : (x y : ℕ) → x ≤ y → 2 * (x * y) ≤ x * x + y * y
product_le x y h =
    let e : x + (y - x) ≡ y = omega arith in
    subst (λ (z : ℕ). 2 * (x * z) ≤ x * x + z * z) e (product_ordered x (y - x))

twice_product : (x y : ℕ) → 2 * (x * y) ≤ x * x + y * y
twice_product x y =
    ⊎_elim (λ h. product_le x y (omega arith)) (λ h. let r = product_le y x h in omega arith) (cases_lt x y)

-- one value more keeps the square of a sum at most the number times the squares
pub enough_more : (n sum squares a : ℕ) → sum * sum ≤ n * squares → (sum + a) * (sum + a) ≤ (n + 1) * (squares + a * a)
enough_more zero zero squares a h = omega arith
enough_more zero (suc sum) squares a h = absurd (omega arith)
enough_more (suc n) sum squares a h =
    let g = twice_product (suc n * a) sum in
    let c : 2 * (sum * a) ≤ suc n * (a * a) + squares = le_of_mul-le-mul_left {k = suc n} (omega arith) (omega arith) in
    omega arith

pub one_more : (n : ℕ) (s : ℤ) (squares : ℕ) (v : ℤ) → nat_abs v ≤ farthest → SumsHold n s squares → SumsHold (n + 1) (s +ℤ v) (squares + nat_abs v * nat_abs v)
one_more n s squares v h sums =
    let together : nat_abs (s +ℤ v) ≤ nat_abs s + nat_abs v = omega (arith, ints) in
    let larger = mul-le (nat_abs (s +ℤ v)) (nat_abs (s +ℤ v)) (nat_abs s + nat_abs v) (nat_abs s + nat_abs v) together together in
    let enough = enough_more n (nat_abs s) squares (nat_abs v) sums.squares_enough in
    let square = mul-le (nat_abs v) (nat_abs v) farthest farthest h h in
    record {
      sum_within = omega arith;
      squares_within = omega arith;
      squares_enough = omega arith;
    }

pub bounds_kept : (n : ℕ) (s : ℤ) (squares : ℕ) → least_days ≤ n → n ≤ most_days → SumsHold n s squares → keeps_bounds n s squares ≡ true
bounds_kept n s squares h most sums = grind (arith, nat_tests)

pub sums_grow : SumsGrow
sums_grow = record {
  none_yet = record { sum_within = omega arith; squares_within = omega arith; squares_enough = omega arith };
  one_more = one_more;
  kept = bounds_kept;
}

-- what the test tells
kept_facts : (n : ℕ) (s : ℤ) (squares : ℕ) → keeps_bounds n s squares ≡ true → (least_days ≤ n) × (n ≤ most_days) × SumsHold n s squares
kept_facts n s squares e =
    let least : least_days ≤ n = grind (arith, nat_tests) in
    let days : n ≤ most_days = grind (arith, nat_tests) in
    let sum : nat_abs s ≤ farthest * n = grind (arith, nat_tests) in
    let most : squares ≤ farthest * farthest * n = grind (arith, nat_tests) in
    let enough : nat_abs s * nat_abs s ≤ n * squares = grind (arith, nat_tests) in
    (least, days, record { sum_within = sum; squares_within = most; squares_enough = enough })

pub divisor_positive : (n : ℕ) → least_days ≤ n → 0 < deviation_divisor n
unfolding deviation_divisor
divisor_positive n h = let m = mul-le 1 1 n n h h in omega arith

-- the root of such a scatter is below the most that a deviation can be, and half a tenth
scatter_below : (n : ℕ) (s : ℤ) (squares : ℕ) → least_days ≤ n → SumsHold n s squares → 4 * scatter n s squares < (2 * most_deviation + 1) * (2 * most_deviation + 1) * deviation_divisor n
unfolding deviation_divisor
scatter_below n s squares h sums =
    let m = mul-le n squares n (farthest * farthest * n) (omega arith) sums.squares_within in
    let one = mul-le 1 1 n n h h in
    omega arith

pub deviation_law : (n : ℕ) (s : ℤ) (squares : ℕ) → least_days ≤ n → SumsHold n s squares → DeviationLaw n s squares (nearest_root (deviation_divisor n) (scatter n s squares))
deviation_law n s squares h sums =
    let divisor = deviation_divisor n in
    let q = scatter n s squares in
    let found = counted divisor q (scatter_below n s squares h sums) in
    record {
      stands = found.0;
      only = λ other d. deviates_only divisor q other (nearest_root divisor q) d found.0;
      most = found.1;
    }

deviated : (n : ℕ) (s : ℤ) (squares : ℕ) → Deviated n s squares (deviation_of n s squares)
unfolding deviation_of
deviated n s squares =
    ⊎_elim
    (λ holds.
    let facts = kept_facts n s squares holds in
    let e = cond-true (keeps_bounds n s squares) (Some (nearest_root (deviation_divisor n) (scatter n s squares))) None holds in
    subst (λ (r : Option ℕ). Deviated n s squares r) (sym e) (holds, deviation_law n s squares facts.0 facts.2))
    (λ fails.
    let e = cond-false (keeps_bounds n s squares) (Some (nearest_root (deviation_divisor n) (scatter n s squares))) None fails in
    subst (λ (r : Option ℕ). Deviated n s squares r) (sym e) fails)
    (cases_Bool (keeps_bounds n s squares))

-- whoever answers the deviation of the definition answers by the law
pub deviated_by : (n : ℕ) (s : ℤ) (squares : ℕ) (answer : Option ℕ) → answer ≡ deviation_of n s squares → Deviated n s squares answer
deviated_by n s squares answer e = subst (λ (r : Option ℕ). Deviated n s squares r) (sym e) (deviated n s squares)

-- where the facts cannot hold, the test fails
pub bounds_broken : (n : ℕ) (s : ℤ) (squares : ℕ) → (least_days ≤ n → n ≤ most_days → SumsHold n s squares → ⊥) → keeps_bounds n s squares ≡ false
bounds_broken n s squares refute =
    ⊎_elim
    (λ holds. let facts = kept_facts n s squares holds in absurd (refute facts.0 facts.1 facts.2))
    (λ fails. fails)
    (cases_Bool (keeps_bounds n s squares))

-- the code's two ways
pub none_deviates : (n : ℕ) (s : ℤ) (squares : ℕ) → keeps_bounds n s squares ≡ false → None ≡ deviation_of n s squares
unfolding deviation_of
none_deviates n s squares e = sym (cond-false (keeps_bounds n s squares) (Some (nearest_root (deviation_divisor n) (scatter n s squares))) None e)

pub root_found : (n : ℕ) (s : ℤ) (squares k : ℕ) → least_days ≤ n → SumsHold n s squares → IsDeviation n s squares k → (k ≤ most_deviation) × (k ≡ nearest_root (deviation_divisor n) (scatter n s squares))
root_found n s squares k h sums d =
    let law = deviation_law n s squares h sums in
    let same = law.only k d in
    (omega (arith, law.most), same)

-- the sums of a month's temperatures have a deviation
pub has_deviation : (n : ℕ) (s : ℤ) (squares : ℕ) → least_days ≤ n → n ≤ most_days → SumsHold n s squares → deviation_of n s squares ≡ Some (nearest_root (deviation_divisor n) (scatter n s squares))
unfolding deviation_of
has_deviation n s squares least days sums =
    cond-true (keeps_bounds n s squares) (Some (nearest_root (deviation_divisor n) (scatter n s squares))) None (bounds_kept n s squares least days sums)

pub some_deviates : (n : ℕ) (s : ℤ) (squares k : ℕ) → least_days ≤ n → n ≤ most_days → SumsHold n s squares → IsDeviation n s squares k → Some k ≡ deviation_of n s squares
some_deviates n s squares k least days sums d =
    ap Some (root_found n s squares k least sums d).1 ∙ sym (has_deviation n s squares least days sums)
