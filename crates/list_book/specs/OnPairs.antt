-- The order of pairs is a total one, and a day and an element's number belong to one pair. Assumes nothing.
use Rattle.std.specs.Prelude.{◌≡◌, ◌≤◌, true, ◌&&◌, ℤ, pos, Some, ◌==◌}
use denote.Enum.Bare
use denote.Enum.Bare.{sameb}
use Rattle.station.specs.contracts.element.Element as element
use Rattle.std.specs.Cmp.{IsTotalOrder, IsPartialOrder, both_ways, po}
use Rattle.std.specs.Ordering.{is_lt, is_eq, as_partial_cmp}
use Rattle.std.proofs.Common.{sym, refl, ap, ◌∙◌, subst, arith, rules}
use Rattle.std.proofs.lemmas.Cmp.{nat_cmp_total, on_total, then_total, tied_itself}
use mathlib.Core.HLevel.{is_prop→PathP}
use Rattle.std.proofs.Math.Bridge.{le_prop}
use Rattle.std.proofs.lemmas.Bool.{and_parts, and_from}
use Rattle.std.proofs.lemmas.Bool.Decides.{nat_tests}
use Rattle.station.specs.declared.element.Element.{Element}
use Rattle.station.specs.Numbers.{same}
use Rattle.station.specs.Elements.{element_number, element_numbered}
use Rattle.station.proofs.OnElements.{numbered_of}
use Rattle.station.proofs.OnNumbers.{same_true}
use Rattle.daybook.specs.declared.pair.Pair.{Pair}
use Rattle.ordered_table.proofs.OnOrder.{Order}
use Rattle.list_book.specs.declared.key.PairKey.{PairKey}
use Rattle.list_book.specs.Pairs.{pair_below, pair_cmp, is_pair}

-- ---- pairs with the same day and element number are the same
pub element_same : (x y : Element) → element_number x ≡ element_number y → x ≡ y
element_same x y h =
    let both : Some x ≡ Some y = sym (numbered_of x) ∙ ap (λ n. element_numbered (pos n)) h ∙ numbered_of y in
    cc

pub pair_same : (p q : Pair) → p.day ≡ q.day → p.element ≡ q.element → p ≡ q
pair_same p q d e = λ i. record {
  day = d i;
  element = e i;
  day_from = is_prop→PathP (λ k. 1 ≤ d k) (λ k. le_prop) p.day_from q.day_from i;
  day_to = is_prop→PathP (λ k. d k ≤ 31) (λ k. le_prop) p.day_to q.day_to i;
}

pub key_same : (j k : PairKey) → j.pair.day ≡ k.pair.day → element_number j.pair.element ≡ element_number k.pair.element → j ≡ k
key_same j k d e = λ i. record { pair = pair_same j.pair k.pair d (element_same j.pair.element k.pair.element e) i }

-- ---- the order
pub pair_order : Order pair_below
pair_order = record {
  itself = λ x. grind (arith, nat_tests);
  chain = λ x y z p q. grind (arith, nat_tests);
  apart = λ x y p q. key_same x y (grind (arith, nat_tests)) (grind (arith, nat_tests));
}

-- ---- keys compare in that order
pub pair_cmp_total : IsTotalOrder pair_cmp
pair_cmp_total = then_total (on_total (λ k. k.pair.day) nat_cmp_total) (on_total (λ k. element_number k.pair.element) nat_cmp_total)

pub pair_cmp_below : (x y : PairKey) → is_lt (pair_cmp x y) ≡ pair_below x y
pair_cmp_below x y = grind (arith, nat_tests)

pub pair_cmp_apart : (x y : PairKey) → is_eq (pair_cmp x y) ≡ true → x ≡ y
pair_cmp_apart x y e = key_same x y (grind (arith, nat_tests)) (grind (arith, nat_tests))

-- equal pairs are one pair
same_pair : (x y : PairKey) → (x.pair.day == y.pair.day && sameb element.the_type x.pair.element y.pair.element) ≡ true → x ≡ y
same_pair x y h =
    let both = and_parts (x.pair.day == y.pair.day) (sameb element.the_type x.pair.element y.pair.element) h in
    key_same x y (grind (arith, nat_tests)) (ap element_number (Bare.same_true element.the_type (search rules) _ _ both.1))

itself : (x : PairKey) → (x.pair.day == x.pair.day && sameb element.the_type x.pair.element x.pair.element) ≡ true
itself x =
    let day : (x.pair.day == x.pair.day) ≡ true = grind (arith, nat_tests) in
    and_from _ _ day (Bare.true_same element.the_type _ _ refl)

pub pair_cmp_equal : (x y : PairKey) → (x.pair.day == y.pair.day && sameb element.the_type x.pair.element y.pair.element) ≡ is_eq (pair_cmp x y)
pair_cmp_equal x y = both_ways _ _
    (λ p. subst (λ z. is_eq (pair_cmp x z) ≡ true) (same_pair x y p) (ap is_eq (tied_itself pair_cmp_total x)))
    (λ p. subst (λ z. (x.pair.day == z.pair.day && sameb element.the_type x.pair.element z.pair.element) ≡ true) (pair_cmp_apart x y p) (itself x))

pub pair_cmp_partial : IsPartialOrder (λ x y. x.pair.day == y.pair.day && sameb element.the_type x.pair.element y.pair.element) (as_partial_cmp pair_cmp)
pair_cmp_partial = po pair_cmp_total pair_cmp_equal

-- ---- the pair of a day and an element's number
pub one_key : (d e : ℤ) (j k : PairKey) → is_pair d e j ≡ true → is_pair d e k ≡ true → j ≡ k
one_key d e j k h i =
    let a = and_parts (same d (pos j.pair.day)) (same e (pos (element_number j.pair.element))) h in
    let b = and_parts (same d (pos k.pair.day)) (same e (pos (element_number k.pair.element))) i in
    let day : pos j.pair.day ≡ pos k.pair.day = sym (same_true d _ a.0) ∙ same_true d _ b.0 in
    let element : pos (element_number j.pair.element) ≡ pos (element_number k.pair.element) = sym (same_true e _ a.1) ∙ same_true e _ b.1 in
    key_same j k (grind arith) (grind arith)
