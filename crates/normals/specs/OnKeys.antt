-- Keys of one station and month are one key, and keys go in a total order. Assumes nothing.
use Rattle.std.specs.Prelude.{◌≡◌, ◌≤◌, true, false}
use mathlib.Core.HLevel.{is_prop→PathP}
use Rattle.std.proofs.Math.Bridge.{le_prop}
use Rattle.std.specs.Ordering.{nat_cmp, ordering_then, is_lt, is_eq}
use Rattle.std.proofs.Common.{arith}
use Rattle.std.proofs.lemmas.Bool.Decides.{nat_tests}
use Rattle.normals.specs.declared.key.StationMonth.{StationMonth}
use Rattle.normals.specs.Order.{key_below}
use Rattle.ordered_table.proofs.OnOrder.{Order}

pub same_parts : (x y : StationMonth) → x.station ≡ y.station → x.month ≡ y.month → x ≡ y
same_parts x y s m j = record {
  station = s j;
  month = m j;
  station_from = is_prop→PathP (λ k. 1000 ≤ s k) (λ k. le_prop) x.station_from y.station_from j;
  station_to = is_prop→PathP (λ k. s k ≤ 98999) (λ k. le_prop) x.station_to y.station_to j;
  month_from = is_prop→PathP (λ k. 1 ≤ m k) (λ k. le_prop) x.month_from y.month_from j;
  month_to = is_prop→PathP (λ k. m k ≤ 12) (λ k. le_prop) x.month_to y.month_to j;
}

pub neither_below : (x y : StationMonth) → key_below x y ≡ false → key_below y x ≡ false → x ≡ y
neither_below x y p q =
    let s : x.station ≡ y.station = grind (arith, nat_tests) in
    let m : x.month ≡ y.month = grind (arith, nat_tests) in
    same_parts x y s m

pub not_below_itself : (x : StationMonth) → key_below x x ≡ false
not_below_itself x = grind (arith, nat_tests)

pub below_chain : (x y z : StationMonth) → key_below x y ≡ true → key_below y z ≡ true → key_below x z ≡ true
below_chain x y z p q = grind (arith, nat_tests)

pub key_compares : (x y : StationMonth) → is_lt (ordering_then (nat_cmp x.station y.station) (nat_cmp x.month y.month)) ≡ key_below x y
key_compares x y = grind (arith, nat_tests)

pub key_apart : (x y : StationMonth) → is_eq (ordering_then (nat_cmp x.station y.station) (nat_cmp x.month y.month)) ≡ true → x ≡ y
key_apart x y e = same_parts x y (grind (arith, nat_tests)) (grind (arith, nat_tests))

pub key_order : Order key_below
key_order = record { itself = not_below_itself; chain = below_chain; apart = neither_below }
