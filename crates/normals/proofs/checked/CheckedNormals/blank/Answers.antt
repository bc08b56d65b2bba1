use Rattle.std.proofs.Common.{◌≡◌, true, refl, sym, subst, rules}
use Rattle.normals.specs.Normals.{is_good, is_two_digits, period_good, pressures_good, temperatures_good, weather_good, missing_good, blank_normals}
use Rattle.normals.proofs.checked.CheckedNormals.blank.Goals as goal

pub invariant_of-result : goal.invariant_of-result
unfolding is_good is_two_digits period_good pressures_good temperatures_good weather_good missing_good
invariant_of-result c =
    let blank : c.default.result ≡ blank_normals = search rules in
    record { good = subst (λ n. is_good n ≡ true) (sym blank) refl }
