-- Numbers in their order rank readings: of two that differ in rank one outranks the other, and readings of equal rank do not part others.
use Rattle.std.specs.Prelude.{◌≡◌, true, false, ℤ, int_lt}
use Rattle.std.proofs.Common.{rules}

pub below_one_way : (a b : ℤ) → int_lt a b ≡ true → int_lt b a ≡ false
below_one_way a b h = search rules

pub not_below_chain : (a b c : ℤ) → int_lt a b ≡ false → int_lt b c ≡ false → int_lt a c ≡ false
not_below_chain a b c h i = search rules
