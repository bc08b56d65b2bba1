use Rattle.std.proofs.Common.{◌≡◌, ◌⊎◌, pos, neg_ℤ, ◌<ℤ◌, ◌≤ℤ◌, inl, inr, ap₂, ◌∙◌, ⊎_elim, arith}
use Rattle.std.proofs.lemmas.Int.{ints}
use Rattle.rounding.specs.Halves.{half_up}
use Rattle.rounding.proofs.OnHalves.{half_up_most}
use Rattle.rounding.proofs.OnMeans.{mean_of_none, mean_below, mean_above, averaged_by}
use Rattle.rounding.proofs.mean.nearest.Goals as goal
use Rattle.rounding.proofs.mean.nearest.Goals.{then-sum-lt0, else-sum-lt0}

pub returns-then-count-eq0 : goal.returns-then-count-eq0
returns-then-count-eq0 c =
    let value = mean_of_none c.args.sum c.args.count (omega arith) in
    record { value = value; law = averaged_by c.args.sum c.args.count _ value }

-- the mean has the sum's sign
signed : (c : goal.Joined-sum-lt0) →
    ((c.args.sum <ℤ pos 0) × (c.if-sum-lt0.mean ≡ neg_ℤ (pos c.half_up-size.result))) ⊎ ((pos 0 ≤ℤ c.args.sum) × (c.if-sum-lt0.mean ≡ pos c.half_up-size.result))
signed c =
    let near = c.half_up-size.ensures ∙ ap₂ half_up c.from.ensures c.from-2.ensures in
    let most = half_up_most c.unsigned_abs.result c.args.count (omega arith) in
    elim c.if-sum-lt0.branch [
      | then-sum-lt0 w ↦ inl (omega (arith, ints), omega (arith, ints))
      | else-sum-lt0 w ↦ inr (omega (arith, ints), omega (arith, ints))
    ]

pub overflow_cast-result : goal.overflow_cast-result
overflow_cast-result c =
    let near = c.half_up-size.ensures ∙ ap₂ half_up c.from.ensures c.from-2.ensures in
    let most = half_up_most c.unsigned_abs.result c.args.count (omega arith) in
    ⊎_elim (λ below. let e = below.1 in omega (arith, ints)) (λ above. let e = above.1 in omega (arith, ints)) (signed c)

pub returns : goal.returns
returns c =
    let s = c.args.sum in
    let n = c.args.count in
    let size = c.unsigned_abs.result in
    let near = c.half_up-size.ensures ∙ ap₂ half_up c.from.ensures c.from-2.ensures in
    let most = half_up_most size n (omega arith) in
    ⊎_elim
    (λ below. let e = below.1 in let value = mean_below s n size (omega arith) below.0 (omega (arith, ints)) (omega (arith, ints)) in record { value = value; law = averaged_by s n _ value })
    (λ above. let e = above.1 in let value = mean_above s n size (omega arith) above.0 (omega (arith, ints)) (omega (arith, ints)) in record { value = value; law = averaged_by s n _ value })
    (signed c)
