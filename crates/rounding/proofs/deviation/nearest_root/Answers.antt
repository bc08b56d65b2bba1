use Rattle.rounding.proofs.OnDeviations.{root_deviates}
use Rattle.rounding.proofs.deviation.nearest_root.Goals as goal

pub returns : goal.returns
returns c =
    root_deviates c.args.divisor c.args.scatter c.isqrt.result c.requires.divisor_nonzero c.isqrt.ensures.square_le c.isqrt.ensures.next_square_gt
