use Rattle.std.proofs.Common.{◌≡◌, ap, ap₂, ◌∙◌, arith}
use Rattle.rounding.specs.Halves.{half_up}
use Rattle.rounding.specs.Sunshine.{hundredths, percentage_of}
use Rattle.rounding.proofs.OnSunshine.{without_normal, percentage_none, percentage_some, percentage_by}
use Rattle.rounding.proofs.sunshine.percentage.Goals as goal

pub returns-then-normal-eq0 : goal.returns-then-normal-eq0
returns-then-normal-eq0 c =
    let value = without_normal c.args.tenths c.args.normal (omega arith) in
    record { value = value; law = percentage_by c.args.tenths c.args.normal _ value }

pub returns-then-tenths-eq0 : goal.returns-then-tenths-eq0
returns-then-tenths-eq0 c =
    let value = percentage_none c.args.tenths c.args.normal (omega arith) (omega arith) in
    record { value = value; law = percentage_by c.args.tenths c.args.normal _ value }

pub returns : goal.returns
returns c =
    let tenths = c.args.tenths in
    let normal = c.args.normal in
    let some = percentage_some tenths normal (omega arith) (omega arith) in
    let near = c.half_up-near.ensures ∙ ap₂ half_up (ap hundredths c.from.ensures) c.from-2.ensures in
    let value : c.clamp.result ≡ percentage_of tenths normal = omega arith in
    record { value = value; law = percentage_by tenths normal c.clamp.result value }
