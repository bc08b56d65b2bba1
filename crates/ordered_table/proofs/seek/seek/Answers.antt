use Rattle.std.proofs.Common.{take, sym, ◌∙◌, rules}
use Rattle.std.proofs.lemmas.Fn.{always_returns_same}
use Rattle.ordered_table.proofs.OnOrder.{order_of, rising_take}
use Rattle.ordered_table.proofs.OnSought.{parted, stands_there, would_stand, would_end}
use Rattle.ordered_table.proofs.seek.seek.Goals as goal
use Rattle.ordered_table.proofs.seek.seek.Goals.{else-place-rows-via-then-place-rows+else-not-before, else-place-rows-via-else-place-rows}

pub returns-then-not-before-clause-is : goal.returns-then-not-before-clause-is
returns-then-not-before-clause-is g c =
    let rows = c.args.rows.now in
    let n = c.reach.result in
    let o = order_of g.met.K.Key.itself g.met.K.Key.chain g.met.K.Key.apart in
    let point = c.partition_point-place.ensures.partitioned (λ x. g.K.Key.below x.key c.args.key) (always_returns_same _ _ _ (λ a r f called. search rules)) (parted o c.args.key (take n rows) (rising_take o n rows c.requires)) in
    stands_there g.K.Key.below c.args.key rows n c.reach.ensures.within c.reach.ensures.enough c.partition_point-place.result c.partition_point-place.ensures.bound point
    c.index-rows-place.result c.if-place-rows.true (sym c.before-then-place-rows.ensures ∙ c.if-not-before.true)

pub returns-else-place-rows-clause-is : goal.returns-else-place-rows-clause-is
returns-else-place-rows-clause-is g c =
    let rows = c.args.rows.now in
    let n = c.reach.result in
    let o = order_of g.met.K.Key.itself g.met.K.Key.chain g.met.K.Key.apart in
    let point = c.partition_point-place.ensures.partitioned (λ x. g.K.Key.below x.key c.args.key) (always_returns_same _ _ _ (λ a r f called. search rules)) (parted o c.args.key (take n rows) (rising_take o n rows c.requires)) in
    elim c.else-place-rows.branch [
      | else-place-rows-via-then-place-rows+else-not-before w ↦
          would_stand g.K.Key.below c.args.key rows n c.reach.ensures.within c.reach.ensures.enough c.partition_point-place.result c.partition_point-place.ensures.bound point
          w.index-rows-place.result w.if-place-rows.true (sym w.before-then-place-rows.ensures ∙ w.if-not-before.false)
      | else-place-rows-via-else-place-rows w ↦
          would_end g.K.Key.below c.args.key rows n c.reach.ensures.within c.reach.ensures.enough c.partition_point-place.result c.partition_point-place.ensures.bound point
          w.if-place-rows.false
    ]
