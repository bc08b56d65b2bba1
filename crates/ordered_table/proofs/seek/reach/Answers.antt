use Rattle.std.proofs.Common.{◌≡◌, true, drop, sym, ◌∙◌, subst, arith}
use Rattle.ordered_table.specs.Rows.{not_below}
use Rattle.ordered_table.proofs.OnSought.{behind_first, none_behind}
use Rattle.ordered_table.proofs.seek.reach.Goals as goal
use Rattle.ordered_table.proofs.seek.reach.Goals.{then-loop-count-test+else-before, else-loop-count-test}

pub returns-clause-enough : goal.returns-clause-enough
returns-clause-enough g c =
    let rows = c.args.rows.now in
    elim c.loop-count-test.branch [
      | then-loop-count-test+else-before w ↦
          let there : c.min.result ≡ c.loop-count.count = omega (arith, c.min.ensures, w.loop-count-test.true) in
          subst (λ n. not_below g.K.Key.below c.args.key (drop n rows) ≡ true) (sym there)
          (behind_first g.K.Key.below c.args.key rows c.loop-count.count w.index-rows-count.result w.loop-count-test.true (sym w.before-in-loop-count.ensures ∙ w.if-before.false))
      | else-loop-count-test w ↦
          none_behind g.K.Key.below c.args.key rows c.min.result (omega (arith, c.min.ensures, w.loop-count-test.false))
    ]
