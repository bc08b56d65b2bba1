use Rattle.std.proofs.Common.{◌≡◌, ◌+◌, ◌-◌, Some, None, sym, inr, arith}
use Rattle.extremes.proofs.OnTops.{tops_at, searched}
use Rattle.extremes.proofs.search.find_extreme.Goals as goal
use Rattle.extremes.proofs.search.find_extreme.Goals.{else-loop-day-test, then-loop-day-test+in_ok-on-2+else-day-last}

pub returns-in_err-on-2 : goal.returns-in_err-on-2
returns-in_err-on-2 g c = rw c.from_residual-in_err-on-2.ensures (searched _ _ _ None (inr (c.loop-day.day, omega arith, omega arith, sym {a = None} c.in_err-on-2.ensures)))

pub loop-day-preserved : goal.loop-day-preserved
loop-day-preserved g c =
    let l = c.loop-day in
    let back : l.day + 1 - 1 ≡ l.day = omega arith in
    record {
      so_far = rw (back, c.after-top.ensures)
          (tops_at g.R.Item.Ranked.over g.met.R.Item.Ranked.one_way g.met.R.Item.Ranked.chain (g.R.Readings.at c.args.readings.now) l.day l.top c.in_ok-on-2.field-0 (omega arith) l.invariant.so_far c.in_ok-on-2.ensures);
      within = omega arith;
    }

pub returns : goal.returns
returns g c =
    let l = c.loop-day in
    let at = g.R.Readings.at c.args.readings.now in
    searched _ _ at (Some c.loop-day-test.top) (elim c.loop-day-test.branch [
      | else-loop-day-test w ↦
          let whole : l.day - 1 ≡ c.args.last = omega (arith, l.invariant.within) in
          rw (w.top-is, sym whole) l.invariant.so_far
      | then-loop-day-test+in_ok-on-2+else-day-last w ↦
          let whole : l.day ≡ c.args.last = omega arith in
          rw (w.top-is, w.after-top.ensures, sym whole)
          (tops_at g.R.Item.Ranked.over g.met.R.Item.Ranked.one_way g.met.R.Item.Ranked.chain at l.day l.top w.in_ok-on-2.field-0 (omega arith) l.invariant.so_far w.in_ok-on-2.ensures)
    ])
