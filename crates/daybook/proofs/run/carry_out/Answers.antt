use Rattle.std.proofs.Common.{◌<◌, ◌≤◌, length, sym, ◌∙◌, arith}
use Rattle.daybook.proofs.OnLaws.{runs_by}
use Rattle.daybook.proofs.OnRuns.{log_more, standing_more, log_all, standing_all}
use Rattle.daybook.proofs.run.carry_out.Goals as goal

pub loop-logged-preserved : goal.loop-logged-preserved
loop-logged-preserved g c =
    let before = g.B.DaySource.grid c.loop-logged.book in
    let later = g.B.DaySource.grid c.perform.new.book in
    let now = g.B.Daybook.limit c.loop-logged.book in
    let ceiling = g.B.Daybook.limit c.args.book.now in
    let within : c.loop-logged.logged-index < length c.loop-logged.logged-items = omega arith in
    let inv = c.loop-logged.invariant in (
      c.perform.ensures.ceiling ∙ inv.0,
      log_more before later now ceiling inv.0 c.loop-logged.logged-items c.loop-logged.logged-index _ c.perform.result within c.perform.ensures.answer c.perform.ensures.after _ inv.1,
      standing_more before later now ceiling inv.0 c.loop-logged.logged-items c.loop-logged.logged-index _ c.perform.result within c.perform.ensures.answer c.perform.ensures.after _ inv.2,
    )

pub returns : goal.returns
returns g c =
    let inv = c.loop-logged.invariant in
    let past : length c.loop-logged.logged-items ≤ c.loop-logged.logged-index = omega arith in
    let whole = inv.1 ∙ log_all _ _ c.loop-logged.logged-items c.loop-logged.logged-index past in
    let end = inv.2 ∙ standing_all _ _ c.loop-logged.logged-items c.loop-logged.logged-index past in
    record {
      log = sym whole;
      after = sym end;
      ceiling = inv.0;
      laws = runs_by (g.B.DaySource.grid c.args.book.now) _ (g.B.Daybook.limit c.args.book.now) c.args.log.now _ whole end;
    }
