use Rattle.std.proofs.Common.{◌≡◌, ap, ◌∙◌, rules, ◌==◌}
use Rattle.std.specs.Option.{IfSome}
use Rattle.columns.specs.Columns.{column}
use Rattle.columns.specs.declared.tally.Tally.{Tally}
use Rattle.station.specs.Months.{days_of}
use Rattle.figures.specs.Days.{is_complete}
use Rattle.figures.specs.Totals.{total, total_shown}
use Rattle.figures.proofs.OnShown.{answered_on}
use Rattle.figures.proofs.totals.complete_total.Goals as goal

pub returns : goal.returns
unfolding total_shown
returns g c =
    let f = column (g.S.DaySource.grid c.args.month.source.now) c.args.element in
    let d = days_of c.args.month.calendar in
    let size : IfSome c.then.result (λ n. n ≡ total f d) = search rules in
    answered_on (is_complete f d) _ _ (c.then.ensures.variant ∙ ap (λ (t : Tally). t.empties == 0) c.tally-tally.ensures.value) size
