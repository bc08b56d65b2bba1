use Rattle.std.proofs.Common.{◌≡◌, ap, ◌∙◌, rules, ◌==◌}
use Rattle.std.specs.Option.{IfSome}
use Rattle.columns.specs.Columns.{column}
use Rattle.columns.specs.Counts.{days_when}
use Rattle.station.specs.Months.{days_of}
use Rattle.figures.specs.Days.{is_complete, count_shown}
use Rattle.figures.proofs.OnShown.{answered_on}
use Rattle.figures.proofs.days.shown_count.Goals as goal

pub returns : goal.returns
unfolding count_shown
returns g c =
    let f = column (g.S.DaySource.grid c.args.month.source.now) c.args.element in
    let passes = g.C.Condition.passes c.args.condition in
    let d = days_of c.args.month.calendar in
    let days : IfSome c.then.result (λ n. n ≡ days_when passes f d) = search rules in
    answered_on (is_complete f d) _ _ (c.then.ensures.variant ∙ ap (λ n. n == 0) c.missing.ensures) days
