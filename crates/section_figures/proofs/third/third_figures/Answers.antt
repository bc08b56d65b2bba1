use Rattle.std.proofs.Common.{map, length, ap, ◌∙◌, rules}
use Rattle.station.specs.Months.{days_of}
use Rattle.station.proofs.OnCalendar.{length_most}
use Rattle.section_figures.specs.Third.{days_at}
use Rattle.section_figures.proofs.OnThird.{mapped}
use Rattle.section_figures.proofs.OnFits.{third_fits}
use Rattle.section_figures.proofs.third.third_figures.Goals as goal

pub returns-clause-value : goal.returns-clause-value
returns-clause-value g c =
    let figure = days_at (g.S.DaySource.grid c.args.month.source.now) (days_of c.args.month.calendar) in
    let limits = c.report_limits.ensures in
    let calls = c.map.ensures.items in
    mapped _ figure _ c.report_limits.result c.map.result 0 22 (λ limit days after call. search rules) (ap length limits) calls.long calls.each ∙ ap (map figure) limits

pub returns-clause-fits : goal.returns-clause-fits
returns-clause-fits g c = third_fits (g.S.DaySource.grid c.args.month.source.now) (days_of c.args.month.calendar) (length_most c.args.month.calendar.year c.args.month.calendar.month)
