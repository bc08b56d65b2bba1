use Rattle.std.proofs.Common.{◌≡◌, false, ◌&&◌, eqb, sym, rules}
use Rattle.std.proofs.lemmas.Bool.{and_left, and_right, ne_eqb}
use Rattle.station.specs.Calendar.{is_leap}
use Rattle.station.proofs.OnCalendar.{leap_february, common_month, common_bounds}
use Rattle.station.proofs.calendar.CalendarMonth.length.Goals as goal
use Rattle.station.proofs.calendar.CalendarMonth.length.Goals.{else-self-eq-FEBRUARY-via-then-self-eq-FEBRUARY+else-is_leap, else-self-eq-FEBRUARY-via-else-self-eq-FEBRUARY}

pub returns-then-is_leap : goal.returns-then-is_leap
returns-then-is_leap c = record {
  value = leap_february _ _ c.if-self-eq-FEBRUARY.true (sym c.if-is_leap.ensures);
  least = search rules;
  most = search rules;
}

pub returns : goal.returns
returns c =
    let bounds = common_bounds c.args.self.month c.args.self.month_from c.args.self.month_to in
    let other : (eqb c.args.self.month 2 && is_leap c.args.self.year) ≡ false =
    elim c.else-self-eq-FEBRUARY.branch [
      | else-self-eq-FEBRUARY-via-then-self-eq-FEBRUARY+else-is_leap w ↦ and_right _ _ (sym w.if-is_leap.ensures)
      | else-self-eq-FEBRUARY-via-else-self-eq-FEBRUARY w ↦ and_left _ _ (ne_eqb _ _ w.if-self-eq-FEBRUARY.false)
    ] in
    let month : c.from.result ≡ c.args.self.month = search rules in
    record { value = rw month (common_month c.args.self.year c.args.self.month other); least = rw month bounds.0; most = rw month bounds.1 }
