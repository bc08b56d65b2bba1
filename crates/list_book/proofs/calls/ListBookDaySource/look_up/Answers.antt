use Rattle.std.proofs.Common.{Ok, sym, refl, ap, ◌∙◌}
use Rattle.std.proofs.lemmas.Int.{to_z-of_z}
use Rattle.std.proofs.lemmas.Result.{err_from_is_err_and}
use Rattle.daybook.proofs.OnPairs.{pair_taken, pair_declined}
use Rattle.daybook.proofs.OnCalls.{look_declined, look_found}
use Rattle.ordered_table.specs.Contents.{rows}
use Rattle.list_book.proofs.OnRows.{found_grid}
use Rattle.list_book.proofs.calls.ListBookDaySource.look_up.Goals as goal

pub returns-in_err-pair : goal.returns-in_err-pair
returns-in_err-pair c =
    let fd = c.ranges.day in
    let fe = c.ranges.element in
    let e = err_from_is_err_and c.from_residual.result c.from_residual.ensures.1 in
    let h = simp to_z-of_z at c.in_err-pair.ensures in
    let why = pair_declined c.args.day c.args.element _ h in
    record { answer = rw (e.1, e.2) (sym (look_declined _ _ _ _ why)); same = refl }

pub returns : goal.returns
returns c =
    let fd = c.ranges.day in
    let fe = c.ranges.element in
    let h = simp to_z-of_z at c.in_ok-pair.ensures in
    let pair = pair_taken c.args.day c.args.element c.in_ok-pair.pair h in
    let k = found_grid _ _ (record { pair = c.in_ok-pair.pair }) pair.1 pair.2 (rows c.args.self.now.table) c.args.self.now.table.rises in
    record { answer = ap Ok (c.find.ensures.answer ∙ k) ∙ sym (look_found _ _ _ pair.0); same = refl }
