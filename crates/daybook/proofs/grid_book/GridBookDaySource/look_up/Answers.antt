use Rattle.std.proofs.Common.{◌≡◌, length, sym, refl, rules}
use Rattle.std.proofs.lemmas.Int.{to_z-of_z}
use Rattle.std.proofs.lemmas.Result.{err_from_is_err_and}
use Rattle.daybook.specs.Grid.{pair_count}
use Rattle.daybook.proofs.OnPairs.{pair_taken, pair_declined}
use Rattle.daybook.proofs.OnCalls.{look_declined}
use Rattle.daybook.proofs.OnGridBook.{cell_looked}
use Rattle.daybook.proofs.grid_book.GridBookDaySource.look_up.Goals as goal

pub returns-in_err-pair : goal.returns-in_err-pair
returns-in_err-pair c =
    let fd = c.ranges.day in
    let fe = c.ranges.element in
    let e = err_from_is_err_and c.from_residual.result c.from_residual.ensures.1 in
    let h = simp to_z-of_z at c.in_err-pair.ensures in
    let why = pair_declined c.args.day c.args.element _ h in
    record { answer = rw (e.1, e.2) (sym (look_declined _ _ _ _ why)); same = refl }

pub returns : goal.returns
returns c =
    let fd = c.ranges.day in
    let fe = c.ranges.element in
    let h = simp to_z-of_z at c.in_ok-pair.ensures in
    let p = c.in_ok-pair.pair in
    let pair = pair_taken c.args.day c.args.element p h in
    let cells = c.args.self.now.cells in
    let len : length cells ≡ pair_count = search rules in
    record {
      answer = cell_looked cells len _ _ c.place.result p.day p.element p.day_from p.day_to pair.1 pair.2 c.place.ensures.value;
      same = refl;
    }
