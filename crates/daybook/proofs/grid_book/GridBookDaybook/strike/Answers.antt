use Rattle.std.proofs.Common.{◌≡◌, length, sym, refl, rules}
use Rattle.std.proofs.lemmas.Int.{to_z-of_z}
use Rattle.std.proofs.lemmas.Result.{err_from_is_err_and}
use Rattle.daybook.specs.Grid.{pair_count}
use Rattle.daybook.specs.Cells.{grid_of}
use Rattle.daybook.proofs.OnPairs.{pair_taken, pair_declined}
use Rattle.daybook.proofs.OnCalls.{strike_declined, struck_same}
use Rattle.daybook.proofs.OnGridBook.{cell_empty, cell_filled, cell_cleared, cell_struck}
use Rattle.daybook.proofs.grid_book.GridBookDaybook.strike.Goals as goal

pub returns-in_err-pair : goal.returns-in_err-pair
returns-in_err-pair c =
    let fd = c.ranges.day in
    let fe = c.ranges.element in
    let e = err_from_is_err_and c.from_residual.result c.from_residual.ensures.1 in
    let h = simp to_z-of_z at c.in_err-pair.ensures in
    let why = strike_declined (grid_of c.args.self.now.cells) _ _ _ (pair_declined c.args.day c.args.element _ h) in
    record { answer = rw (e.1, e.2, why); after = sym (struck_same _ _ _ _ why); ceiling = refl }

pub returns-then-is_none : goal.returns-then-is_none
returns-then-is_none c =
    let fd = c.ranges.day in
    let fe = c.ranges.element in
    let h = simp to_z-of_z at c.in_ok-pair.ensures in
    let p = c.in_ok-pair.pair in
    let pair = pair_taken c.args.day c.args.element p h in
    let cells = c.args.self.now.cells in
    let len : length cells ≡ pair_count = search rules in
    let why = cell_empty cells len _ _ c.place-place.result p.day p.element p.day_from p.day_to pair.1 pair.2 c.place-place.ensures.value c.if-is_none.ensures in
    record { answer = rw why; after = sym (struck_same _ _ _ _ why); ceiling = refl }

pub invariant_of-self : goal.invariant_of-self
invariant_of-self c =
    let fd = c.ranges.day in
    let fe = c.ranges.element in
    let h = simp to_z-of_z at c.in_ok-pair.ensures in
    let p = c.in_ok-pair.pair in
    let pair = pair_taken c.args.day c.args.element p h in
    let cells = c.args.self.now.cells in
    let len : length cells ≡ pair_count = search rules in
    record { valid = cell_cleared cells len _ _ c.place-place.result p.day p.element p.day_from p.day_to pair.1 pair.2 c.place-place.ensures.value c.args.self.now.valid }

pub returns : goal.returns
returns c =
    let fd = c.ranges.day in
    let fe = c.ranges.element in
    let h = simp to_z-of_z at c.in_ok-pair.ensures in
    let p = c.in_ok-pair.pair in
    let pair = pair_taken c.args.day c.args.element p h in
    let cells = c.args.self.now.cells in
    let len : length cells ≡ pair_count = search rules in
    let taken = cell_filled cells len _ _ c.place-place.result p.day p.element p.day_from p.day_to pair.1 pair.2 c.place-place.ensures.value c.if-is_none.ensures in
    record {
      answer = rw taken;
      after = cell_struck cells len _ _ c.place-place.result p.day p.element p.day_from p.day_to pair.1 pair.2 c.place-place.ensures.value taken;
      ceiling = refl;
    }
