use Rattle.std.proofs.Common.{◌≡◌, length, Some, None, sym, refl, w32, rules}
use Rattle.std.proofs.lemmas.Int.{to_z-of_z}
use Rattle.std.proofs.lemmas.Result.{err_from_is_err_and}
use Rattle.daybook.specs.Grid.{pair_count}
use Rattle.daybook.specs.Calls.{value_refusal}
use Rattle.daybook.specs.Cells.{grid_of}
use Rattle.station.proofs.OnRefusals.{unless_ok, unless_err}
use Rattle.daybook.proofs.OnPairs.{pair_taken, pair_declined}
use Rattle.daybook.proofs.OnCalls.{enter_declined, enter_value, entered_same}
use Rattle.daybook.proofs.OnGridBook.{cell_room, cell_valid, cell_entered}
use Rattle.daybook.proofs.grid_book.GridBookDaybook.enter.Goals as goal

pub returns-in_err-pair : goal.returns-in_err-pair
returns-in_err-pair c =
    let fd = c.ranges.day in
    let fe = c.ranges.element in
    let e = err_from_is_err_and c.from_residual.result c.from_residual.ensures.1 in
    let h = simp to_z-of_z at c.in_err-pair.ensures in
    let why = enter_declined (grid_of c.args.self.now.cells) pair_count _ _ c.args.value _ (pair_declined c.args.day c.args.element _ h) in
    record { answer = rw (e.1, e.2, why); after = sym (entered_same _ _ _ _ _ _ why); ceiling = refl }

pub returns-in_err-check_value : goal.returns-in_err-check_value
returns-in_err-check_value c =
    let fd = c.ranges.day in
    let fe = c.ranges.element in
    let fv = c.ranges.value in
    let e = err_from_is_err_and c.from_residual-in_err-check_value.result c.from_residual-in_err-check_value.ensures.1 in
    let h = simp to_z-of_z at c.in_ok-pair.ensures in
    let pair = pair_taken c.args.day c.args.element c.in_ok-pair.pair h in
    let v = simp to_z-of_z at c.in_err-check_value.ensures in
    let value : value_refusal c.args.element c.args.value ≡ Some c.in_err-check_value.field-0.0 = rw (← pair.2) (unless_err _ _ _ v) in
    let why = enter_value (grid_of c.args.self.now.cells) pair_count _ _ _ _ pair.0 value in
    record { answer = rw (e.1, e.2, why); after = sym (entered_same _ _ _ _ _ _ why); ceiling = refl }

pub invariant_of-self : goal.invariant_of-self
invariant_of-self c =
    let fd = c.ranges.day in
    let fe = c.ranges.element in
    let fv = c.ranges.value in
    let h = simp to_z-of_z at c.in_ok-pair.ensures in
    let p = c.in_ok-pair.pair in
    let pair = pair_taken c.args.day c.args.element p h in
    let v = simp to_z-of_z at c.in_ok-check_value.ensures in
    let value : value_refusal c.args.element c.args.value ≡ None = rw (← pair.2) (unless_ok _ _ _ v) in
    let cells = c.args.self.now.cells in
    let len : length cells ≡ pair_count = search rules in
    record { valid = cell_valid cells len _ _ c.place.result p.day p.element p.day_from p.day_to pair.1 pair.2 c.place.ensures.value c.args.value _ (to_z-of_z w32 _ fv) value c.args.self.now.valid }

pub returns : goal.returns
returns c =
    let fd = c.ranges.day in
    let fe = c.ranges.element in
    let fv = c.ranges.value in
    let h = simp to_z-of_z at c.in_ok-pair.ensures in
    let p = c.in_ok-pair.pair in
    let pair = pair_taken c.args.day c.args.element p h in
    let v = simp to_z-of_z at c.in_ok-check_value.ensures in
    let value : value_refusal c.args.element c.args.value ≡ None = rw (← pair.2) (unless_ok _ _ _ v) in
    let cells = c.args.self.now.cells in
    let len : length cells ≡ pair_count = search rules in
    let room = cell_room cells len _ _ c.place.result p.day p.element p.day_from p.day_to pair.1 pair.2 c.place.ensures.value c.args.value value in
    record {
      answer = rw room;
      after = cell_entered cells len _ _ c.place.result p.day p.element p.day_from p.day_to pair.1 pair.2 c.place.ensures.value c.args.value _ (to_z-of_z w32 _ fv) value;
      ceiling = refl;
    }
