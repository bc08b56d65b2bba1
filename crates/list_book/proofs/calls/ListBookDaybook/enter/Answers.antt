use Rattle.std.proofs.Common.{◌≡◌, min, true, false, cond, Some, None, Ok, Err, is_ok, sym, refl, ap, ◌∙◌, ⊎_elim, rules}
use Rattle.std.proofs.lemmas.Int.{to_z-of_z}
use Rattle.std.proofs.lemmas.Result.{err_from_is_err_and}
use Rattle.std.proofs.lemmas.Bool.{cases_Bool, cond-false}
use Rattle.station.specs.declared.refusal.Refusal.TheVariants.{Full}
use Rattle.station.proofs.OnRefusals.{unless_ok, unless_err}
use Rattle.daybook.specs.Grid.{pair_count}
use Rattle.daybook.specs.Calls.{value_refusal}
use Rattle.daybook.proofs.OnPairs.{pair_taken, pair_declined}
use Rattle.daybook.proofs.OnCalls.{enter_declined, enter_value, entered_same}
use Rattle.ordered_table.specs.Contents.{rows, room}
use Rattle.ordered_table.proofs.OnTables.{answered, unchanged}
use Rattle.list_book.specs.declared.key.PairKey.{PairKey}
use Rattle.list_book.specs.Pairs.{grid_of}
use Rattle.list_book.specs.Book.{book_grid, book_ceiling}
use Rattle.list_book.proofs.OnCalls.{enter_room, enter_no_room, put_valid, put_entered}
use Rattle.list_book.proofs.calls.ListBookDaybook.enter.Goals as goal

pub returns-in_err-pair : goal.returns-in_err-pair
returns-in_err-pair c =
    let fd = c.ranges.day in
    let fe = c.ranges.element in
    let e = err_from_is_err_and c.from_residual.result c.from_residual.ensures.1 in
    let h = simp to_z-of_z at c.in_err-pair.ensures in
    let b = c.args.self.now in
    let why = enter_declined (book_grid b) (book_ceiling b) _ _ c.args.value _ (pair_declined c.args.day c.args.element _ h) in
    record { answer = rw (e.1, e.2, why); after = sym (entered_same _ _ _ _ _ _ why); ceiling = refl; lines = unchanged b.table.lines.now _ b.table.used refl; lender = refl }

pub returns-in_err-check_value : goal.returns-in_err-check_value
returns-in_err-check_value c =
    let fd = c.ranges.day in
    let fe = c.ranges.element in
    let fv = c.ranges.value in
    let e = err_from_is_err_and c.from_residual-in_err-check_value.result c.from_residual-in_err-check_value.ensures.1 in
    let h = simp to_z-of_z at c.in_ok-pair.ensures in
    let pair = pair_taken c.args.day c.args.element c.in_ok-pair.pair h in
    let v = simp to_z-of_z at c.in_err-check_value.ensures in
    let value : value_refusal c.args.element c.args.value ≡ Some c.in_err-check_value.field-0.0 = rw (← pair.2) (unless_err _ _ _ v) in
    let b = c.args.self.now in
    let why = enter_value (book_grid b) (book_ceiling b) _ _ _ _ pair.0 value in
    record { answer = rw (e.1, e.2, why); after = sym (entered_same _ _ _ _ _ _ why); ceiling = refl; lines = unchanged b.table.lines.now _ b.table.used refl; lender = refl }

pub invariant_of-self : goal.invariant_of-self
invariant_of-self c =
    let fd = c.ranges.day in
    let fe = c.ranges.element in
    let fv = c.ranges.value in
    let h = simp to_z-of_z at c.in_ok-pair.ensures in
    let pair = pair_taken c.args.day c.args.element c.in_ok-pair.pair h in
    let v = simp to_z-of_z at c.in_ok-check_value.ensures in
    let value : value_refusal c.args.element c.args.value ≡ None = rw (← pair.2) (unless_ok _ _ _ v) in
    let b = c.args.self.now in
    let k : PairKey = record { pair = c.in_ok-pair.pair } in
    let f = simp to_z-of_z at c.put.ensures.rows in
    record { valid = put_valid (rows b.table) b.table.rises _ _ k pair.1 pair.2 c.args.value (is_ok c.put.result) (rows c.put.new.self) value b.valid f }

pub returns : goal.returns
returns c =
    let fd = c.ranges.day in
    let fe = c.ranges.element in
    let fv = c.ranges.value in
    let h = simp to_z-of_z at c.in_ok-pair.ensures in
    let pair = pair_taken c.args.day c.args.element c.in_ok-pair.pair h in
    let v = simp to_z-of_z at c.in_ok-check_value.ensures in
    let value : value_refusal c.args.element c.args.value ≡ None = rw (← pair.2) (unless_ok _ _ _ v) in
    let b = c.args.self.now in
    let k : PairKey = record { pair = c.in_ok-pair.pair } in
    let f = simp to_z-of_z at c.put.ensures.rows in
    let is = answered Full c.put.result c.map_err.result c.map_err.ensures.cases (λ e x p. search rules) in
    ⊎_elim
    (λ (t : is_ok c.put.result ≡ true).
    let free = enter_room (rows b.table) b.table.rises _ _ k pair.1 pair.2 c.args.value (room b.table) value (sym c.put.ensures.answer ∙ t) in
    record {
      answer = is ∙ ap (λ z. cond z (Ok tt) (Err Full)) t ∙ rw free;
      after = put_entered (rows b.table) b.table.rises _ _ k pair.1 pair.2 c.args.value _ (is_ok c.put.result) (rows c.put.new.self) f t free;
      ceiling = ap (λ n. min n pair_count) c.put.ensures.room;
      lines = c.put.ensures.lines;
      lender = c.put.ensures.lender;
    })
    (λ (n : is_ok c.put.result ≡ false).
    let full = enter_no_room (rows b.table) b.table.rises _ _ k pair.1 pair.2 c.args.value (room b.table) value (sym c.put.ensures.answer ∙ n) in
    let same : rows c.put.new.self ≡ rows b.table = c.put.ensures.rows ∙ cond-false (is_ok c.put.result) _ _ n in
    record {
      answer = is ∙ ap (λ z. cond z (Ok tt) (Err Full)) n ∙ rw full;
      after = ap grid_of same ∙ sym (entered_same _ _ _ _ _ _ full);
      ceiling = ap (λ n. min n pair_count) c.put.ensures.room;
      lines = c.put.ensures.lines;
      lender = c.put.ensures.lender;
    })
    (cases_Bool (is_ok c.put.result))
