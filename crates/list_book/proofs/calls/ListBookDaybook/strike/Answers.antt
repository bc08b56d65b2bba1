use Rattle.std.proofs.Common.{◌≡◌, min, Err, is_some, sym, refl, ap, ◌∙◌}
use Rattle.std.specs.Option.{ok_or}
use Rattle.std.proofs.lemmas.Int.{to_z-of_z}
use Rattle.std.proofs.lemmas.Result.{err_from_is_err_and}
use Rattle.station.specs.declared.refusal.Refusal.TheVariants.{Empty}
use Rattle.daybook.specs.Grid.{pair_count}
use Rattle.daybook.proofs.OnPairs.{pair_taken, pair_declined}
use Rattle.daybook.proofs.OnCalls.{strike_declined, struck_same}
use Rattle.ordered_table.specs.Contents.{rows}
use Rattle.list_book.specs.declared.key.PairKey.{PairKey}
use Rattle.list_book.specs.Pairs.{grid_of}
use Rattle.list_book.specs.Book.{book_grid}
use Rattle.list_book.proofs.OnCalls.{strike_there, strike_absent, removed_valid, removed_struck, removed_none, removed_row, lines_untouched}
use Rattle.list_book.proofs.calls.ListBookDaybook.strike.Goals as goal

pub returns-in_err-pair : goal.returns-in_err-pair
returns-in_err-pair c =
    let fd = c.ranges.day in
    let fe = c.ranges.element in
    let e = err_from_is_err_and c.from_residual.result c.from_residual.ensures.1 in
    let h = simp to_z-of_z at c.in_err-pair.ensures in
    let b = c.args.self.now in
    let gone = pair_declined c.args.day c.args.element _ h in
    let why = strike_declined (book_grid b) _ _ _ gone in
    record { answer = rw (e.1, e.2, why); after = sym (struck_same _ _ _ _ why); ceiling = refl; lines = lines_untouched _ _ _ gone b.table.lines.now b.table.used; lender = refl }

pub invariant_of-self : goal.invariant_of-self
invariant_of-self c =
    let fd = c.ranges.day in
    let fe = c.ranges.element in
    let h = simp to_z-of_z at c.in_ok-pair.ensures in
    let pair = pair_taken c.args.day c.args.element c.in_ok-pair.pair h in
    let b = c.args.self.now in
    let k : PairKey = record { pair = c.in_ok-pair.pair } in
    record { valid = removed_valid (rows b.table) b.table.rises _ _ k pair.1 pair.2 (rows c.remove.new.self) b.valid c.remove.ensures.rows }

pub returns-in_err-ok_or : goal.returns-in_err-ok_or
returns-in_err-ok_or c =
    let fd = c.ranges.day in
    let fe = c.ranges.element in
    let h = simp to_z-of_z at c.in_ok-pair.ensures in
    let pair = pair_taken c.args.day c.args.element c.in_ok-pair.pair h in
    let b = c.args.self.now in
    let k : PairKey = record { pair = c.in_ok-pair.pair } in
    let row = removed_row (rows b.table) b.table.rises _ _ k pair.1 pair.2 in
    let e = err_from_is_err_and c.from_residual-in_err-ok_or.result c.from_residual-in_err-ok_or.ensures.1 in
    let absent = sym (ap is_some c.remove.ensures.answer) ∙ sym c.in_err-ok_or.ensures.variant in
    let empty = strike_absent (rows b.table) b.table.rises _ _ k pair.1 pair.2 absent in
    let same = removed_none (rows b.table) b.table.rises _ _ k pair.1 pair.2 (rows c.remove.new.self) c.remove.ensures.rows absent in
    let is = c.in_err-ok_or.ensures.value ∙ ap (λ o. ok_or o Empty) c.in_err-ok_or.ensures.ok_part in
    let why : c.in_err-ok_or.field-0.0 ≡ Empty = cc in
    record {
      answer = rw (e.1, e.2, empty) (ap Err why);
      after = ap grid_of same ∙ sym (struck_same _ _ _ _ empty);
      ceiling = ap (λ n. min n pair_count) c.remove.ensures.room;
      lines = rw row at c.remove.ensures.lines;
      lender = c.remove.ensures.lender;
    }

pub returns : goal.returns
returns c =
    let fd = c.ranges.day in
    let fe = c.ranges.element in
    let h = simp to_z-of_z at c.in_ok-pair.ensures in
    let pair = pair_taken c.args.day c.args.element c.in_ok-pair.pair h in
    let b = c.args.self.now in
    let k : PairKey = record { pair = c.in_ok-pair.pair } in
    let row = removed_row (rows b.table) b.table.rises _ _ k pair.1 pair.2 in
    let taken = strike_there (rows b.table) b.table.rises _ _ k pair.1 pair.2 (sym (ap is_some c.remove.ensures.answer) ∙ sym c.in_ok-ok_or.ensures.variant) in
    record {
      answer = rw taken;
      after = removed_struck (rows b.table) b.table.rises _ _ k pair.1 pair.2 (rows c.remove.new.self) c.remove.ensures.rows taken;
      ceiling = ap (λ n. min n pair_count) c.remove.ensures.room;
      lines = rw row at c.remove.ensures.lines;
      lender = c.remove.ensures.lender;
    }
