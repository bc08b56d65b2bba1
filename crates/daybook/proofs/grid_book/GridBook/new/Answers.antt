use Rattle.daybook.proofs.OnCells.{grid_new, valid_new}
use Rattle.daybook.proofs.grid_book.GridBook.new.Goals as goal

pub invariant_of-result : goal.invariant_of-result
invariant_of-result c = record { valid = valid_new }

pub returns : goal.returns
returns c = grid_new
