use Rattle.std.proofs.Common.{sym, ap, ◌∙◌, subst}
use Rattle.daybook.specs.Grid.{Valid}
use Rattle.list_book.specs.Pairs.{grid_of}
use Rattle.list_book.proofs.OnRows.{grid_none, valid_none}
use Rattle.list_book.proofs.book.ListBook.new.Goals as goal

pub invariant_of-result : goal.invariant_of-result
invariant_of-result c = record { valid = subst (λ z. Valid (grid_of z)) (sym c.new.ensures.rows) valid_none }

pub returns-clause-grid : goal.returns-clause-grid
returns-clause-grid c = ap grid_of c.new.ensures.rows ∙ grid_none
