use Rattle.ordered_table.proofs.OnMoves.{insert_whole}
use Rattle.ordered_table.proofs.shift.insert_at.Goals as goal

pub returns : goal.returns
returns g c = insert_whole c.args.lines.now c.rotate_right.new.self c.args.at c.args.used c.args.line c.requires.order c.requires.within c.rotate_right.ensures.after
