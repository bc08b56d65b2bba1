use Rattle.ordered_table.proofs.OnMoves.{remove_whole}
use Rattle.ordered_table.proofs.shift.remove_at.Goals as goal

pub returns : goal.returns
returns g c = remove_whole c.args.lines.now c.rotate_left.new.self c.args.at c.args.used c.requires.order c.requires.within c.rotate_left.ensures.after
