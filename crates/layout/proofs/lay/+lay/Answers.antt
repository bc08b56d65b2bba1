use Rattle.std.proofs.Common.{false}
use Rattle.layout.proofs.OnLaid.{none_laid, group_laid}
use Rattle.layout.proofs.lay.+lay.Goals as goal

pub returns-in-empty : goal.returns-in-empty
returns-in-empty t c = none_laid c.args.groups.now c.args.figures.now c.settle.new.cells c.in-empty.len_below c.settle.ensures

pub returns-in-len1-up : goal.returns-in-len1-up
returns-in-len1-up t c =
    group_laid c.args.groups.now (record { digit = 0; count = 0; required = false; noughts = false }) c.args.figures.now c.split.result.0.now c.split.result.1.now c.is_silent.result
    c.settle-in-len1-up.new.cells c.lay.new.cells c.in-len1-up.len_at_least c.split.ensures.front c.split.ensures.behind c.is_silent.ensures c.settle-in-len1-up.ensures c.lay.ensures
