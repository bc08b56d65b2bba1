use Rattle.layout.proofs.OnLawful.{section_laid}
use Rattle.layout.proofs.lay.lay_out.Goals as goal

pub returns-then-figures-cells-clause-lawful : goal.returns-then-figures-cells-clause-lawful
returns-then-figures-cells-clause-lawful c = section_laid c.args.section c.args.figures.now

pub returns-else-figures-cells-clause-lawful : goal.returns-else-figures-cells-clause-lawful
returns-else-figures-cells-clause-lawful c = section_laid c.args.section c.args.figures.now
