use Rattle.fsl_judged.proofs.JudgedCells.{cells_are_judged}
use Rattle.fsl_judged.proofs.laws.cells_are_judged.Goals as goal

pub returns : goal.returns
returns c = cells_are_judged
