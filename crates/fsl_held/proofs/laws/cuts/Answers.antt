use Rattle.fsl_held.proofs.Cutting.{heap_cut}
use Rattle.fsl_held.proofs.laws.cuts.Goals as goal

pub returns : goal.returns
returns c = heap_cut
