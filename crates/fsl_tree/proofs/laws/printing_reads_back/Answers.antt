use Rattle.fsl_tree.proofs.AgainDeclarations.{reads_back}
use Rattle.fsl_tree.proofs.laws.printing_reads_back.Goals as goal

pub returns : goal.returns
returns c = reads_back
