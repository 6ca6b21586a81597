use Rattle.fsl_graph_examples.proofs.Taken.{theorem_applies}
use Rattle.fsl_graph_examples.proofs.laws.theorem_applies.Goals as goal

pub returns : goal.returns
returns c = theorem_applies
