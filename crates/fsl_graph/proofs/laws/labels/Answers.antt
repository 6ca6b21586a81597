use Rattle.fsl_graph.proofs.Labels.{labels_have_modes}
use Rattle.fsl_graph.proofs.laws.labels.Goals as goal

pub returns : goal.returns
returns c = labels_have_modes
