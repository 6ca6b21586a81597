use Rattle.fsl_graph.proofs.Refused.{each_is_refused}
use Rattle.fsl_graph.proofs.laws.faults_are_refused.Goals as goal

pub returns : goal.returns
returns c = each_is_refused
