use Rattle.fsl_graph_examples.proofs.Counted.{counted_is_execution}
use Rattle.fsl_graph_examples.proofs.laws.executions.Goals as goal

pub returns : goal.returns
returns c = counted_is_execution
