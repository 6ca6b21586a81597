use Rattle.fsl_graph.proofs.Lone.{lone_is_consistent}
use Rattle.fsl_graph.proofs.laws.one_thread.Goals as goal

pub returns : goal.returns
returns c = lone_is_consistent
