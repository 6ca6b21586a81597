use Rattle.fsl_graph_examples.proofs.Alone.{each_alone_refuses}
use Rattle.fsl_graph_examples.proofs.laws.each_is_needed.Goals as goal

pub returns : goal.returns
returns c = each_alone_refuses
