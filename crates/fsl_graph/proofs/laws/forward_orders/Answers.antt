use Rattle.fsl_graph.proofs.Forward.{forward_order, ordered_is_acyclic}
use Rattle.fsl_graph.proofs.laws.forward_orders.Goals as goal

pub returns : goal.returns
returns c = record { order = forward_order; acyclic = ordered_is_acyclic }
