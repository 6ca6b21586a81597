use Rattle.fsl_graph.proofs.Keeping.{labels_are_asked, labels_lead, joins_wait, local_keeps_children, waiting_joins}
use Rattle.fsl_graph.proofs.laws.moves.Goals as goal

pub returns : goal.returns
returns c = record { asked = labels_are_asked; lead = labels_lead; wait = joins_wait; local = local_keeps_children; waiting = waiting_joins }
