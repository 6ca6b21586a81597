use Rattle.fsl_history.proofs.GrowthLemmas.{first_graph_goes, local_move_goes_on, event_goes_on}
use Rattle.fsl_history.proofs.laws.executions_go_on.Goals as goal

pub returns : goal.returns
returns c = record { first = first_graph_goes; local = local_move_goes_on; event = event_goes_on }
