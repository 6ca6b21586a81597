use Rattle.fsl_graph.proofs.Ended.{joined_ended}
use Rattle.fsl_graph.proofs.Threads.{joins_wait_for_all}
use Rattle.fsl_graph.proofs.Joining.{early_join_laws}
use Rattle.fsl_graph.proofs.laws.joins.Goals as goal

pub returns : goal.returns
returns c = record { ended = joined_ended; all = joins_wait_for_all; early = early_join_laws }
