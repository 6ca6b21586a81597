use Rattle.fsl_history.proofs.ConsistentLemmas.{history_is_consistent}
use Rattle.fsl_history.proofs.laws.consistent.Goals as goal

pub returns : goal.returns
returns c = history_is_consistent
