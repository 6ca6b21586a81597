use Rattle.fsl_history.proofs.RealLemmas.{views_are_real, messages_are_real}
use Rattle.fsl_history.proofs.laws.views_are_real.Goals as goal

pub returns : goal.returns
returns c = record { threads = views_are_real; messages = messages_are_real }
