use Rattle.fsl_judged.proofs.JudgedMessages.{messages_are_judged}
use Rattle.fsl_judged.proofs.laws.messages_are_judged.Goals as goal

pub returns : goal.returns
returns c = messages_are_judged
