use Rattle.fsl_scoped.proofs.Ensures.{ensures_seen, ensures_need_no_result, ensures_mind_no_result}
use Rattle.fsl_scoped.proofs.laws.ends.Goals as goal

pub returns : goal.returns
returns c = record { seen = ensures_seen; without = ensures_need_no_result; with = ensures_mind_no_result }
