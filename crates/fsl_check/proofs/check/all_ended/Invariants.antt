use Rattle.std.proofs.Common.{List, All, length}
use Rattle.fsl_core.specs.declared.verdict.Outcome.{Outcome}
use Rattle.fsl_claim.specs.declared.claims.Claims.{Claims}
use Rattle.fsl_check.specs.Ends.{EndsWell}
use Rattle.fsl_check.proofs.Ending.{EndsSoFar}
use Rattle.fsl_check.proofs.check.all_ended.Given as goal

abbrev pub invariant-loop-end : goal.invariant-loop-end
invariant-loop-end l = (claims : Claims) (outcomes : List Outcome) → All (EndsWell claims outcomes) l.fn.ends → EndsSoFar claims outcomes (length l.fn.ends) l.left l.passes l.failure

abbrev pub decreases-loop-end : goal.decreases-loop-end
decreases-loop-end l = length l.left
