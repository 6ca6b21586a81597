use Rattle.std.proofs.Common.{rules}
use Rattle.fsl_claim.proofs.Moves.{settles}
use Rattle.fsl_claim.proofs.claims.Claims.settle.Goals as goal

pub load-requires : goal.load-requires
load-requires c = (search rules, search rules, settles _ _ _ _ _ (search rules) (search rules) (search rules))
