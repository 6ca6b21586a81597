use Rattle.std.proofs.Common.{rules}
use Rattle.fsl_claim.proofs.Moves.{looks}
use Rattle.fsl_claim.proofs.claims.Claims.least.Goals as goal

pub load-requires : goal.load-requires
load-requires c = (search rules, search rules, looks _ _ _ _ _ (search rules) (search rules))
