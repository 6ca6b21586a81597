use Rattle.std.proofs.Common.{rules}
use Rattle.fsl_claim.proofs.Moves.{draws}
use Rattle.fsl_claim.proofs.claims.Claims.draw.Goals as goal

pub fetch_add-found-requires : goal.fetch_add-found-requires
fetch_add-found-requires c = (search rules, search rules, draws _ _ _ _ _ (search rules) (search rules))
