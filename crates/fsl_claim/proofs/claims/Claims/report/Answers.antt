use Rattle.std.proofs.Common.{rules}
use Rattle.fsl_claim.proofs.Moves.{tells}
use Rattle.fsl_claim.proofs.claims.Claims.report.Goals as goal

pub fetch_min-requires : goal.fetch_min-requires
fetch_min-requires c = (search rules, search rules, tells _ _ _ _ _ _ (search rules) (search rules))
