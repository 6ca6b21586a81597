use Rattle.std.proofs.Common.{rules}
use Rattle.fsl_claim.proofs.Moves.{joins}
use Rattle.fsl_claim.proofs.claims.Claims.merge.Goals as goal

pub join_seat-requires : goal.join_seat-requires
join_seat-requires c = (search rules, search rules, search rules, search rules, joins _ _ _ _ _ (search rules) (search rules))
