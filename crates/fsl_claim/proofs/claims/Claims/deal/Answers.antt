use Rattle.std.proofs.Common.{rules}
use Rattle.fsl_claim.proofs.Moves.{splits}
use Rattle.fsl_claim.proofs.claims.Claims.deal.Goals as goal

pub split_seat-requires : goal.split_seat-requires
split_seat-requires c = (search rules, search rules, splits _ _ _ (search rules) (search rules))
