use Rattle.fsl_lin.proofs.Kept.{kept_symbol}
use Rattle.fsl_lin.proofs.lin.Lin.symbol.Goals as goal

pub invariant_of-result : goal.invariant_of-result
invariant_of-result c = rw c.in_ok-terms.ensures (kept_symbol c.args.s.0 c.requires)
