use Rattle.fsl_asserted.proofs.Exprs.{reads_expr, judges_cond}
use Rattle.fsl_asserted.proofs.laws.expressions.Goals as goal

pub returns : goal.returns
returns c = record { term = reads_expr; condition = judges_cond }
