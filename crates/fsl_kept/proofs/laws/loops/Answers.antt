use Rattle.fsl_kept.proofs.Calls.{round_fits, give_inv_fits}
use Rattle.fsl_kept.proofs.laws.loops.Goals as goal

pub returns : goal.returns
returns c = record {
  begins = λ g slots h more v s cond inv declared sets ys n fit asked known holds bounds. round_fits cond inv declared sets ys n more fit asked known holds bounds;
  ends = λ g slots h v s inv fit. give_inv_fits inv fit;
}
