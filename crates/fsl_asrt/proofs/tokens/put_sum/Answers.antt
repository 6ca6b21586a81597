use Rattle.fsl_chunk.specs.Went.{branches}
use Rattle.fsl_asrt.specs.Counts.{summed_to}
use Rattle.fsl_asrt.proofs.CountsLemmas.{sum_put}
use Rattle.fsl_asrt.proofs.Keeping.{ok_then}
use Rattle.fsl_asrt.proofs.tokens.put_sum.Goals as goal

pub returns : goal.returns
returns c =
    let s = c.args.state in
    let x = c.args.c.now in
    let g = c.args.bank.now in
    let sum = c.args.sum.now in
    ok_then c.assume_allowed.result branches _ (summed_to g x sum s)
    (sum_put g sum x s _ _ c.in_ok-put.ensures.put c.in_ok-chunk.ensures) c.assume_allowed.ensures
