use Rattle.std.proofs.Common.{sym}
use Rattle.fsl_chunk.specs.Went.{branches}
use Rattle.fsl_asrt.specs.Cells.{summed_at, joined_at}
use Rattle.fsl_asrt.proofs.Keeping.{fits, ok_then}
use Rattle.fsl_lin.specs.Combination.{Combination, plus}
use Rattle.fsl_asrt.proofs.join.join.Goals as goal

pub returns-in-Ok : goal.returns-in-Ok
returns-in-Ok c =
    let s = c.args.state in
    let x = c.args.c in
    let sum = c.in-Ok.sum in
    ok_then c.join_sum.result branches (summed_at c.args.rung x sum c.args.value s) (joined_at c.args.rung x c.args.share.now c.args.value s)
    (sym (fits (plus x.share c.args.share.now) sum s (λ (t : Combination). summed_at c.args.rung x t c.args.value) c.in-Ok.ensures.exact c.in-Ok.ensures.narrow))
    c.join_sum.ensures
