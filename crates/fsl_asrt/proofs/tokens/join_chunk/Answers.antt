use Rattle.std.proofs.Common.{sym}
use Rattle.fsl_chunk.specs.Went.{branches}
use Rattle.fsl_asrt.specs.Cells.{put_at}
use Rattle.fsl_asrt.specs.Counts.{allowed, more_at}
use Rattle.fsl_asrt.proofs.Keeping.{fits, ok_then}
use Rattle.fsl_core.specs.declared.chunk.Chunk.TheVariants as chunk
use Rattle.fsl_core.specs.logic.States.{◌>>◌}
use Rattle.fsl_lin.specs.Combination.{Combination, plus}
use Rattle.fsl_asrt.proofs.tokens.join_chunk.Goals as goal

pub returns-in-Ok : goal.returns-in-Ok
returns-in-Ok c =
    let s = c.args.state in
    let x = c.args.c in
    let g = c.args.bank.now in
    let sum = c.in-Ok.sum in
    ok_then c.put_sum.result branches ((put_at x.number (chunk.Tok x.bank sum) >> allowed g sum) s) (more_at g x c.args.n.now s)
    (sym (fits (plus x.n c.args.n.now) sum s (λ (t : Combination). put_at x.number (chunk.Tok x.bank t) >> allowed g t) c.in-Ok.ensures.exact c.in-Ok.ensures.narrow))
    c.put_sum.ensures
