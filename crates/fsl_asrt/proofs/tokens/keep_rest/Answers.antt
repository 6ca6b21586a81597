use Rattle.std.proofs.Common.{sym}
use Rattle.fsl_chunk.specs.Went.{branches}
use Rattle.fsl_asrt.specs.Cells.{put_at}
use Rattle.fsl_asrt.specs.Counts.{fewer_at}
use Rattle.fsl_asrt.proofs.Keeping.{fits, ok_then}
use Rattle.fsl_core.specs.declared.chunk.Chunk.TheVariants as chunk
use Rattle.fsl_lin.specs.Combination.{Combination, minus}
use Rattle.fsl_asrt.proofs.tokens.keep_rest.Goals as goal

pub returns-in-Ok : goal.returns-in-Ok
returns-in-Ok c =
    let s = c.args.state in
    let x = c.args.c.now in
    let rest = c.in-Ok.rest in
    ok_then c.put_rest.result branches (put_at x.number (chunk.Tok x.bank rest) s) (fewer_at x c.args.n.now s)
    (sym (fits (minus x.n c.args.n.now) rest s (λ (t : Combination). put_at x.number (chunk.Tok x.bank t)) c.in-Ok.ensures.exact c.in-Ok.ensures.narrow))
    c.put_rest.ensures
