use Rattle.std.proofs.Common.{sym, ◌∙◌}
use Rattle.fsl_chunk.specs.Went.{branches}
use Rattle.fsl_asrt.specs.Counts.{fewer_at, taken_at}
use Rattle.fsl_asrt.proofs.CountsLemmas.{enough, few}
use Rattle.fsl_asrt.proofs.Keeping.{ok_then}
use Rattle.fsl_asrt.proofs.tokens.take_counted.Goals as goal

pub returns-then-proves_at_most : goal.returns-then-proves_at_most
returns-then-proves_at_most c =
    let s = c.args.state in
    let x = c.args.c.now in
    ok_then c.keep_rest.result branches (fewer_at x c.args.n.now s) (taken_at x c.args.n.now s)
    (enough x c.args.n.now s (sym c.proves_at_most.ensures ∙ c.if-proves_at_most.true)) c.keep_rest.ensures

pub returns-else-proves_at_most : goal.returns-else-proves_at_most
returns-else-proves_at_most c = few c.args.c.now c.args.n.now c.args.state (sym c.proves_at_most.ensures ∙ c.if-proves_at_most.false)
