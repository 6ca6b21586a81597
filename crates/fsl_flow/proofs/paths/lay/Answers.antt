use Rattle.fsl_flow.proofs.PathsLemmas.{laid}
use Rattle.fsl_flow.proofs.paths.lay.Goals as goal

pub loop-last-preserved : goal.loop-last-preserved
loop-last-preserved c =
    laid c.loop-last.more c.pop.new.self c.in-Some.last c.loop-last.pending c.push.new.self _ c.in-Some.ensures c.in_ok-push.ensures.pushed
    c.loop-last.invariant
