use Rattle.fsl_flow.specs.Calls.{starts}
use Rattle.fsl_flow.proofs.ParLemmas.{starts_more, starts_done}
use Rattle.fsl_flow.proofs.par.start_each.Goals as goal

pub loop-x-preserved : goal.loop-x-preserved
loop-x-preserved c =
    starts_more c.loop-x.x-index c.args.running.now c.x-item.result (starts c.loop-x.branches) (starts c.in_ok-branches.branches) _
    c.loop-x-test.true c.x-item.is c.in_ok-branches.ensures c.loop-x.invariant

pub returns : goal.returns
returns c = starts_done c.loop-x.x-index c.args.running.now (starts c.loop-x.branches) _ c.loop-x-test.false c.loop-x.invariant
