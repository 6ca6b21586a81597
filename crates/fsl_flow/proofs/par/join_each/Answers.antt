use Rattle.fsl_asrt.specs.Branch.{branches}
use Rattle.fsl_flow.proofs.ParLemmas.{joins_more, joins_done}
use Rattle.fsl_flow.proofs.par.join_each.Goals as goal

pub loop-x-preserved : goal.loop-x-preserved
loop-x-preserved c =
    joins_more c.loop-x.x-index c.args.running.now c.x-item.result (branches c.loop-x.branches) (branches c.in_ok-branches-2.branches) _
    c.loop-x-test.true c.x-item.is c.in_ok-branches-2.ensures c.loop-x.invariant

pub returns : goal.returns
returns c = joins_done c.loop-x.x-index c.args.running.now (branches c.loop-x.branches) _ c.loop-x-test.false c.loop-x.invariant
