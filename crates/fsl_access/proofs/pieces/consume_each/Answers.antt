use Rattle.fsl_asrt.specs.Branch.{branches}
use Rattle.fsl_access.proofs.PiecesLemmas.{parts_more, parts_done}
use Rattle.fsl_access.proofs.pieces.consume_each.Goals as goal

pub loop-part-preserved : goal.loop-part-preserved
loop-part-preserved c =
    parts_more c.args.rung c.args.env.now c.loop-part.part-index c.args.parts.now c.part-item.result (branches c.loop-part.before) (branches c.in_ok-before-2.before) _
    c.loop-part-test.true c.part-item.is c.in_ok-before-2.ensures c.loop-part.invariant

pub returns : goal.returns
returns c = parts_done c.args.rung c.args.env.now c.loop-part.part-index c.args.parts.now (branches c.loop-part.before) _ c.loop-part-test.false c.loop-part.invariant
