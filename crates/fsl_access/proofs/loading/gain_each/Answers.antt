use Rattle.fsl_core.specs.logic.Assertions.{asrt_of}
use Rattle.fsl_core.specs.logic.Locations.{setting_of}
use Rattle.fsl_asrt.specs.Branch.{branches}
use Rattle.fsl_access.proofs.LoadingLemmas.{gains_more, gains_done}
use Rattle.fsl_access.proofs.loading.gain_each.Goals as goal

pub loop-place-preserved : goal.loop-place-preserved
loop-place-preserved c =
    gains_more (setting_of asrt_of c.args.p.now) c.args.rung c.args.at.now c.args.v.now c.loop-place.place-index c.args.places.now
    (branches c.loop-place.before) (branches c.in_ok-before-2.before) _ c.loop-place-test.true c.in_ok-before-2.ensures c.loop-place.invariant

pub returns : goal.returns
returns c =
    gains_done (setting_of asrt_of c.args.p.now) c.args.rung c.args.at.now c.args.v.now c.loop-place.place-index c.args.places.now
    (branches c.loop-place.before) _ c.loop-place-test.false c.loop-place.invariant
