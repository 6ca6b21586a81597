use Rattle.std.proofs.Common.{◌∙◌}
use Rattle.fsl_core.specs.logic.Assertions.{asrt_of}
use Rattle.fsl_core.specs.logic.Locations.{setting_of}
use Rattle.fsl_asrt.specs.Branch.{branches}
use Rattle.fsl_asrt.proofs.Keeping.{ok_then}
use Rattle.fsl_access.proofs.LoadingLemmas.{loaded_by}
use Rattle.fsl_access.proofs.loading.loaded.Goals as goal

pub returns : goal.returns
returns c =
    ok_then c.set_on_each.result branches _ _
    (loaded_by (setting_of asrt_of c.args.p.now) c.args.slot c.args.rung c.args.at.now c.args.v.now c.args.state c.as_slice.result.now (branches c.in_ok-gained.gained)
    (c.as_slice.ensures ∙ c.in_ok-places.ensures) c.in_ok-gained.ensures)
    c.set_on_each.ensures
