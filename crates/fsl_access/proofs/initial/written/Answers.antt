use Rattle.std.proofs.Common.{ap, ◌∙◌}
use Rattle.fsl_core.specs.logic.Joining.{produce_init}
use Rattle.fsl_lin.specs.Combination.{Combination}
use Rattle.fsl_asrt.specs.Branch.{branches}
use Rattle.fsl_asrt.proofs.Keeping.{ok_then}
use Rattle.fsl_access.proofs.initial.written.Goals as goal

pub returns : goal.returns
returns c =
    ok_then c.listed.result branches _ _
    (c.in_ok-came.ensures ∙ ap (λ (t : Combination). produce_init c.args.rung t c.args.state) c.in_ok-at.ensures) c.listed.ensures
