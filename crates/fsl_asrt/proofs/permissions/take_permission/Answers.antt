use Rattle.fsl_chunk.specs.Fits.{permission}
use Rattle.fsl_asrt.specs.Branch.{bounds}
use Rattle.fsl_asrt.specs.Claims.{number_taken, permission_taken}
use Rattle.fsl_asrt.proofs.Keeping.{ok_then}
use Rattle.fsl_asrt.proofs.Sought.{is_taken}
use Rattle.fsl_core.specs.declared.verdict.Kind.TheVariants.{Acq}
use Rattle.fsl_core.specs.logic.Consuming.{permission_of}
use Rattle.fsl_asrt.proofs.permissions.take_permission.Goals as goal

pub returns-in-Some : goal.returns-in-Some
returns-in-Some c =
    let s = c.args.state in
    let env = c.args.env in
    let p = permission c.args.leave.now c.args.part c.args.out.now in
    ok_then c.without.result bounds (number_taken c.in-Some.number env s) (permission_taken p env s)
    (is_taken Acq (permission_of p) s c.in-Some.number env c.in-Some.ensures.first) c.without.ensures
