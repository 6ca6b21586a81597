use Rattle.fsl_access.proofs.PermissionsLemmas.{stands_for}
use Rattle.fsl_access.proofs.permissions.is_permission.Goals as goal

pub returns-in-Acq : goal.returns-in-Acq
returns-in-Acq c =
    stands_for c.args.state.now.facts c.args.at.now c.in-Acq.a c.in-Acq.inv c.in-Acq.args c.in-Acq.part c.in-Acq.out c.args.chunk.now c.proves_equal.result
    c.in-Acq.is c.proves_equal.ensures
