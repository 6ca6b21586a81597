use Rattle.fsl_machine.proofs.MachineLemmas.{begins}
use Rattle.fsl_machine.proofs.machine.Machine.new.Goals as goal

pub invariant_of-result : goal.invariant_of-result
invariant_of-result c =
    begins c.args.p c.args.steps c.in_ok-config.config c.new.result c.requires c.in_ok-config.ensures.fits c.in_ok-config.ensures.starts c.new.ensures
