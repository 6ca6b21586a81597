use Rattle.std.proofs.Common.{Some}
use Rattle.fsl_asrt.specs.Branch.{branches}
use Rattle.fsl_flow.proofs.CallsLemmas.{nothing_set}
use Rattle.fsl_flow.proofs.calls.set_each.Goals as goal

pub returns-in-None : goal.returns-in-None
returns-in-None c = nothing_set c.args.slot (Some c.args.t.now) (branches c.args.gained) c.in-None.is
