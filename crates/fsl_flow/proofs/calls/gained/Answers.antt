use Rattle.std.proofs.Common.{◌≡◌, IfOk, subst}
use Rattle.fsl_core.specs.logic.States.{Branches}
use Rattle.fsl_core.specs.logic.Assertions.{asrt_of}
use Rattle.fsl_core.specs.logic.Locations.{contract_of}
use Rattle.fsl_asrt.specs.Branch.{branches}
use Rattle.fsl_flow.proofs.CallsLemmas.{nothing_gained}
use Rattle.fsl_flow.proofs.calls.gained.Goals as goal

pub returns-in-None : goal.returns-in-None
returns-in-None c =
    subst (λ (xs : Branches (Unit {0})). IfOk c.gain_post-in-None.result (λ bs. branches bs ≡ xs))
    (nothing_gained c.args.slot (contract_of asrt_of c.args.q.now) c.args.env c.args.t c.args.state c.in-None.is) c.gain_post-in-None.ensures
