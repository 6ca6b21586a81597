use Rattle.std.proofs.Common.{ap}
use Rattle.fsl_asrt.specs.Branch.{branches, bounds}
use Rattle.fsl_asrt.proofs.Keeping.{ok_then}
use Rattle.fsl_core.specs.logic.States.{Branches, followed, give}
use Rattle.fsl_core.specs.logic.Terms.{expr_of}
use Rattle.fsl_core.specs.logic.Deciding.{cond_of}
use Rattle.fsl_core.specs.logic.Producing.{fact_produced}
use Rattle.fsl_asrt.proofs.producing.fact.Goals as goal

pub returns : goal.returns
returns c =
    let env = c.args.env in
    ok_then c.all_with.result bounds (followed (branches c.in_ok-branches.branches) (λ _. give env))
    (fact_produced (cond_of expr_of c.args.cond.now) c.args.rung env c.args.state)
    (ap (λ (bs : Branches (Unit {0})). followed bs (λ _. give env)) c.in_ok-branches.ensures) c.all_with.ensures
