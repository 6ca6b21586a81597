use Rattle.std.proofs.Common.{◌≡◌, IfOk, subst}
use Rattle.fsl_core.specs.logic.Deciding.{assume}
use Rattle.fsl_lin.specs.Combination.{Combination}
use Rattle.fsl_lin.specs.declared.fact.Fact.TheVariants.{Is}
use Rattle.fsl_chunk.specs.Went.{branches}
use Rattle.fsl_chunk.proofs.state.State.assume_equal.Goals as goal

pub returns-in-Ok : goal.returns-in-Ok
returns-in-Ok c =
    subst (λ (t : Combination). IfOk c.assume_eq.result (λ went. branches went ≡ assume (Is t) c.args.self)) c.in-Ok.ensures.exact c.assume_eq.ensures
