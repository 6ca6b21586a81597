use Rattle.std.proofs.Common.{◌≡◌, IfOk, SFits, subst}
use Rattle.std.specs.Int.{w128}
use Rattle.std.proofs.lemmas.Int.{to_z-of_z}
use Rattle.fsl_core.specs.logic.Deciding.{assume}
use Rattle.fsl_lin.specs.Combination.{Combination}
use Rattle.fsl_lin.specs.declared.fact.Fact.TheVariants.{Le}
use Rattle.fsl_chunk.specs.Went.{branches}
use Rattle.fsl_chunk.proofs.state.State.assume_at_most.Goals as goal

pub returns-in-Ok : goal.returns-in-Ok
returns-in-Ok c =
    let fits : SFits w128 c.args.gap = c.ranges.gap in
    let exact = rw (to_z-of_z w128 c.args.gap fits) at c.in-Ok.ensures.exact in
    subst (λ (t : Combination). IfOk c.assume_le.result (λ went. branches went ≡ assume (Le t) c.args.self)) exact c.assume_le.ensures
