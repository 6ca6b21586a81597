use Rattle.std.proofs.Common.{[], ◌∷◌, ◌∙◌, ap, sym}
use Rattle.fsl_core.specs.logic.States.{Env, goes}
use Rattle.fsl_chunk.specs.Went.{branches_made}
use Rattle.fsl_flow.proofs.ContractLemmas.{symbols_goes}
use Rattle.fsl_flow.proofs.contract.new_symbols.Goals as goal

pub loop-param-preserved : goal.loop-param-preserved
loop-param-preserved c =
    let made = ap branches_made (sym c.in-Goes.is) ∙ c.in_ok-state.ensures in
    ap (λ (ts : Env). goes ts c.in-Goes.state ∷ []) c.in_ok-push-in-Goes.ensures.pushed
    ∙ symbols_goes c.loop-param._param c.args.state c.loop-param.state c.in-Goes.state c.loop-param.env c.in-Goes.symbol c.loop-param.invariant made
