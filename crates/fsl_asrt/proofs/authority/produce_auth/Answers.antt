use Rattle.std.proofs.Common.{ap, ◌∙◌}
use Rattle.fsl_chunk.specs.Went.{branches}
use Rattle.fsl_asrt.specs.Branch.{bounds}
use Rattle.fsl_asrt.proofs.Keeping.{ok_then}
use Rattle.fsl_asrt.proofs.Laws.{of_bank}
use Rattle.fsl_core.specs.logic.States.{Branches, followed, give}
use Rattle.fsl_core.specs.logic.Terms.{expr_of}
use Rattle.fsl_core.specs.logic.Joining.{produce_authority}
use Rattle.fsl_core.specs.logic.Producing.{auth_produced}
use Rattle.fsl_asrt.proofs.authority.produce_auth.Goals as goal

pub returns-in_ok-went-in-Some : goal.returns-in_ok-went-in-Some
returns-in_ok-went-in-Some c =
    let s = c.args.state in
    let n = expr_of c.args.n.now in
    let env = c.args.env in
    ok_then c.went_with.result bounds (followed (branches c.in_ok-went-in-Some.went) (λ _. give env)) (auth_produced c.args.bank n c.args.rung env s)
    (ap (λ (bs : Branches (Unit {0})). followed bs (λ _. give env)) c.in_ok-went-in-Some.ensures
    ∙ of_bank n produce_authority c.args.bank env s _ _ c.in-Some.n c.in_ok-bank-in-Some.ensures c.in_ok-n.ensures c.in-Some.is) c.went_with.ensures
