use Rattle.std.proofs.Common.{sym, ap, ◌∙◌}
use Rattle.fsl_core.specs.declared.mode.Rung.{Rung}
use Rattle.fsl_core.specs.logic.Terms.{expr_of}
use Rattle.fsl_core.specs.logic.Assertions.{asrt_of}
use Rattle.fsl_core.specs.logic.Locations.{setting_of}
use Rattle.fsl_chunk.specs.Went.{branches_made}
use Rattle.fsl_asrt.specs.Branch.{branches}
use Rattle.fsl_asrt.proofs.Keeping.{ok_then}
use Rattle.fsl_asrt.proofs.Laws.{has_term}
use Rattle.fsl_access.proofs.LoadingLemmas.{load_made}
use Rattle.fsl_access.specs.Loading.{loaded}
use Rattle.fsl_access.proofs.loading.load_atomic.Goals as goal

pub returns-in-Goes : goal.returns-in-Goes
returns-in-Goes c =
    let s = c.args.state in
    let p = setting_of asrt_of c.args.p.now in
    let at = expr_of c.args.at.now in
    let a = c.in-Some.a in
    let d = c.in-Goes.symbol in
    let t = c.in-Goes.state in
    ok_then c.loaded.result branches _ _
    (ap (λ (r : Rung). loaded p c.args.slot r a d t) c.gaining.ensures
    ∙ sym (load_made p c.args.slot c.args.mode at s t a d (has_term at s _ _ a c.env.ensures c.in_ok-a.ensures c.in-Some.is)
    (sym c.is_initial.ensures ∙ c.if-not-is_initial.false) (ap branches_made (sym c.in-Goes.is) ∙ c.in_ok-state.ensures)))
    c.loaded.ensures
