use Rattle.std.proofs.Common.{sym, ap, ◌∙◌}
use Rattle.std.specs.Option.{option_map}
use Rattle.fsl_core.specs.declared.mode.Rung.{Rung}
use Rattle.fsl_core.specs.logic.Terms.{expr_of}
use Rattle.fsl_core.specs.logic.Assertions.{asrt_of}
use Rattle.fsl_core.specs.logic.Locations.{setting_of}
use Rattle.fsl_asrt.specs.Branch.{branches}
use Rattle.fsl_asrt.proofs.Keeping.{ok_then}
use Rattle.fsl_asrt.proofs.Laws.{has_term}
use Rattle.fsl_access.proofs.StoringLemmas.{store_found}
use Rattle.fsl_chunk.specs.Fits.{leave_of}
use Rattle.fsl_access.specs.Storing.{written_under}
use Rattle.fsl_access.proofs.storing.store_atomic.Goals as goal

pub returns-in-Some-3 : goal.returns-in-Some-3
returns-in-Some-3 c =
    let s = c.args.state in
    let p = setting_of asrt_of c.args.p.now in
    let at = expr_of c.args.at.now in
    let e = expr_of c.args.e.now in
    let a = c.in-Some.a in
    let v = c.in-Some-2.v in
    let l = leave_of c.in-Some-3.l in
    ok_then c.write.result branches _ _
    (ap (λ (r : Rung). written_under p r a v l s) c.giving.ensures
    ∙ sym (store_found p c.args.mode at e s a v l (has_term at s _ _ a c.env.ensures c.in_ok-a.ensures c.in-Some.is)
    (has_term e s _ _ v c.env-2.ensures c.in_ok-v.ensures c.in-Some-2.is) (ap (option_map leave_of) (sym c.in-Some-3.is) ∙ c.in_ok-l.ensures)))
    c.write.ensures
