use Rattle.std.proofs.Common.{◌≡◌, map, Option, IfOk, sym, ap, ◌∙◌, subst}
use Rattle.fsl_core.specs.declared.verdict.Kind.TheVariants as kind
use Rattle.fsl_core.specs.logic.States.{Env, Branches, demand_some}
use Rattle.fsl_core.specs.logic.Terms.{expr_of}
use Rattle.fsl_asrt.specs.Branch.{branches}
use Rattle.fsl_flow.proofs.CallsLemmas.{called, called_none}
use Rattle.fsl_flow.proofs.calls.call.Goals as goal

pub returns-in-Some-procedure : goal.returns-in-Some-procedure
returns-in-Some-procedure c =
    let read = ap (λ (o : Option Env). demand_some kind.Term o c.args.state) (sym c.in-Some.is) ∙ c.in_ok-args.ensures in
    subst (λ (xs : Branches (Unit {0})). IfOk c.call_proc.result (λ bs. branches bs ≡ xs))
    (sym (called c.args.p.now c.args.slot c.args.proc (map expr_of c.args.args.now) c.args.state c.in-Some.args c.in-Some-procedure.q.now
    read c.in-Some-procedure.ensures)) c.call_proc.ensures

pub returns-in-None-procedure : goal.returns-in-None-procedure
returns-in-None-procedure c =
    let read = ap (λ (o : Option Env). demand_some kind.Term o c.args.state) (sym c.in-Some.is) ∙ c.in_ok-args.ensures in
    subst (λ (xs : Branches (Unit {0})). IfOk c.going.result (λ bs. branches bs ≡ xs))
    (sym (called_none c.args.p.now c.args.slot c.args.proc (map expr_of c.args.args.now) c.args.state c.in-Some.args
    read c.in-None-procedure.ensures)) c.going.ensures
