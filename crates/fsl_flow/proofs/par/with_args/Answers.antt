use Rattle.std.proofs.Common.{List, map, Option, sym, ap, ◌∙◌}
use Rattle.fsl_core.specs.declared.expr.Expr.{Expr}
use Rattle.fsl_core.specs.declared.verdict.Kind.TheVariants as kind
use Rattle.fsl_core.specs.logic.States.{Env, demand_some}
use Rattle.fsl_core.specs.logic.Terms.{expr_of, terms}
use Rattle.fsl_core.specs.logic.Assertions.{asrt_of}
use Rattle.fsl_core.specs.logic.Locations.{setting_of}
use Rattle.fsl_core.specs.logic.Calls.{call_of}
use Rattle.fsl_flow.specs.Calls.{running_of}
use Rattle.fsl_flow.proofs.ParLemmas.{calls_first, calls_more}
use Rattle.fsl_flow.proofs.par.with_args.Goals as goal

pub loop-call-init : goal.loop-call-init
loop-call-init c =
    calls_first (setting_of asrt_of c.args.p.now) (map (call_of expr_of) c.args.calls.now) c.args.state.now.env c.args.state.now
    (map running_of c.new-out.result) (ap (map running_of) c.new-out.ensures)

pub loop-call-preserved : goal.loop-call-preserved
loop-call-preserved c =
    let s = c.args.state.now in
    let read = ap (λ (o : Option Env). demand_some kind.Term o s) (sym c.in-Some.is) ∙ c.in_ok-args.ensures
    ∙ ap (λ (es : List Expr). terms (map expr_of es) s.env s) c.as_slice.ensures in
    calls_more (setting_of asrt_of c.args.p.now) c.loop-call.call-index c.args.calls.now c.call-item.result s.env s
    (map running_of c.loop-call.out) (map running_of c.in_ok-out.out) c.in-Some.args _
    c.loop-call-test.true c.call-item.is read c.in_ok-out.ensures c.loop-call.invariant
