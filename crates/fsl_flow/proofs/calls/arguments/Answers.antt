use Rattle.std.proofs.Common.{map}
use Rattle.fsl_core.specs.logic.Terms.{expr_of}
use Rattle.fsl_asrt.proofs.LeavesLemmas.{terms_first, terms_more}
use Rattle.fsl_asrt.proofs.Laws.{has_term}
use Rattle.fsl_flow.proofs.calls.arguments.Goals as goal

pub loop-e-init : goal.loop-e-init
loop-e-init c = terms_first (map expr_of c.args.args.now) c.args.state.now.env c.args.state.now c.new-out.result c.new-out.ensures

pub loop-e-preserved : goal.loop-e-preserved
loop-e-preserved c =
    terms_more c.loop-e.e-index c.args.args.now c.e-item.result c.args.state.now.env c.args.state.now c.loop-e.out c.push.new.self c.in-Some.t _
    c.loop-e-test.true c.e-item.is
    (has_term (expr_of c.e-item.result) c.args.state.now c.env.result.now c.in_ok-t.field-0 c.in-Some.t c.env.ensures c.in_ok-t.ensures c.in-Some.is)
    c.in_ok-push.ensures.pushed c.loop-e.invariant
