use Rattle.std.proofs.Common.{map, sym, ◌∙◌}
use Rattle.fsl_core.specs.logic.Terms.{expr_of}
use Rattle.fsl_asrt.proofs.LeavesLemmas.{terms_first, terms_more}
use Rattle.fsl_asrt.proofs.leaves.all_terms.Goals as goal

pub loop-e-init : goal.loop-e-init
loop-e-init c = terms_first (map expr_of c.args.es.now) c.args.env.now c.args.state.now c.new-out.result c.new-out.ensures

pub loop-e-preserved : goal.loop-e-preserved
loop-e-preserved c =
    terms_more c.loop-e.e-index c.args.es.now c.e-item.result c.args.env.now c.args.state.now c.loop-e.out c.push.new.self c.in-Some.t _
    c.loop-e-test.true c.e-item.is
    (sym c.in_ok-t.ensures ∙ c.in-Some.is)
    c.in_ok-push.ensures.pushed c.loop-e.invariant
