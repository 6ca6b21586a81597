use Rattle.std.proofs.Common.{◌≡◌, ◌∙◌, ap, sym}
use Rattle.fsl_core.specs.logic.Slots.{past}
use Rattle.fsl_flow.specs.Sets.{Slots, stmts_set}
use Rattle.fsl_flow.proofs.SetsLemmas.{past_both, if_sets, past_on, past_end}
use Rattle.fsl_flow.proofs.sets.+past.Goals as goal

pub past-returns-in-If : goal.past-returns-in-If
past-returns-in-If t c =
    let sets = if_sets c.args.act.now c.in-If.cond c.in-If.yes c.in-If.no c.in-If.is in
    let one : c.past_all.result ≡ past c.args.declared (stmts_set c.in-If.yes) = c.past_all.ensures ∙ ap (λ l. past c.args.declared (stmts_set l)) c.as_slice.ensures in
    let two : c.past_all-in-If.result ≡ past c.past_all.result (stmts_set c.in-If.no) =
    c.past_all-in-If.ensures ∙ ap (λ l. past c.past_all.result (stmts_set l)) c.as_slice-in-If.ensures in
    past_both c.args.declared c.past_all.result c.past_all-in-If.result (stmts_set c.in-If.yes) (stmts_set c.in-If.no) one two
    ∙ ap (λ (x : Slots). past c.args.declared x) (sym sets)

pub past_all-loop-stmt-preserved : goal.past_all-loop-stmt-preserved
past_all-loop-stmt-preserved t c =
    past_on c.loop-stmt.so_far c.past-so_far.result c.loop-stmt.stmt-index c.args.stmts.now c.stmt-item.result _
    c.loop-stmt-test.true c.stmt-item.is c.past-so_far.ensures c.loop-stmt.invariant

pub past_all-returns : goal.past_all-returns
past_all-returns t c = past_end c.loop-stmt.so_far c.loop-stmt.stmt-index c.args.stmts.now _ c.loop-stmt-test.false c.loop-stmt.invariant
