use Rattle.std.proofs.Common.{pos, sym}
use Rattle.fsl_chunk.specs.Went.{branches}
use Rattle.fsl_core.specs.logic.Deciding.{assume_at_most}
use Rattle.fsl_core.specs.logic.Joining.{full}
use Rattle.fsl_lin.specs.Combination.{constant}
use Rattle.fsl_asrt.proofs.Keeping.{by_one, ok_then}
use Rattle.fsl_asrt.proofs.Laws.{then_goes, then_infeasible, then_fails}
use Rattle.fsl_asrt.proofs.join.assume_share.Goals as goal

pub returns-in-Goes : goal.returns-in-Goes
returns-in-Goes c =
    let s = c.args.state in
    let share = c.args.share.now in
    let first = by_one _ _ _ (constant (pos 1)) share s c.in-Goes.is c.in_ok-one.ensures c.in_ok-state.ensures in
    ok_then c.at_most_full.result branches _ _
    (sym (then_goes (assume_at_most (constant (pos 1)) (pos 0) share s) tt c.in-Goes.state (λ _. assume_at_most share (pos 0) full) first)) c.at_most_full.ensures

pub returns-in-Infeasible : goal.returns-in-Infeasible
returns-in-Infeasible c =
    let s = c.args.state in
    let share = c.args.share.now in
    let first = by_one _ _ _ (constant (pos 1)) share s c.in-Infeasible.is c.in_ok-one.ensures c.in_ok-state.ensures in
    sym (then_infeasible (assume_at_most (constant (pos 1)) (pos 0) share s) (λ _. assume_at_most share (pos 0) full) first)

pub returns : goal.returns
returns c =
    let s = c.args.state in
    let share = c.args.share.now in
    let first = by_one _ _ _ (constant (pos 1)) share s c.in-Fails.is c.in_ok-one.ensures c.in_ok-state.ensures in
    sym (then_fails (assume_at_most (constant (pos 1)) (pos 0) share s) (λ _. assume_at_most share (pos 0) full) c.in-Fails.kind first)
