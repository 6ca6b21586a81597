use Rattle.std.proofs.Common.{rules, ◌≡◌, ◌==◌, false, sym}
use Rattle.std.specs.List.{list_any}
use Rattle.fsl_flow.specs.Sets.{act_sets}
use Rattle.fsl_flow.proofs.SetsLemmas.{any_skips, any_found, any_end}
use Rattle.fsl_flow.proofs.sets.+set_in.Goals as goal

pub set_among-returns-in-Some-clause-found : goal.set_among-returns-in-Some-clause-found
set_among-returns-in-Some-clause-found t c =
    any_found c.args.number c.loop-stmt.stmt-index c.args.stmts.now c.stmt-item.result _
    c.loop-stmt-test.true c.stmt-item.is (sym c.in-Some.ensures.found) c.loop-stmt.invariant

pub set_among-loop-stmt-preserved : goal.set_among-loop-stmt-preserved
set_among-loop-stmt-preserved t c =
    let out : list_any (λ slot. slot == c.args.number) (act_sets c.stmt-item.result.act) ≡ false = search rules in
    any_skips c.args.number c.loop-stmt.stmt-index c.args.stmts.now c.stmt-item.result _ c.loop-stmt-test.true c.stmt-item.is out c.loop-stmt.invariant

pub set_among-returns-clause-found : goal.set_among-returns-clause-found
set_among-returns-clause-found t c = any_end c.args.number c.loop-stmt.stmt-index c.args.stmts.now _ c.loop-stmt-test.false c.loop-stmt.invariant
