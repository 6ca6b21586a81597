use Rattle.std.proofs.Common.{sym, ◌∙◌, w64, SFits, rules}
use Rattle.std.proofs.lemmas.Int.{to_z-of_z}
use Rattle.std.proofs.lemmas.Result.{on_ok_weaker}
use Rattle.fsl_machine.proofs.OrdersLemmas.{puts_behind, puts_first}
use Rattle.fsl_machine.proofs.orders.put.Goals as goal

pub returns-then-is_at-clause-put : goal.returns-then-is_at-clause-put
returns-then-is_at-clause-put c =
    on_ok_weaker c.push.result (λ more. puts_behind c.args.loc.now c.args.write c.args.orders.now.items c.as_slice.result.now c.as_slice-2.result.now
    c.index-at.result c.index_mut.result.now c.push.new.self c.as_slice.ensures.value c.as_slice-2.ensures.value c.index-at.ensures.index
    (sym c.is_at.ensures ∙ c.if-is_at.true) c.index_mut.ensures.value more) c.push.ensures.pushed

pub returns-clause-put : goal.returns-clause-put
returns-clause-put c =
    let fits : SFits w64 c.args.loc.now = search rules in
    let inserted = simp to_z-of_z at c.in_ok-insert.ensures.items in
    inserted ∙ puts_first c.args.loc.now c.args.write c.args.orders.now.items c.as_slice.result.now c.as_slice-2.result.now c.index-at.result
    c.in_ok-writes.writes c.as_slice.ensures.value c.as_slice-2.ensures.value c.index-at.ensures.index
    (sym c.is_at.ensures ∙ c.if-is_at.false) c.in_ok-writes.ensures
