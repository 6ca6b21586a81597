use Rattle.std.proofs.Common.{ap, sym, ◌∙◌}
use Rattle.fsl_machine.specs.Orders.{last_of}
use Rattle.fsl_machine.proofs.OrdersLemmas.{has_writes, has_no_writes}
use Rattle.fsl_machine.proofs.orders.last_write.Goals as goal

pub returns-then-is_at : goal.returns-then-is_at
returns-then-is_at c =
    let writes = has_writes c.args.loc.now c.args.orders.now c.index-at.result c.index-orders-at.result c.index-at.ensures.index
    (sym c.is_at.ensures ∙ c.if-is_at.true) in
    c.last_of.ensures ∙ ap last_of (c.as_slice.ensures ∙ sym writes)

pub returns-else-is_at : goal.returns-else-is_at
returns-else-is_at c =
    let none = has_no_writes c.args.loc.now c.args.orders.now c.index-at.result c.requires c.index-at.ensures.index
    (sym c.is_at.ensures ∙ c.if-is_at.false) in
    ap last_of (sym none)
