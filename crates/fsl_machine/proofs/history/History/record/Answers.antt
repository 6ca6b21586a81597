use Rattle.std.proofs.Common.{◌≡◌, length, rules}
use Rattle.fsl_machine.specs.History.{Trace}
use Rattle.fsl_machine.proofs.HistoryLemmas.{record_keeps}
use Rattle.fsl_machine.proofs.history.History.record.Goals as goal

pub invariant_of-self-2 : goal.invariant_of-self-2
invariant_of-self-2 c =
    let t : Trace = record { events = c.self.inside.events.items; mo = c.self.inside.orders.items } in
    let number : c.len-number.result ≡ length c.reserve.new.self.items = search rules in
    record_keeps t c.args.self.now c.args.label c.self.inside.allocated c.self.inside.written c.from.result c.from-2.result c.len-number.result
    c.is_alloc-allocates.result c.is_write-writes.result c.reserve.new.self.items c.push.new.events.items c.as_slice.result.now
    c.order.new.orders.items c.source_of-from.result c.self.invariant c.requires.plain c.self.view_is c.requires.answered
    c.push.ensures c.in_ok-reserve.ensures.items c.source_of-from.ensures c.as_slice.ensures.value c.in_ok-order.ensures.ordered
    number c.from.ensures c.is_alloc-allocates.ensures c.from-2.ensures c.is_write-writes.ensures
