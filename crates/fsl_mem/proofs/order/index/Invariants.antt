use Rattle.std.proofs.Common.{◌≡◌, ◌++◌, take, drop}
use Rattle.fsl_mem.specs.Slots.{insert_slot}
use Rattle.fsl_mem.proofs.order.index.Given as goal

abbrev pub invariant-loop-other : goal.invariant-loop-other
invariant-loop-other l = record {
  counted : l.index ≡ l.other-index;
  so_far : take l.other-index l.slots ++ insert_slot l.slot (drop l.other-index l.slots) ≡ insert_slot l.slot l.slots;
}
