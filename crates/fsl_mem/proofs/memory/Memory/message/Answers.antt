use Rattle.std.proofs.Common.{◌∙◌, ap, List, slice_get}
use Rattle.fsl_mem.specs.declared.message.Message.{Message}
use Rattle.fsl_mem.proofs.SlotsLemmas.{message_item}
use Rattle.fsl_mem.proofs.memory.Memory.message.Goals as goal

pub returns : goal.returns
returns c =
    rw (← c.self.view_is) (message_item c.self.inside.messages.items c.args.number
    ∙ rw c.as_slice.ensures.value at c.item.ensures)
