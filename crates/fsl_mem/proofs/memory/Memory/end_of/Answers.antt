use Rattle.fsl_mem.proofs.SlotsLemmas.{source_within}
use Rattle.fsl_mem.proofs.memory.Memory.end_of.Goals as goal

pub message-requires : goal.message-requires
message-requires c = source_within c.args.self.now.messages c.args.loc.now c.args.source.now _ c.in-Message.is c.requires
