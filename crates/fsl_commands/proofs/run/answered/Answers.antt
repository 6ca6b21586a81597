use Rattle.fsl_commands.proofs.RunLemmas.{run_is, not_read_is}
use Rattle.fsl_commands.proofs.run.answered.Goals as goal

pub returns-in-Ok : goal.returns-in-Ok
returns-in-Ok g c = run_is _ _ c.in-Ok.loaded.bytes c.in-Ok.loaded.program c.in-Ok.ensures.program c.judged.result c.judged.ensures

pub returns-in-Err : goal.returns-in-Err
returns-in-Err g c = not_read_is _ _ c.in-Err.unread c.in-Err.ensures.cause c.refused.result c.refused.ensures
