use Rattle.fsl_commands.proofs.CheckLemmas.{judged_is, refused_is}
use Rattle.fsl_commands.proofs.check.checked.Goals as goal

pub returns-in-Ok : goal.returns-in-Ok
returns-in-Ok g c = judged_is _ c.in-Ok.loaded.bytes c.in-Ok.loaded.program c.in-Ok.ensures.program c.judged.result c.judged.ensures

pub returns-in-Err : goal.returns-in-Err
returns-in-Err g c = refused_is _ c.in-Err.unread c.in-Err.ensures.cause c.refused.result c.refused.ensures
