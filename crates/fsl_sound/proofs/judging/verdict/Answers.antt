use denote.Param.Send.{sendable}
use Rattle.fsl_sound.proofs.Shared.{program_sync}
use Rattle.fsl_sound.proofs.judging.verdict.Goals as goal

-- the procedures hold a program that is shared
pub check_all-requires-sync-W : goal.check_all-requires-sync-W
check_all-requires-sync-W g c κs within = let p = program_sync in search sendable depth 20
