use denote.Param.Send.{sendable}
use Rattle.fsl_core.proofs.verdict.Outcome.TheSendSync.{the_field_sync as outcome_sync}
use Rattle.fsl_sound.proofs.Shared.{program_sync}
use Rattle.bench_workers.proofs.units.judged.Goals as goal

-- the units hold a program that is shared
pub check_all-requires-sync-W : goal.check_all-requires-sync-W
check_all-requires-sync-W g c κs within = let p = program_sync in let o = outcome_sync in search sendable depth 20
