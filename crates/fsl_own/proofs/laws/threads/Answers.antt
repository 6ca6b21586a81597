use Rattle.fsl_own.proofs.Telling.{fork_tells, join_tells, await_tells}
use Rattle.fsl_own.proofs.laws.threads.Goals as goal

pub returns : goal.returns
returns c = record { fork = fork_tells; join = join_tells; waits = await_tells }
