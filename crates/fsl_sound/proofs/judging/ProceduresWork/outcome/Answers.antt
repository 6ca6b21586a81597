use Rattle.fsl_sound.proofs.Procedures.{within}
use Rattle.fsl_sound.proofs.judging.ProceduresWork.outcome.Goals as goal

pub outcome-requires-clause-in_range : goal.outcome-requires-clause-in_range
outcome-requires-clause-in_range c = within c.args.self.now.program.now c.args.unit c.requires
