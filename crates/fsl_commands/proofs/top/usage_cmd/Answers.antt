use Rattle.fsl_commands.specs.Answer.{written}
use Rattle.fsl_commands.proofs.top.usage_cmd.Goals as goal

pub returns-in-Ok : goal.returns-in-Ok
returns-in-Ok g c = written c.in-Ok.answer c.in-Ok.ensures c.say.ensures
