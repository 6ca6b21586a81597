-- The programs that a command supports so far: `check` those whose paths are followed, `run` those that the machine runs.
use Rattle.std.specs.Prelude.{Bool}
use Rattle.fsl_core.specs.Programs.{Program}
use Rattle.fsl_core.specs.Straight.{is_straight}
use Rattle.fsl_flow.specs.Supported.{is_supported}
use Rattle.fsl_commands.specs.declared.command.Command.{Command}
use Rattle.fsl_commands.specs.declared.command.Command.TheVariants.{Check, Run}

abbrev pub supports : Command → Program → Bool
supports Check p = is_supported p
supports Run p = is_straight p
