-- Parts of the rule of fences.
use Rattle.fsl_core.specs.declared.mode.Rung.{Rung}
use Rattle.fsl_core.specs.logic.States.{Env, Action, ◌>>◌, done}
use Rattle.fsl_core.specs.logic.Assertions.{Assertion}

-- an assertion is produced alone
abbrev pub part_produced : Rung → Env → Assertion → Action
part_produced rung env a = do
  a.produce rung env
  done
