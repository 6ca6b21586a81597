-- Programs that the rules support so far, as a fact that workers pass on without opening it.
use Rattle.std.specs.Prelude.{IsTrue}
use Rattle.fsl_core.specs.Programs.{Program}
use Rattle.fsl_flow.specs.Supported.{is_supported}

pub record IsSupported (p : Program) : Type 0 where
  pub supported : IsTrue (is_supported p)
