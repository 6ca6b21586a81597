-- What a verdict comes with.
use Rattle.std.specs.Prelude.{◌≡◌}
use Rattle.fsl_core.specs.declared.verdict.Verdict.{Verdict}
use Rattle.fsl_core.specs.Programs.{Program}
use Rattle.fsl_core.specs.logic.Verdicts.{verdict_of}
use Rattle.fsl_derived.specs.Laws.{AcceptedIsSafe}

-- it is the verdict of the rules, and what the rules accept is safe
pub record IsJudged (p : Program) (v : Verdict) : Type 0 where
  pub is : v ≡ verdict_of p
  pub safe : AcceptedIsSafe p
