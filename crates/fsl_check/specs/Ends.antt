-- What all workers left.
use Rattle.std.specs.Prelude.{ℕ, ◌≡◌, List, All, length, map, Result, IfOk}
use Rattle.std.specs.declared.alloc.AllocError.{AllocError}
use Rattle.fsl_core.specs.declared.verdict.Outcome.{Outcome}
use Rattle.fsl_claim.specs.declared.claims.Claims.{Claims}
use Rattle.fsl_claim.specs.Claims.{view}
use Rattle.fsl_claim.specs.Views.{least_reported}
use Rattle.fsl_check.specs.declared.worker.Worker.{Worker}
use Rattle.fsl_check.specs.declared.check.Ended.{Ended}
use Rattle.fsl_check.specs.Failures.{Finds}
use Rattle.fsl_check.specs.Workers.{HasEnded, IsDone}

abbrev pub EndsWell : Claims → List Outcome → Result Worker AllocError → Type 0
EndsWell claims outcomes end = IfOk end (IsDone claims outcomes)

-- every worker found no unit left, and the failure kept is that of the least unit that any of them reported
pub record IsEnded (claims : Claims) (outcomes : List Outcome) (workers : ℕ) (ended : Ended) : Type 0 where
  pub each : All (HasEnded claims outcomes) ended.passes
  pub count : length ended.passes ≡ workers
  pub finds : Finds outcomes (least_reported (length outcomes) (map view ended.passes)) ended.failure
