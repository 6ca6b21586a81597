-- What a worker knows of the units that it drew.
use Rattle.std.specs.Prelude.{ℕ, ◌≡◌, ◌<◌, ◌⊎◌, true, false, List, length, Option, Some, None}
use Rattle.fsl_core.specs.declared.verdict.Outcome.{Outcome}
use Rattle.fsl_core.specs.declared.verdict.Outcome.TheVariants.{Derived, Fails}
use Rattle.fsl_claim.specs.declared.claims.Claims.{Claims}
use Rattle.fsl_claim.specs.declared.claims.Pass.{Pass}
use Rattle.fsl_claim.specs.declared.view.View.{View}
use Rattle.fsl_claim.specs.Claims.{view, IsPassOf}
use Rattle.fsl_claim.specs.Views.{times, least_of}
use Rattle.fsl_claim.specs.Steps.{told}
use Rattle.fsl_check.specs.declared.failure.Failure.{Failure}
use Rattle.fsl_check.specs.declared.worker.Worker.{Worker}
use Rattle.fsl_check.specs.Failures.{derives, Finds}

-- the view after a unit was done
abbrev pub noted : View → ℕ → Outcome → View
noted v unit (Derived paths) = v
noted v unit (Fails proc span kind) = told v unit

abbrev pub failure_after : Option Failure → ℕ → Outcome → Option Failure
failure_after before unit (Derived paths) = before
failure_after before unit (Fails proc span kind) = Some record { unit = unit; proc = proc; span = span; kind = kind }

-- each unit drawn is derived, or was reported, or is above a unit that was seen reported
abbrev pub Covers : List Outcome → View → Type 0
Covers outcomes v = (unit : ℕ) → 0 < times unit v.drawn → (derives outcomes unit ≡ true) ⊎ (0 < times unit v.reported) ⊎ (v.seen < unit)

-- the pass of a worker that found no unit left
pub record HasEnded (claims : Claims) (outcomes : List Outcome) (pass : Pass) : Type 0 where
  pub of_claims : IsPassOf claims pass
  pub ended : (view pass).ended ≡ 1
  pub covers : Covers outcomes (view pass)

-- such a worker, which kept the failure of the least unit that it reported
pub record IsDone (claims : Claims) (outcomes : List Outcome) (worker : Worker) : Type 0 where
  pub pass : HasEnded claims outcomes worker.pass
  pub finds : Finds outcomes (least_of (length outcomes) (view worker.pass).reported) worker.failure
