-- What the workers left, put together one worker after another.
use Rattle.std.proofs.Common.{◌≡◌, ℕ, ◌+◌, ◌<◌, ◌≤◌, min, List, [], ◌∷◌, ◌++◌, length, map, All, Option, Some, None, Result, Ok, IfOk, refl, sym, ap, subst, ◌∙◌, arith, length-append}
use Rattle.std.specs.declared.alloc.AllocError.{AllocError}
use mathlib.Core.List.{map-append}
use Rattle.std.proofs.lemmas.List.Elements.{All-pop, All-push, All-nil}
use Rattle.fsl_core.specs.declared.verdict.Outcome.{Outcome}
use Rattle.fsl_claim.specs.declared.claims.Claims.{Claims}
use Rattle.fsl_claim.specs.declared.claims.Pass.{Pass}
use Rattle.fsl_claim.specs.declared.view.View.{View}
use Rattle.fsl_claim.specs.Claims.{view}
use Rattle.fsl_claim.specs.Views.{lowest, least_of, least_reported}
use Rattle.fsl_claim.proofs.Sums.{lowest_last}
use Rattle.fsl_check.specs.declared.failure.Failure.{Failure}
use Rattle.fsl_check.specs.declared.worker.Worker.{Worker}
use Rattle.fsl_check.specs.Failures.{Finds}
use Rattle.fsl_check.specs.Workers.{HasEnded, IsDone}
use Rattle.fsl_check.specs.Ends.{EndsWell}

pub record EndsSoFar (claims : Claims) (outcomes : List Outcome) (workers : ℕ) (left : List (Result Worker AllocError)) (passes : List Pass) (failure : Option Failure) : Type 0 where
  pub well : All (EndsWell claims outcomes) left
  pub each : All (HasEnded claims outcomes) passes
  pub count : length passes + length left ≡ workers
  pub finds : Finds outcomes (least_reported (length outcomes) (map view passes)) failure

pub begins : (claims : Claims) (outcomes : List Outcome) (left : List (Result Worker AllocError)) → All (EndsWell claims outcomes) left → EndsSoFar claims outcomes (length left) left [] None
begins claims outcomes left well = record { well = well; each = All-nil (HasEnded claims outcomes); count = omega arith; finds = refl }

pub goes_on : (claims : Claims) (outcomes : List Outcome) (workers : ℕ) (left fewer : List (Result Worker AllocError)) (passes more : List Pass) (failure after : Option Failure) (worker : Worker) → EndsSoFar claims outcomes workers left passes failure
    → left ≡ fewer ++ Ok worker ∷ [] → more ≡ passes ++ worker.pass ∷ []
    → ((given : List Outcome) (low high : ℕ) → Finds given low failure → Finds given high worker.failure → Finds given (min low high) after)
    → EndsSoFar claims outcomes workers fewer more after
goes_on claims outcomes workers left fewer passes more failure after worker now is pushed finds =
    let split = All-pop (EndsWell claims outcomes) left fewer (Some (Ok worker)) is now.well in
    let done : IsDone claims outcomes worker = split.1 in
    let count = now.count in
    let fewer_by : length left ≡ length fewer + 1 = ap length is ∙ length-append fewer (Ok worker ∷ []) in
    let more_by : length more ≡ length passes + 1 = ap length pushed ∙ length-append passes (worker.pass ∷ []) in
    let views : map view more ≡ map view passes ++ view worker.pass ∷ [] = ap (map view) pushed ∙ map-append view passes (worker.pass ∷ []) in
    let last = lowest_last (λ v. least_of (length outcomes) v.reported) (length outcomes) (map view passes) (view worker.pass) in
    let least : min (least_reported (length outcomes) (map view passes)) (least_of (length outcomes) (view worker.pass).reported) ≡ least_reported (length outcomes) (map view more) =
    (let l : least_reported (length outcomes) (map view more) ≡ least_reported (length outcomes) (map view passes ++ view worker.pass ∷ []) = ap (least_reported (length outcomes)) views in omega (arith, l, last)) in
    record {
      well = split.0;
      each = subst (All (HasEnded claims outcomes)) (sym pushed) (All-push (HasEnded claims outcomes) passes worker.pass now.each done.pass);
      count = omega (arith, count, fewer_by, more_by);
      finds = subst (λ (n : ℕ). Finds outcomes n after) least (finds outcomes _ _ now.finds done.finds);
    }
