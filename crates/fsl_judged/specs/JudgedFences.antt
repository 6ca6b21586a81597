-- Programs with relaxed accesses and fences, and what becomes of each.
use Rattle.std.specs.Prelude.{◌≡◌}
use Rattle.fsl_core.specs.declared.verdict.Kind.TheVariants as kind
use Rattle.fsl_core.specs.declared.verdict.Verdict.TheVariants.{Accepted, Failed}
use Rattle.fsl_core.specs.logic.Verdicts.{verdict_of}
use Rattle.fsl_judged.specs.Words.{span}
use Rattle.fsl_judged.specs.ExampleFences.{relaxed_store, no_acquire_fence, binder_anew, by_fences}

pub record FencesAreJudged : Type 0 where
  pub relaxed_store_is : verdict_of relaxed_store ≡ Failed 0 (span 135 151) kind.Points
  pub no_acquire_fence_is : verdict_of no_acquire_fence ≡ Failed 1 (span 389 408) kind.Points
  pub binder_anew_is : verdict_of binder_anew ≡ Failed 0 (span 99 115) kind.Value
  pub by_fences_is : verdict_of by_fences ≡ Accepted 3
