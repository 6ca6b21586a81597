-- Outcomes by the ends of paths, and verdicts by outcomes: the first path that fails, and the first procedure.
use Rattle.std.specs.Prelude.{ℕ, ◌+◌, List, [], ◌∷◌, nat_lt, if◌then◌else◌}
use Rattle.fsl_base.specs.declared.span.Span.{Span}
use Rattle.fsl_core.specs.declared.verdict.Kind.{Kind}
use Rattle.fsl_core.specs.declared.verdict.Kind.TheVariants.{Paths}
use Rattle.fsl_core.specs.declared.verdict.Outcome.{Outcome}
use Rattle.fsl_core.specs.declared.verdict.Outcome.TheVariants.{Derived, Fails}
use Rattle.fsl_core.specs.declared.verdict.Verdict.{Verdict}
use Rattle.fsl_core.specs.declared.verdict.Verdict.TheVariants.{Accepted, Failed}

-- how a path ends, and where
pub data End : Type 0 where
  derived : Span → End
  failed : Span → Kind → End

-- the outcome by the ends, `n` of which came before: the first failure, or the 65537th end, which fails
-- `paths` unless it fails by itself
abbrev pub outcome_from : ℕ → ℕ → List End → Outcome
outcome_from proc n [] = Derived n
outcome_from proc n (derived at ∷ es) = if nat_lt n 65536 then outcome_from proc (n + 1) es else Fails proc at Paths
outcome_from proc n (failed at kind ∷ es) = Fails proc at kind

-- the verdict by the outcomes, `n` of which came before and were derived
abbrev pub verdict_from : ℕ → List Outcome → Verdict
verdict_from n [] = Accepted n
verdict_from n (Derived paths ∷ os) = verdict_from (n + 1) os
verdict_from n (Fails proc at kind ∷ os) = Failed proc at kind
