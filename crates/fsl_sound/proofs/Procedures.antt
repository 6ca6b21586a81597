-- The outcomes of a program's procedures, one for each, by their numbers.
use Rattle.std.proofs.Common.{arith, ◌≡◌, ◌<◌, ℕ, zero, suc, ◌+◌, List, [], ◌∷◌, length, Option, Some, None, slice_get, Result, Ok, Err, IfOk, refl, sym, ap, ◌∙◌}
use Rattle.std.specs.Option.{option_map}
use Rattle.fsl_core.specs.Programs.{Program}
use Rattle.fsl_core.specs.Verdicts.{End, outcome_from}
use Rattle.fsl_core.specs.declared.declaration.Proc.{Proc}
use Rattle.fsl_core.specs.declared.verdict.Outcome.{Outcome}
use Rattle.fsl_core.specs.logic.Paths.{ends_of}
use Rattle.fsl_core.specs.logic.Verdicts.{outcome_of, outcomes}

long : (ends : Proc → List End) (number : ℕ) (qs : List Proc) → length qs ≡ length (outcomes ends number qs)
long ends number [] = refl
long ends number (q ∷ qs) = let rest = long ends (number + 1) qs in omega (arith, rest)

pub as_many : (p : Program) (count : ℕ) → count ≡ length p.procs → count ≡ length (outcomes (ends_of p) 0 p.procs)
as_many p count h = h ∙ long (ends_of p) 0 p.procs

pub within : (p : Program) (unit : ℕ) → unit < length (outcomes (ends_of p) 0 p.procs) → unit < length p.procs
within p unit h = let all = long (ends_of p) 0 p.procs in omega (arith, all)

at : (ends : Proc → List End) (first unit number : ℕ) (qs : List Proc) (o : Outcome) → number ≡ first + unit
    → option_map (λ q. outcome_from number 0 (ends q)) (slice_get qs unit) ≡ Some o → slice_get (outcomes ends first qs) unit ≡ Some o
at ends first unit number [] o e h = cc
at ends first zero number (q ∷ qs) o e h =
    let same : first ≡ number = omega (arith, e) in ap (λ (n : ℕ). Some (outcome_from n 0 (ends q))) same ∙ h
at ends first (suc unit) number (q ∷ qs) o e h = at ends (first + 1) unit number qs o (omega (arith, e)) h

pub found : {E : Type 0} (p : Program) (unit : ℕ) (result : Result Outcome E)
    → IfOk result (λ o. option_map (outcome_of p unit) (slice_get p.procs unit) ≡ Some o)
    → IfOk result (λ o. slice_get (outcomes (ends_of p) 0 p.procs) unit ≡ Some o)
found p unit (Ok o) h = at (ends_of p) 0 unit unit p.procs o (omega arith) h
found p unit (Err e) h = tt
