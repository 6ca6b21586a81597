-- Which failure was found among the outcomes of units.
use Rattle.std.specs.Prelude.{ℕ, ◌≡◌, ◌<◌, Bool, true, false, List, length, slice_get, Option, Some, None}
use Rattle.fsl_core.specs.declared.verdict.Outcome.{Outcome}
use Rattle.fsl_core.specs.declared.verdict.Outcome.TheVariants.{Derived, Fails}
use Rattle.fsl_check.specs.declared.failure.Failure.{Failure}

abbrev pub is_derived : Outcome → Bool
is_derived (Derived paths) = true
is_derived (Fails proc span kind) = false

abbrev pub is_some_derived : Option Outcome → Bool
is_some_derived (Some outcome) = is_derived outcome
is_some_derived None = false

-- whether the unit is one of these and is derived
abbrev pub derives : List Outcome → ℕ → Bool
derives outcomes unit = is_some_derived (slice_get outcomes unit)

-- `least` is the number of the failing unit that was found, or the number of units where none was
abbrev pub Finds : List Outcome → ℕ → Option Failure → Type 0
Finds outcomes least None = least ≡ length outcomes
Finds outcomes least (Some f) = (least ≡ f.unit) × (f.unit < length outcomes) × (slice_get outcomes f.unit ≡ Some (Fails f.proc f.span f.kind))
