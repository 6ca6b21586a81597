-- The laws of the walk that a clause can say.
use Rattle.std.specs.Prelude.{ℕ, List, ℤ, slice_set}
use Rattle.fsl_core.specs.declared.scope.Scope.{Scope}
use Rattle.fsl_core.specs.declared.scope.Sight.{Sight}
use Rattle.fsl_core.specs.Scopes.{with_sight}
use Rattle.fsl_walk.specs.Stances.{Matches}

-- a variable that is set on both sides is seen the same, whatever it was
abbrev pub SeesAreSame : Type 0
SeesAreSame = (scope : Scope) (env slots : List ℤ) (slot : ℕ) (sight : Sight) (x : ℤ) → Matches scope env slots → Matches (with_sight slot sight scope) (slice_set env slot x) (slice_set slots slot x)
