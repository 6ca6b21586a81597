-- A run's values are whole numbers within a range, those of a path have none: where the run has a value, both are the
-- same, and so where the path knows the visible numbers alone.
use Rattle.std.specs.Prelude.{◌≡◌, Bool, true, List, Some, ℤ}
use Rattle.fsl_core.specs.declared.expr.Cond.{Cond}
use Rattle.fsl_core.specs.declared.expr.Expr.{Expr}
use Rattle.fsl_core.specs.declared.scope.Scope.{Scope}
use Rattle.fsl_core.specs.Scopes.{Sees, reads, tests}
use Rattle.fsl_core.specs.Values.{value_of, holds_of}
use Rattle.fsl_asserted.specs.Exact.{exact, exact_cond}

abbrev pub ValuesAreExact : Type 0
ValuesAreExact = (e : Expr) (xs : List ℤ) (x : ℤ) → value_of e xs ≡ Some x → exact e xs ≡ x

abbrev pub ConditionsAreExact : Type 0
ConditionsAreExact = (c : Cond) (xs : List ℤ) (b : Bool) → holds_of c xs ≡ Some b → exact_cond c xs ≡ b

-- together with what is seen: the run's value is the path's number
abbrev pub ReadsAreExact : Type 0
ReadsAreExact =
    (scope : Scope) (env slots : List ℤ) → Sees scope env slots
    → (e : Expr) (x : ℤ) → reads scope e ≡ true → value_of e env ≡ Some x → exact e slots ≡ x

abbrev pub TestsAreExact : Type 0
TestsAreExact =
    (scope : Scope) (env slots : List ℤ) → Sees scope env slots
    → (c : Cond) (b : Bool) → tests scope c ≡ true → holds_of c env ≡ Some b → exact_cond c slots ≡ b
