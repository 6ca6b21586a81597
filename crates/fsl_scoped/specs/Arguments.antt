-- What a run passes to a procedure is what the path passes, as far as the procedure's code reads it; and still once
-- `requires` has set its binders.
use Rattle.std.specs.Prelude.{◌≡◌, true, false, List, length, Some, ℤ}
use Rattle.fsl_core.specs.declared.declaration.Proc.{Proc}
use Rattle.fsl_core.specs.declared.expr.Expr.{Expr}
use Rattle.fsl_core.specs.declared.mode.Rung.{Rung}
use Rattle.fsl_core.specs.declared.scope.Scope.{Scope}
use Rattle.fsl_core.specs.Moves.{arguments_from}
use Rattle.fsl_core.specs.Scopes.{Sees, arguments_fit, behind_requires, in_body, proc_is_scoped}
use Rattle.fsl_meaning.specs.Heaps.{Truth}
use Rattle.fsl_meaning.specs.Means.{padded_numbers}
use Rattle.fsl_asserted.specs.Exact.{exact_all}
use Rattle.fsl_asserted.specs.Needs.{Need, asks}

abbrev pub ArgumentsAreExact : Type 0
ArgumentsAreExact =
    (procs : List Proc) (q : Proc) (scope : Scope) (args : List Expr) (env slots vs : List ℤ) → proc_is_scoped procs q ≡ true
    → scope.in_ensures ≡ false → length args ≡ q.params → arguments_fit scope q.banks 0 args ≡ true → Sees scope env slots
    → arguments_from q.banks 0 args env ≡ Some vs
    → (length vs ≡ q.params) × Sees (in_body (behind_requires q)) (padded_numbers q.slots vs) (padded_numbers q.slots (exact_all args slots))

abbrev pub StartsAreSeen : Type 0
StartsAreSeen =
    (procs : List Proc) (q : Proc) (scope : Scope) (args : List Expr) (env slots vs : List ℤ) (t : Truth) (rung : Rung) (n : Need)
    → proc_is_scoped procs q ≡ true → scope.in_ensures ≡ false → length args ≡ q.params → arguments_fit scope q.banks 0 args ≡ true
    → Sees scope env slots → arguments_from q.banks 0 args env ≡ Some vs
    → asks t q.pre rung (padded_numbers q.slots (exact_all args slots)) ≡ Some n
    → (length vs ≡ q.params) × Sees (in_body (behind_requires q)) (padded_numbers q.slots vs) n.env
