-- What scopes promise of values: what reads the numbers alone that are visible comes to the same, wherever two
-- environments agree on these.
use Rattle.std.specs.Prelude.{ℕ, ◌≡◌, true, List, ℤ}
use Rattle.fsl_core.specs.declared.expr.Cond.{Cond}
use Rattle.fsl_core.specs.declared.expr.Expr.{Expr}
use Rattle.fsl_core.specs.declared.scope.Scope.{Scope}
use Rattle.fsl_core.specs.Moves.{arguments_from}
use Rattle.fsl_core.specs.Scopes.{Sees, reads, tests, arguments_fit}
use Rattle.fsl_core.specs.Values.{value_of, holds_of}

abbrev pub ExpressionsAreSeen : Type 0
ExpressionsAreSeen =
    (scope : Scope) (env slots : List ℤ) → Sees scope env slots
    → (e : Expr) → reads scope e ≡ true → value_of e env ≡ value_of e slots

abbrev pub ConditionsAreSeen : Type 0
ConditionsAreSeen =
    (scope : Scope) (env slots : List ℤ) → Sees scope env slots
    → (c : Cond) → tests scope c ≡ true → holds_of c env ≡ holds_of c slots

-- arguments for the parameters from `slot` on, of a procedure with these banks
abbrev pub ArgumentsAreSeen : Type 0
ArgumentsAreSeen =
    (scope : Scope) (env slots : List ℤ) → Sees scope env slots
    → (banks : List ℕ) (slot : ℕ) (args : List Expr) → arguments_fit scope banks slot args ≡ true
    → arguments_from banks slot args env ≡ arguments_from banks slot args slots
