-- What scopes promise of statements: they set what they may alone, so nothing of their contract, nothing that is kept
-- and no bank that is there; and what is local was set in front, so a loop renews it (`renew` in logic/Slots.antt).
use Rattle.std.specs.Prelude.{ℕ, Bool, ◌≡◌, ◌<◌, true, List, map}
use Rattle.std.specs.List.{list_all}
use Rattle.fsl_core.specs.declared.act.Stmt.{Stmt}
use Rattle.fsl_core.specs.declared.declaration.Proc.{Proc}
use Rattle.fsl_core.specs.declared.scope.Scope.{Scope}
use Rattle.fsl_core.specs.declared.scope.Sight.TheVariants as sight
use Rattle.fsl_core.specs.Scopes.{is_settable, sight_at, block_scoped, scope_after}
use Rattle.fsl_core.specs.logic.Paths.{Reading, stmt_of, all_sets}
use Rattle.fsl_core.specs.logic.Slots.{past}

abbrev pub are_settable : Scope → List ℕ → Bool
are_settable scope = list_all (λ slot. is_settable (sight_at scope slot))

abbrev pub BlocksSetTheirOwn : Type 0
BlocksSetTheirOwn =
    (procs : List Proc) (r : Reading) (stmts : List Stmt) (scope : Scope) → (block_scoped procs stmts).fits scope ≡ true
    → are_settable scope (all_sets (map (stmt_of r) stmts)) ≡ true

-- each local variable is among the first n
abbrev pub AreDeclared : Scope → ℕ → Type 0
AreDeclared scope n = (slot : ℕ) → sight_at scope slot ≡ sight.Local → slot < n

abbrev pub LocalsAreDeclared : Type 0
LocalsAreDeclared =
    (procs : List Proc) (r : Reading) (stmt : Stmt) (scope : Scope) (n : ℕ) → AreDeclared scope n
    → AreDeclared (scope_after procs stmt scope) (past n (stmt_of r stmt).sets)
