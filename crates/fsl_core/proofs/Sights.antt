-- Scopes as lists of sights, and statements as their acts.
use Rattle.std.proofs.Common.{◌≡◌, ◌<◌, ◌++◌, ◌+◌, ℕ, zero, suc, List, [], ◌∷◌, length, take, drop, map, get_or, slice_set, ap, refl, arith}
use Rattle.fsl_core.specs.declared.act.Act.TheFolds.{fold_out-Stmt}
use Rattle.fsl_core.specs.declared.act.Stmt.{Stmt}
use Rattle.fsl_core.specs.declared.declaration.Proc.{Proc}
use Rattle.fsl_core.specs.declared.scope.Sight.{Sight}
use Rattle.fsl_core.specs.Scopes.{Scoped, act_step, stmt_step, act_scoped, stmt_scoped, kept}

-- a statement stands where its act does
pub stmt_is : (procs : List Proc) (stmt : Stmt) → stmt_scoped procs stmt ≡ act_scoped procs stmt.act
stmt_is procs stmt = fold_out-Stmt Scoped Scoped (act_step procs) stmt_step stmt

-- one more of the sights in the body
pub kept_more : (xs : List Sight) (k j : ℕ) (d : Sight) → k + 1 ≡ j → k < length xs
    → slice_set (map kept (take k xs) ++ drop k xs) k (kept (get_or xs k d)) ≡ map kept (take j xs) ++ drop j xs
kept_more [] k j d next h = absurd (omega arith)
kept_more (x ∷ xs) k zero d next h = absurd (omega arith)
kept_more (x ∷ xs) zero (suc zero) d next h = refl
kept_more (x ∷ xs) zero (suc (suc j)) d next h = absurd (omega arith)
kept_more (x ∷ xs) (suc k) (suc j) d next h = ap (λ ys. kept x ∷ ys) (kept_more xs k j d (omega arith) (omega arith))
