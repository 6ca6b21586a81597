-- Parts of programs whose paths are followed so far.
use Rattle.std.proofs.Common.{arith, ◌≡◌, ◌<◌, ℕ, zero, suc, Bool, true, List, [], ◌∷◌, length, get_or, sym, ◌∙◌}
use Rattle.std.specs.List.{list_all}
use Rattle.std.proofs.lemmas.Bool.{and_parts}
use Rattle.fsl_core.specs.declared.act.Act.TheFolds.{fold_out-Stmt}
use Rattle.fsl_core.specs.declared.act.Stmt.{Stmt}
use Rattle.fsl_core.specs.declared.declaration.Proc.{Proc}
use Rattle.fsl_core.specs.Programs.{Program}
use Rattle.fsl_flow.specs.Supported.{supported_step, is_supported_act, is_supported_stmt, are_supported, is_supported_proc, is_supported}

all_at : {X : Type 0} (f : X → Bool) (xs : List X) (i : ℕ) (x : X) → list_all f xs ≡ true → i < length xs → x ≡ get_or xs i x → f x ≡ true
all_at f [] i x h k e = absurd (omega arith)
all_at f (y ∷ ys) zero x h k e = rw e ((and_parts (f y) (list_all f ys) h).0)
all_at f (y ∷ ys) (suc i) x h k e = all_at f ys i x ((and_parts (f y) (list_all f ys) h).1) (omega arith) e

pub proc_supported : (p : Program) (i : ℕ) (q : Proc) → is_supported p ≡ true → i < length p.procs → q ≡ get_or p.procs i q → is_supported_proc q ≡ true
proc_supported p i q h k e = all_at is_supported_proc p.procs i q h k e

pub head_supported : (stmt : Stmt) (stmts : List Stmt) → are_supported (stmt ∷ stmts) ≡ true → is_supported_act stmt.act ≡ true
head_supported stmt stmts h = sym (fold_out-Stmt Bool Bool supported_step (λ s. s.act) stmt) ∙ (and_parts (is_supported_stmt stmt) (are_supported stmts) h).0

pub tail_supported : (stmt : Stmt) (stmts : List Stmt) → are_supported (stmt ∷ stmts) ≡ true → are_supported stmts ≡ true
tail_supported stmt stmts h = (and_parts (is_supported_stmt stmt) (are_supported stmts) h).1
