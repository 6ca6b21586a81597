-- Statements with blocks inside: they fit where the statements of the blocks do.
use Rattle.std.proofs.Common.{◌≡◌, List, [], ◌∷◌, map, Bool, true, ◌&&◌, refl, sym, ap, ◌∙◌}
use Rattle.std.specs.List.{list_all}
use Rattle.fsl_core.specs.Programs.{Program}
use Rattle.fsl_core.specs.declared.act.Act.TheOpen.{Act-F}
use Rattle.fsl_core.specs.declared.act.Act.TheFolds.{fold-Stmt, fold_out-Stmt, fold-roll-Act}
use Rattle.fsl_core.specs.declared.act.Act.TheViews.{If, While, rolls-If, rolls-While}
use Rattle.fsl_core.specs.declared.act.Stmt.{Stmt}
use Rattle.fsl_core.specs.declared.assertion.Asrt.{Asrt}
use Rattle.fsl_core.specs.declared.expr.Cond.{Cond}
use Rattle.fsl_core.specs.WellFormed.{asrt_fits, act_step, act_fits, stmt_fits}

abbrev folded : Program → Stmt → Bool
folded p = fold-Stmt Bool Bool (act_step p) (λ stmt. stmt.act)

block_of : (p : Program) (stmts : List Stmt) → list_all (λ stmt. stmt) (map (folded p) stmts) ≡ list_all (stmt_fits p) stmts
block_of p [] = refl
block_of p (stmt ∷ stmts) =
    ap (λ fits. fits && list_all (λ stmt. stmt) (map (folded p) stmts)) (fold_out-Stmt Bool Bool (act_step p) (λ s. s.act) stmt)
    ∙ ap (λ fit. stmt_fits p stmt && fit) (block_of p stmts)

pub of_if : (p : Program) (cond : Cond) (a b : List Stmt)
    → act_fits p (If cond a b) ≡ (list_all (stmt_fits p) a && list_all (stmt_fits p) b)
of_if p cond a b =
    ap (act_fits p) (sym (rolls-If cond a b))
    ∙ fold-roll-Act Bool Bool (act_step p) (λ stmt. stmt.act) (Act-F.If cond a b)
    ∙ ap (λ fit. fit && list_all (λ stmt. stmt) (map (folded p) b)) (block_of p a)
    ∙ ap (λ fit. list_all (stmt_fits p) a && fit) (block_of p b)

pub of_while : (p : Program) (cond : Cond) (inv : Asrt) (body : List Stmt)
    → act_fits p (While cond inv body) ≡ (asrt_fits p.invs inv true && list_all (stmt_fits p) body)
of_while p cond inv body =
    ap (act_fits p) (sym (rolls-While cond inv body))
    ∙ fold-roll-Act Bool Bool (act_step p) (λ stmt. stmt.act) (Act-F.While cond inv body)
    ∙ ap (λ fit. asrt_fits p.invs inv true && fit) (block_of p body)
