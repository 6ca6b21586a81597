-- The paths of a straight-line program are followed.
use Rattle.std.proofs.Common.{◌≡◌, ℕ, Bool, true, ◌&&◌, List, [], ◌∷◌, refl, sym, ap, ◌∙◌}
use Rattle.std.specs.List.{list_all}
use Rattle.std.proofs.lemmas.Bool.{and_parts}
use Rattle.fsl_core.specs.declared.act.Act.{Act}
use Rattle.fsl_core.specs.declared.act.Act.TheFolds.{fold-Stmt, fold_out-Act, fold_out-Stmt, map-Act}
use Rattle.fsl_core.specs.declared.act.Act.TheOpen.{Act-F}
use Rattle.fsl_core.specs.declared.act.Act.TheViews.{out-Act}
use Rattle.fsl_core.specs.declared.act.Stmt.{Stmt}
use Rattle.fsl_core.specs.declared.mode.Mode.TheVariants.{Na}
use Rattle.fsl_core.specs.declared.declaration.Proc.{Proc}
use Rattle.fsl_core.specs.Programs.{Program}
use Rattle.fsl_core.specs.Straight.{Test, straight_step, is_straight_act, is_straight_proc, is_one_straight, is_straight, is_empty}
use Rattle.fsl_flow.specs.Supported.{supported_step, is_supported_act, is_supported_stmt, are_supported, is_supported_proc, is_supported}

both : (a b : Bool) → a ≡ true → b ≡ true → (a && b) ≡ true
both a b h k = ap (λ (x : Bool). x && b) h ∙ k

act_layer : (f : Act → Test) (g : Stmt → Test) (h : Act → Bool) (k : Stmt → Bool) (a : Act-F Act Stmt) (slots : ℕ)
    → straight_step (map-Act Act Stmt Test Test f g a) slots ≡ true → supported_step (map-Act Act Stmt Bool Bool h k a) ≡ true
act_layer f g h k (Act-F.Set slot e) slots is = refl
act_layer f g h k (Act-F.AllocNa slot) slots is = refl
act_layer f g h k (Act-F.Load slot Na at) slots is = refl
act_layer f g h k (Act-F.Store Na at e) slots is = refl
act_layer f g h k (Act-F.Assert cond) slots is = refl
act_layer f g h k (Act-F.Print e) slots is = refl
act_layer f g h k _ slots is = cc

act_supported : (act : Act) (slots : ℕ) → is_straight_act act slots ≡ true → is_supported_act act ≡ true
act_supported act slots is =
    fold_out-Act Bool Bool supported_step (λ stmt. stmt.act) act
    ∙ act_layer is_straight_act (fold-Stmt Test Test straight_step (λ stmt. stmt.act)) is_supported_act is_supported_stmt (out-Act act) slots
    (sym (ap (λ (test : Test). test slots) (fold_out-Act Test Test straight_step (λ stmt. stmt.act) act)) ∙ is)

body_supported : (slots : ℕ) (body : List Stmt) → list_all (λ stmt. is_straight_act stmt.act slots) body ≡ true → are_supported body ≡ true
body_supported slots [] is = refl
body_supported slots (stmt ∷ stmts) is =
    let parts = and_parts (is_straight_act stmt.act slots) (list_all (λ s. is_straight_act s.act slots) stmts) is in
    both (is_supported_stmt stmt) (are_supported stmts)
    (fold_out-Stmt Bool Bool supported_step (λ s. s.act) stmt ∙ act_supported stmt.act slots parts.0) (body_supported slots stmts parts.1)

proc_supported : (q : Proc) → is_straight_proc q ≡ true → is_supported_proc q ≡ true
proc_supported q is = body_supported q.slots q.body (and_parts _ _ (and_parts _ _ is).0).1

procs_supported : (qs : List Proc) → is_one_straight qs ≡ true → list_all is_supported_proc qs ≡ true
procs_supported [] is = cc
procs_supported (q ∷ []) is = both _ _ (proc_supported q is) refl
procs_supported (q ∷ (r ∷ rs)) is = cc

pub supported : (p : Program) → is_straight p ≡ true → is_supported p ≡ true
supported p is = procs_supported p.procs (and_parts (is_empty p.invs) (is_one_straight p.procs) is).1
