-- Programs over cells that are well formed and accepted by computing.
use Rattle.std.proofs.Common.{◌≡◌, ℕ, Bool, true, false, ◌&&◌, List, [], ◌∷◌, map, pos, codes, refl, sym, ap, ◌∙◌, subst}
use Rattle.std.specs.List.{list_all}
use Rattle.std.proofs.lemmas.Bool.{and_from}
use Rattle.fsl_base.specs.declared.span.Span.{Span}
use Rattle.fsl_lin.specs.Numbers.{most}
use Rattle.fsl_core.specs.declared.act.Act.{Act}
use Rattle.fsl_core.specs.declared.act.Act.TheFolds.{fold-Act, fold-Stmt, fold_out-Stmt, fold-roll-Act, map-Act}
use Rattle.fsl_core.specs.declared.act.Act.TheOpen.{Act-F}
use Rattle.fsl_core.specs.declared.act.Act.TheViews.{roll-Act, out-Act}
use Rattle.fsl_core.specs.declared.act.Stmt.{Stmt}
use Rattle.fsl_core.specs.declared.assertion.Asrt.TheFolds.{fold-roll-Asrt}
use Rattle.fsl_core.specs.declared.assertion.Asrt.TheOpen.{Asrt-F}
use Rattle.fsl_core.specs.declared.assertion.Asrt.TheViews.{roll-Asrt, out-Asrt}
use Rattle.fsl_core.specs.declared.declaration.Inv.{Inv}
use Rattle.fsl_core.specs.declared.declaration.Proc.{Proc}
use Rattle.fsl_core.specs.declared.expr.Expr.TheBlock.{shown-the_row-Expr-2}
use Rattle.fsl_core.specs.declared.expr.Expr.TheFolds.{fold-roll-Expr}
use Rattle.fsl_core.specs.declared.expr.Expr.TheOpen.{Expr-F}
use Rattle.fsl_core.specs.declared.expr.Expr.TheViews.{roll-Expr, out-Expr}
use Rattle.fsl_core.specs.declared.mode.Mode.TheVariants.{Na}
use Rattle.fsl_core.specs.declared.scope.Scope.{Scope}
use Rattle.fsl_core.specs.declared.scope.Sight.TheVariants as sight
use Rattle.fsl_core.specs.declared.verdict.Verdict.TheVariants.{Accepted}
use Rattle.fsl_core.specs.Programs.{Program}
use Rattle.fsl_core.specs.Scopes.{Scoped, still, all_fit, is_number, sight_at, with_sight, in_body, nothing_declared, has_room, in_ensures, proc_is_scoped}
use Rattle.fsl_core.specs.Scopes.{reads, reads_step, part_reads_step, asrt_scoped, stmt_step, act_scoped, stmt_scoped, block_scoped}
use Rattle.fsl_core.specs.Scopes as scopes
use Rattle.fsl_core.specs.Straight.{is_emp, emp_step}
use Rattle.fsl_core.specs.WellFormed.{Test, asrt_step, asrt_fits, act_step, act_fits, stmt_fits, proc_fits, proc_is_well, is_startable, main_among, is_well_formed, child_fits}
use Rattle.fsl_core.specs.logic.Verdicts.{verdict_by, verdict_of}
use Rattle.fsl_core.proofs.Sights.{stmt_is}
use Rattle.fsl_judged.specs.Words.{Act-Layer, num, var, nothing, at, thread, span, proc}
use Rattle.fsl_judged.proofs.Quick.{quick_ends, verdict_quick}
use Rattle.fsl_derived.specs.Examples.{cell_body, one_cell, two_calls, two_threads, ExamplesAreSafe}
use Rattle.fsl_derived.proofs.Safety.{accepted_are_safe}

-- ---- one level of each

fits_at : (p : Program) (from to : ℕ) (l : Act-Layer) → stmt_fits p (at from to l) ≡ act_step p (map-Act Act Stmt Bool Bool (act_fits p) (fold-Stmt Bool Bool (act_step p) (λ stmt. stmt.act)) l)
fits_at p from to l = fold-roll-Act Bool Bool (act_step p) (λ stmt. stmt.act) l

scoped_at : (procs : List Proc) (from to : ℕ) (l : Act-Layer) → stmt_scoped procs (at from to l) ≡ scopes.act_step procs (map-Act Act Stmt Scoped Scoped (act_scoped procs) (stmt_scoped procs) l)
scoped_at procs from to l = stmt_is procs (at from to l) ∙ fold-roll-Act Scoped Scoped (scopes.act_step procs) stmt_step l

reads_var : (scope : Scope) (slot : ℕ) → reads scope (var slot) ≡ is_number (sight_at scope slot)
reads_var scope slot = fold-roll-Expr Bool Bool (reads_step scope) part_reads_step (Expr-F.Var slot)

reads_num : (scope : Scope) (n : ℕ) → reads scope (num n) ≡ true
reads_num scope n = fold-roll-Expr Bool Bool (reads_step scope) part_reads_step (Expr-F.Const (pos n))

empty_fits : (invs : List Inv) (modal : Bool) → asrt_fits invs nothing modal ≡ true
empty_fits invs modal = ap (λ (f : Test). f modal) (fold-roll-Asrt Test (asrt_step invs) Asrt-F.Emp)

empty_scoped : asrt_scoped nothing ≡ still (λ scope. true)
empty_scoped = fold-roll-Asrt Scoped scopes.asrt_step Asrt-F.Emp

empty_is : is_emp nothing ≡ true
empty_is = fold-roll-Asrt Bool emp_step Asrt-F.Emp

-- ---- procedures without contracts

empty_proc_fits : (p : Program) (name : List ℕ) (slots : ℕ) (body : List Stmt) (last : Span) → list_all (stmt_fits p) body ≡ true
    → proc_fits p (proc name 0 slots [] nothing nothing body last) ≡ true
empty_proc_fits p name slots body last fits =
    and_from (asrt_fits p.invs nothing true) (asrt_fits p.invs nothing true && list_all (stmt_fits p) body) (empty_fits p.invs true)
    (and_from (asrt_fits p.invs nothing true) (list_all (stmt_fits p) body) (empty_fits p.invs true) fits)

empty_proc_scoped : (procs : List Proc) (name : List ℕ) (slots : ℕ) (body : List Stmt) (last : Span) → has_room (proc name 0 slots [] nothing nothing body last) ≡ true
    → (block_scoped procs body).fits (in_body (nothing_declared slots)) ≡ true → proc_is_scoped procs (proc name 0 slots [] nothing nothing body last) ≡ true
empty_proc_scoped procs name slots body last room fits =
    let q = proc name 0 slots [] nothing nothing body last in
    let scope = nothing_declared slots in
    subst (λ (e : Scoped). (has_room q && (e.fits scope && (e.fits (in_ensures (e.behind scope)) && (block_scoped procs body).fits (in_body (e.behind scope))))) ≡ true)
    (sym empty_scoped) (and_from (has_room q) ((block_scoped procs body).fits (in_body scope)) room fits)

three : {X : Type 0} (f : X → Bool) (a b c : X) → f a ≡ true → f b ≡ true → f c ≡ true → list_all f (a ∷ b ∷ c ∷ []) ≡ true
three f a b c x y z = and_from (f a) (f b && (f c && true)) x (and_from (f b) (f c && true) y (and_from (f c) true z refl))

two : {X : Type 0} (f : X → Bool) (a b : X) → f a ≡ true → f b ≡ true → list_all f (a ∷ b ∷ []) ≡ true
two f a b x y = and_from (f a) (f b && true) x (and_from (f b) true y refl)

one : {X : Type 0} (f : X → Bool) (a : X) → f a ≡ true → list_all f (a ∷ []) ≡ true
one f a x = and_from (f a) true x refl

-- ---- the cell

cell_fits : (p : Program) → list_all (stmt_fits p) cell_body ≡ true
cell_fits p =
    three (stmt_fits p) (at 14 31 (Act-F.AllocNa 0)) (at 32 47 (Act-F.Store Na (var 0) (num 7))) (at 48 67 (Act-F.Load 1 Na (var 0)))
    (fits_at p 14 31 (Act-F.AllocNa 0)) (fits_at p 32 47 (Act-F.Store Na (var 0) (num 7))) (fits_at p 48 67 (Act-F.Load 1 Na (var 0)))

-- where the cell is declared
abbrev declared : Scope
declared = with_sight 0 sight.Local (in_body (nothing_declared 2))

cell_reads : reads declared (var 0) ≡ true
cell_reads = reads_var declared 0

cell_scoped : (procs : List Proc) → (block_scoped procs cell_body).fits (in_body (nothing_declared 2)) ≡ true
cell_scoped procs =
    subst (λ (xs : List Scoped). all_fit xs (in_body (nothing_declared 2)) ≡ true) (sym levels)
    (and_from (reads declared (var 0) && reads declared (num 7)) (reads declared (var 0) && true)
    (and_from (reads declared (var 0)) (reads declared (num 7)) cell_reads (reads_num declared 7)) (and_from (reads declared (var 0)) true cell_reads refl))
  where
    levels : map (stmt_scoped procs) cell_body
        ≡ scopes.act_step procs (Act-F.AllocNa 0) ∷ scopes.act_step procs (Act-F.Store Na (var 0) (num 7)) ∷ scopes.act_step procs (Act-F.Load 1 Na (var 0)) ∷ []
    levels = λ j. scoped_at procs 14 31 (Act-F.AllocNa 0) j ∷ scoped_at procs 32 47 (Act-F.Store Na (var 0) (num 7)) j ∷ scoped_at procs 48 67 (Act-F.Load 1 Na (var 0)) j ∷ []

cell_is_well : (p : Program) (name : List ℕ) → proc_is_well p (proc name 0 2 [] nothing nothing cell_body (span 68 69)) ≡ true
cell_is_well p name =
    let q = proc name 0 2 [] nothing nothing cell_body (span 68 69) in
    and_from (proc_fits p q) (proc_is_scoped p.procs q) (empty_proc_fits p name 2 cell_body (span 68 69) (cell_fits p))
    (empty_proc_scoped p.procs name 2 cell_body (span 68 69) refl (cell_scoped p.procs))

one_cell_well : is_well_formed one_cell ≡ true
one_cell_well =
    and_from (list_all (proc_is_well one_cell) one_cell.procs) (is_startable (main_among one_cell.procs))
    (one (proc_is_well one_cell) (proc (codes "main") 0 2 [] nothing nothing cell_body (span 68 69)) (cell_is_well one_cell (codes "main"))) empty_is

-- ---- two threads

abbrev both_stmts : List Stmt
both_stmts = at 84 107 (Act-F.Par two_calls) ∷ []

abbrev main_proc : Proc
main_proc = proc (codes "main") 0 0 [] nothing nothing both_stmts (span 108 109)

child_is_fit : child_fits two_threads (thread 0 []) ≡ true
child_is_fit = and_from (asrt_fits [] nothing false) (asrt_fits [] nothing false) (empty_fits [] false) (empty_fits [] false)

main_fits : list_all (stmt_fits two_threads) both_stmts ≡ true
main_fits =
    one (stmt_fits two_threads) (at 84 107 (Act-F.Par two_calls))
    (fits_at two_threads 84 107 (Act-F.Par two_calls) ∙ two (child_fits two_threads) (thread 0 []) (thread 0 []) child_is_fit child_is_fit)

main_scoped : (block_scoped two_threads.procs both_stmts).fits (in_body (nothing_declared 0)) ≡ true
main_scoped =
    subst (λ (x : Scoped). all_fit (x ∷ []) (in_body (nothing_declared 0)) ≡ true) (sym (scoped_at two_threads.procs 84 107 (Act-F.Par two_calls))) refl

main_is_well : proc_is_well two_threads main_proc ≡ true
main_is_well =
    and_from (proc_fits two_threads main_proc) (proc_is_scoped two_threads.procs main_proc)
    (empty_proc_fits two_threads (codes "main") 0 both_stmts (span 108 109) main_fits) (empty_proc_scoped two_threads.procs (codes "main") 0 both_stmts (span 108 109) refl main_scoped)

two_threads_well : is_well_formed two_threads ≡ true
two_threads_well =
    and_from (list_all (proc_is_well two_threads) two_threads.procs) (is_startable (main_among two_threads.procs))
    (two (proc_is_well two_threads) (proc (codes "cell") 0 2 [] nothing nothing cell_body (span 68 69)) main_proc (cell_is_well two_threads (codes "cell")) main_is_well) empty_is

-- ---- by computing

one_cell_whole : verdict_by (quick_ends one_cell) one_cell.procs ≡ Accepted 1
unfolding most out-Asrt denote.Hole.Carrier.out roll-Asrt denote.Hole.Carrier.roll out-Act roll-Act out-Expr roll-Expr denote.Hole.Carrier.shown denote.Hole.Carrier.hidden shown-the_row-Expr-2
one_cell_whole = refl

two_threads_whole : verdict_by (quick_ends two_threads) two_threads.procs ≡ Accepted 2
unfolding most out-Asrt denote.Hole.Carrier.out roll-Asrt denote.Hole.Carrier.roll out-Act roll-Act out-Expr roll-Expr denote.Hole.Carrier.shown denote.Hole.Carrier.hidden shown-the_row-Expr-2
two_threads_whole = refl

pub examples_are_safe : ExamplesAreSafe
examples_are_safe = record {
  one_cell_is = one_cell_accepted;
  one_cell_is_safe = accepted_are_safe one_cell one_cell_well 1 one_cell_accepted;
  two_threads_are = two_threads_accepted;
  two_threads_are_safe = accepted_are_safe two_threads two_threads_well 2 two_threads_accepted;
}
  where
    one_cell_accepted : verdict_of one_cell ≡ Accepted 1
    one_cell_accepted = verdict_quick one_cell (Accepted 1) one_cell_whole

    two_threads_accepted : verdict_of two_threads ≡ Accepted 2
    two_threads_accepted = verdict_quick two_threads (Accepted 2) two_threads_whole
