-- Well-formedness level by level: what the tests of the rules of names and scopes come to on one level of a tree.
use Rattle.std.proofs.Common.{◌≡◌, ℕ, Bool, true, ◌&&◌, List, [], ◌∷◌, pos, refl, sym, ap, subst, ◌∙◌}
use Rattle.std.specs.List.{list_all}
use Rattle.std.proofs.lemmas.Bool.{and_from, or_left}
use Rattle.fsl_core.specs.declared.act.Act.{Act}
use Rattle.fsl_core.specs.declared.act.Act.TheFolds.{fold-Stmt, fold_out-Stmt, fold-roll-Act, map-Act}
use Rattle.fsl_core.specs.declared.act.Stmt.{Stmt}
use Rattle.fsl_core.specs.declared.assertion.Asrt.{Asrt}
use Rattle.fsl_core.specs.declared.assertion.Asrt.TheFolds.{fold-roll-Asrt, map-Asrt}
use Rattle.fsl_core.specs.declared.assertion.Asrt.TheOpen.{Asrt-F}
use Rattle.fsl_core.specs.declared.assertion.Asrt.TheViews.{roll-Asrt}
use Rattle.fsl_core.specs.declared.declaration.Inv.{Inv}
use Rattle.fsl_core.specs.declared.declaration.Proc.{Proc}
use Rattle.fsl_core.specs.declared.expr.Expr.{Expr}
use Rattle.fsl_core.specs.declared.expr.Expr.TheFolds.{fold-roll-Expr}
use Rattle.fsl_core.specs.declared.expr.Expr.TheOpen.{Expr-F}
use Rattle.fsl_core.specs.declared.scope.Scope.{Scope}
use Rattle.fsl_core.specs.Programs.{Program}
use Rattle.fsl_core.specs.Scopes.{Scoped, is_number, sight_at, reads, reads_step, part_reads_step, is_bank_alone, inst_argument_fits, asrt_scoped, stmt_step, act_scoped, stmt_scoped, block_scoped, has_room, parameters_of, in_ensures, in_body, proc_is_scoped}
use Rattle.fsl_core.specs.Scopes as scopes
use Rattle.fsl_core.specs.Straight.{is_emp, emp_step}
use Rattle.fsl_core.specs.WellFormed.{Test, asrt_step, asrt_fits, act_step, act_fits, stmt_fits}
use Rattle.fsl_core.proofs.Sights.{stmt_is}
use Rattle.fsl_judged.specs.Words.{Act-Layer, num, var, nothing, at}

-- ---- one level of each

pub asrt_level : (invs : List Inv) (a : Asrt-F Asrt) → asrt_fits invs (roll-Asrt a) ≡ asrt_step invs (map-Asrt Asrt Test (asrt_fits invs) a)
asrt_level invs a = fold-roll-Asrt Test (asrt_step invs) a

-- the test at one level, where modalities may stand or not
pub asrt_level_at : (invs : List Inv) (modal : Bool) (a : Asrt-F Asrt) → asrt_fits invs (roll-Asrt a) modal ≡ asrt_step invs (map-Asrt Asrt Test (asrt_fits invs) a) modal
asrt_level_at invs modal a = ap (λ (f : Test). f modal) (asrt_level invs a)

pub fits_at : (p : Program) (from to : ℕ) (l : Act-Layer) → stmt_fits p (at from to l) ≡ act_step p (map-Act Act Stmt Bool Bool (act_fits p) (fold-Stmt Bool Bool (act_step p) (λ stmt. stmt.act)) l)
fits_at p from to l = fold-roll-Act Bool Bool (act_step p) (λ stmt. stmt.act) l

pub asrt_scoped_level : (a : Asrt-F Asrt) → asrt_scoped (roll-Asrt a) ≡ scopes.asrt_step (map-Asrt Asrt Scoped asrt_scoped a)
asrt_scoped_level a = fold-roll-Asrt Scoped scopes.asrt_step a

pub scoped_at : (procs : List Proc) (from to : ℕ) (l : Act-Layer) → stmt_scoped procs (at from to l) ≡ scopes.act_step procs (map-Act Act Stmt Scoped Scoped (act_scoped procs) (stmt_scoped procs) l)
scoped_at procs from to l = stmt_is procs (at from to l) ∙ fold-roll-Act Scoped Scoped (scopes.act_step procs) stmt_step l

-- a statement inside another one
pub folded_at : (p : Program) (from to : ℕ) (l : Act-Layer) → fold-Stmt Bool Bool (act_step p) (λ stmt. stmt.act) (at from to l) ≡ act_step p (map-Act Act Stmt Bool Bool (act_fits p) (fold-Stmt Bool Bool (act_step p) (λ stmt. stmt.act)) l)
folded_at p from to l = fold_out-Stmt Bool Bool (act_step p) (λ stmt. stmt.act) (at from to l) ∙ fits_at p from to l

pub reads_var : (scope : Scope) (slot : ℕ) → reads scope (var slot) ≡ is_number (sight_at scope slot)
reads_var scope slot = fold-roll-Expr Bool Bool (reads_step scope) part_reads_step (Expr-F.Var slot)

pub reads_num : (scope : Scope) (n : ℕ) → reads scope (num n) ≡ true
reads_num scope n = fold-roll-Expr Bool Bool (reads_step scope) part_reads_step (Expr-F.Const (pos n))

pub nothing_is : is_emp nothing ≡ true
nothing_is = fold-roll-Asrt Bool emp_step Asrt-F.Emp

-- ---- a procedure, where what stands in its contract is known

pub proc_scoped : (procs : List Proc) (q : Proc) (pre post : Scoped) → asrt_scoped q.pre ≡ pre → asrt_scoped q.post ≡ post → has_room q ≡ true
    → pre.fits (parameters_of q) ≡ true → post.fits (in_ensures (pre.behind (parameters_of q))) ≡ true
    → (block_scoped procs q.body).fits (in_body (pre.behind (parameters_of q))) ≡ true → proc_is_scoped procs q ≡ true
proc_scoped procs q pre post e f room fits ends body =
    let s = parameters_of q in
    let b = block_scoped procs q.body in
    subst (λ (x : Scoped). (has_room q && (x.fits s && ((asrt_scoped q.post).fits (in_ensures (x.behind s)) && b.fits (in_body (x.behind s))))) ≡ true) (sym e)
    (subst (λ (y : Scoped). (has_room q && (pre.fits s && (y.fits (in_ensures (pre.behind s)) && b.fits (in_body (pre.behind s))))) ≡ true) (sym f)
    (and_from (has_room q) (pre.fits s && (post.fits (in_ensures (pre.behind s)) && b.fits (in_body (pre.behind s)))) room
    (and_from (pre.fits s) (post.fits (in_ensures (pre.behind s)) && b.fits (in_body (pre.behind s))) fits
    (and_from (post.fits (in_ensures (pre.behind s))) (b.fits (in_body (pre.behind s))) ends body))))

-- ---- several

-- an argument of an invariant that is read as a number
pub argument_reads : (scope : Scope) (e : Expr) → reads scope e ≡ true → inst_argument_fits scope e ≡ true
argument_reads scope e h = or_left (reads scope e) (is_bank_alone scope e) h

pub all_one : {X : Type 0} (f : X → Bool) (a : X) → f a ≡ true → list_all f (a ∷ []) ≡ true
all_one f a x = and_from (f a) true x refl

pub all_two : {X : Type 0} (f : X → Bool) (a b : X) → f a ≡ true → f b ≡ true → list_all f (a ∷ b ∷ []) ≡ true
all_two f a b x y = and_from (f a) (f b && true) x (all_one f b y)

pub all_three : {X : Type 0} (f : X → Bool) (a b c : X) → f a ≡ true → f b ≡ true → f c ≡ true → list_all f (a ∷ b ∷ c ∷ []) ≡ true
all_three f a b c x y z = and_from (f a) (f b && (f c && true)) x (all_two f b c y z)

pub all_four : {X : Type 0} (f : X → Bool) (a b c d : X) → f a ≡ true → f b ≡ true → f c ≡ true → f d ≡ true → list_all f (a ∷ b ∷ c ∷ d ∷ []) ≡ true
all_four f a b c d x y z w = and_from (f a) (f b && (f c && (f d && true))) x (all_three f b c d y z w)
