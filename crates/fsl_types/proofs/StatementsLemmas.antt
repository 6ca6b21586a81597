-- What is made of a statement without faults fits the invariants and procedures that it uses, and its modes are those
-- of its accesses.
use Rattle.std.proofs.Common.{◌≡◌, ℕ, ◌+◌, Bool, true, false, true≢false, ◌&&◌, ◌||◌, nat_lt, ltb-false, le-leb, List, [], ◌∷◌, Option, Some, None, map, length, slice_get, ◌==◌, refl, ap, sym, ◌∙◌, subst}
use Rattle.std.proofs.lemmas.Bool.{and_from, and_parts, not-false, or_parts}
use Rattle.std.proofs.lemmas.List.{length-map}
use Rattle.std.specs.List.{list_all, list_any}
use Rattle.std.specs.Str.{is_utf8}
use Rattle.fsl_base.specs.declared.span.Span.{Span}
use Rattle.fsl_core.specs.declared.act.Act.{Act, map-Act}
use Rattle.fsl_core.specs.declared.act.Act.TheFolds.{fold-Stmt, fold-roll-Act, fold_out-Stmt}
use Rattle.fsl_core.specs.declared.act.Act.TheOpen.{Act-F}
use Rattle.fsl_core.specs.declared.act.Act.TheVariants.{rolls-Set, rolls-AllocNa, rolls-AllocAt, rolls-Free, rolls-Load, rolls-Store, rolls-Cas, rolls-Add, rolls-Swap, rolls-Call, rolls-Par, rolls-Fence, rolls-If, rolls-While, rolls-Assert, rolls-Print, rolls-Return, rolls-Bank, rolls-Step}
use Rattle.fsl_core.specs.declared.act.Act.TheViews.{roll-Act}
use Rattle.fsl_core.specs.declared.act.Stmt.{Stmt}
use Rattle.fsl_core.specs.declared.assertion.Asrt.TheOpen.{Asrt-F}
use Rattle.fsl_core.specs.declared.assertion.Asrt.TheVariants.{rolls-Emp}
use Rattle.fsl_core.specs.declared.expr.Expr.{Expr}
use Rattle.fsl_core.specs.declared.declaration.Proc.{Proc}
use Rattle.fsl_core.specs.Programs.{Program}
use Rattle.fsl_core.specs.Straight.{is_emp}
use Rattle.fsl_core.specs.WellFormed.{act_fits, act_step, asrt_fits, call_fits, child_fits, is_par_size, is_failure_mode, is_fence_mode, is_load_mode, is_store_mode, is_update_mode, proc_is_plain, proc_takes, stmt_fits}
use Rattle.fsl_tree.specs.declared.expression.Arguments.{Arguments}
use Rattle.fsl_tree.specs.declared.expression.Expression.{Expression}
use Rattle.fsl_tree.specs.declared.expression.Use.{Use}
use Rattle.fsl_tree.specs.declared.right_side.Allocation.{Allocation}
use Rattle.fsl_tree.specs.declared.right_side.Allocation.TheVariants as allocations
use Rattle.fsl_tree.specs.declared.right_side.Mode.{Mode}
use Rattle.fsl_tree.specs.declared.right_side.Mode.TheVariants as modes
use Rattle.fsl_tree.specs.declared.right_side.RightSide.{RightSide}
use Rattle.fsl_tree.specs.declared.right_side.RightSide.TheVariants as right_sides
use Rattle.fsl_tree.specs.declared.right_side.Step.{Step}
use Rattle.fsl_tree.specs.declared.right_side.UpdateWord.{UpdateWord}
use Rattle.fsl_tree.specs.declared.right_side.UpdateWord.TheVariants as update_words
use Rattle.fsl_tree.specs.declared.right_side.With.{With}
use Rattle.fsl_tree.specs.declared.statement.Block.{Block, map-Block}
use Rattle.fsl_tree.specs.declared.statement.FenceKind.{FenceKind}
use Rattle.fsl_tree.specs.declared.statement.FenceKind.TheVariants as fences
use Rattle.fsl_tree.specs.declared.statement.Otherwise.{Otherwise, map-Otherwise}
use Rattle.fsl_tree.specs.declared.statement.ParallelCall.{ParallelCall}
use Rattle.fsl_tree.specs.declared.statement.ReleaseWord.{ReleaseWord}
use Rattle.fsl_tree.specs.declared.statement.ReleaseWord.TheVariants as release_words
use Rattle.fsl_tree.specs.declared.statement.Statement.{Statement, map-Statement}
use Rattle.fsl_tree.specs.declared.statement.Statement.TheFolds.{ind-Block, fold-roll-Statement, fold-roll-Block, fold-roll-Otherwise}
use Rattle.fsl_tree.specs.declared.statement.Statement.TheOpen.{Statement-F, Block-F, Otherwise-F}
use Rattle.fsl_tree.specs.declared.statement.Statement.TheViews.{roll-Statement, roll-Block, roll-Otherwise}
use Rattle.fsl_types.specs.declared.fault.Fault.{Fault}
use Rattle.fsl_types.specs.declared.occurrence.Access.{Access}
use Rattle.fsl_types.specs.declared.occurrence.Access.TheVariants as accesses
use Rattle.fsl_types.specs.declared.occurrence.Occurrence.TheVariants as occurrence
use Rattle.fsl_types.specs.declared.variable.Signature.{Signature}
use Rattle.fsl_types.specs.declared.resolver.Resolver.{Resolver}
use Rattle.fsl_types.specs.Expressions.{Sight, arguments_of, fits, in_turn, judged_use, number_of, numbered_arguments, signature_at}
use Rattle.fsl_types.specs.Faults.{has_mode}
use Rattle.fsl_types.specs.Given.{Given}
use Rattle.fsl_types.specs.Names.{Names, found, text_at}
use Rattle.fsl_types.specs.Statements.{Inside, Runs, allocation_of, block, block_step, called, fence, in_fence, in_loop_invariant, is_modal, judged_allocation, judged_call, judged_mode, judged_parallel, judged_return, judged_right_side, judged_step, judged_step_line, judged_steps, mode_of, otherwise, otherwise_step, release_mode, right_side_of, run_each, seen, statement, statement_step, updated}
use Rattle.fsl_types.proofs.AssertionsLemmas.{HasInvariants, assertion_fits, clause_fits, equal_numbers, instance_fits, layer_fits}
use Rattle.fsl_types.proofs.ExpressionsLemmas.{Grows, Keeps, condition_grows, each_grows, noted_grows, noted_keeps, number_grows, use_grows, use_keeps}

-- ---- procedures by name

-- the parameters from a number on are banks where these say so
abbrev pub Agree : List ℕ → ℕ → List Bool → Type 0
Agree banks slot [] = Unit {0}
Agree banks slot (b ∷ bs) = (list_any (λ (bank : ℕ). bank == slot) banks ≡ b) × Agree banks (slot + 1) bs

-- the procedure of a signature, by its name
pub record IsProcedure (p : Program) (procs : List Proc) (name : List ℕ) (s : Signature) : Type 0 where
  pub proc : Proc
  pub at : slice_get procs s.number ≡ Some proc
  pub named : is_utf8 name ≡ true → proc.name ≡ name
  pub params : proc.params ≡ length s.banks
  pub plain : s.modal ≡ false → (asrt_fits p.invs proc.pre false && asrt_fits p.invs proc.post false) ≡ true
  pub bare : s.bare ≡ true → (proc.params == 0 && is_emp proc.pre) ≡ true
  pub agree : Agree proc.banks 0 s.banks

abbrev pub HasProcedures : Program → Given → Type 0
HasProcedures p given = (name : List ℕ) (s : Signature) → found name given.procedures ≡ Some s → IsProcedure p p.procs name s

proc_found : (p : Program) (name : List ℕ) (place : Span) (arguments : Option Arguments) (args : List Expr) (o : Option Signature)
    → ((s : Signature) → o ≡ Some s → IsProcedure p p.procs name s) → length args ≡ length (arguments_of arguments)
    → Keeps (occurrence.Used place (fits arguments o)) → call_fits p (number_of o) args ≡ true
proc_found p name place arguments args None knows long keeps = absurd (true≢false keeps.known)
proc_found p name place arguments args (Some s) knows long keeps =
    let is = knows s refl in
    ap (proc_takes args) is.at
    ∙ equal_numbers (length (arguments_of arguments)) (length s.banks) is.proc.params (length args) keeps.fitting is.params long

callee_fits : (p : Program) (given : Given) (sight : Sight) (names : Names) (u : Use) (faults : List Fault) → HasProcedures p given
    → judged_use sight (signature_at given.bytes given.procedures u.name) u faults ≡ []
    → call_fits p (number_of (signature_at given.bytes given.procedures u.name)) (numbered_arguments given.bytes names u.arguments) ≡ true
callee_fits p given sight names u faults has none =
    proc_found p (text_at given.bytes u.name) u.name u.arguments (numbered_arguments given.bytes names u.arguments) (signature_at given.bytes given.procedures u.name)
    (λ s is. has (text_at given.bytes u.name) s is) (length-map (arguments_of u.arguments) _)
    (use_keeps sight (signature_at given.bytes given.procedures u.name) u faults none)

plain_found : (p : Program) (name : List ℕ) (used : Span) (arguments : Option Arguments) (place : Span) (o : Option Signature)
    → ((s : Signature) → o ≡ Some s → IsProcedure p p.procs name s) → Keeps (occurrence.Used used (fits arguments o)) → Keeps (occurrence.Child place (is_modal o))
    → proc_is_plain p.invs (slice_get p.procs (number_of o)) ≡ true
plain_found p name used arguments place None knows keeps child = absurd (true≢false keeps.known)
plain_found p name used arguments place (Some s) knows keeps child = let is = knows s refl in ap (proc_is_plain p.invs) is.at ∙ is.plain child.unmodal

pub call_grows : (given : Given) (sight : Sight) (call : ParallelCall) → Grows (judged_call given sight call)
call_grows given sight call faults none = noted_grows faults _ (use_grows sight (signature_at given.bytes given.procedures call.callee.name) call.callee _ none)

called_fits : (p : Program) (given : Given) (sight : Sight) (names : Names) (call : ParallelCall) (faults : List Fault) → HasProcedures p given
    → judged_call given sight call faults ≡ [] → child_fits p (called given names call) ≡ true
called_fits p given sight names call faults has none =
    let o = signature_at given.bytes given.procedures call.callee.name in
    and_from _ _ (callee_fits p given sight names call.callee _ has none)
    (plain_found p (text_at given.bytes call.callee.name) call.callee.name call.callee.arguments call.callee.name o (λ s is. has (text_at given.bytes call.callee.name) s is)
    (use_keeps sight o call.callee _ none) (noted_keeps _ faults (use_grows sight o call.callee _ none)))

children_fit : (p : Program) (given : Given) (sight : Sight) (names : Names) (calls : List ParallelCall) (faults : List Fault) → HasProcedures p given
    → in_turn (map (judged_call given sight) calls) faults ≡ [] → list_all (child_fits p) (map (called given names) calls) ≡ true
children_fit p given sight names [] faults has none = refl
children_fit p given sight names (call ∷ calls) faults has none =
    and_from _ _ (called_fits p given sight names call faults has (each_grows (judged_call given sight) (call_grows given sight) calls _ none))
    (children_fit p given sight names calls _ has none)

-- 2 to 8 calls
par_size : (n : ℕ) → (nat_lt n 2 || nat_lt 8 n) ≡ false → is_par_size n ≡ true
par_size n counted =
    let neither = or_parts (nat_lt n 2) (nat_lt 8 n) counted in
    and_from _ _ (le-leb 2 n (ltb-false n 2 neither.0)) (le-leb n 8 (ltb-false 8 n neither.1))

par_fits : (given : Given) (sight : Sight) (names : Names) (word : Span) (calls : List ParallelCall) (faults : List Fault) → judged_parallel given sight word calls faults ≡ []
    → is_par_size (length (map (called given names) calls)) ≡ true
par_fits given sight names word calls faults none =
    let noted = each_grows (judged_call given sight) (call_grows given sight) calls _ none in
    ap is_par_size (length-map calls (called given names)) ∙ par_size (length calls) (noted_keeps (occurrence.Parallel word (length calls)) faults noted).counted

-- ---- modes

mode_keeps : (access : Access) (how : Mode) (faults : List Fault) → judged_mode access how faults ≡ [] → has_mode access how ≡ true
mode_keeps access how faults none = not-false (has_mode access how) (noted_keeps (occurrence.Moded access how) faults none).typed

load_mode : (how : Mode) → has_mode accesses.Load how ≡ true → is_load_mode (mode_of how) ≡ true
load_mode (modes.NonAtomic place) has = has
load_mode (modes.Relaxed place) has = has
load_mode (modes.Acquire place) has = has
load_mode (modes.Release place) has = has
load_mode (modes.AcquireRelease place) has = has

store_mode : (how : Mode) → has_mode accesses.Store how ≡ true → is_store_mode (mode_of how) ≡ true
store_mode (modes.NonAtomic place) has = has
store_mode (modes.Relaxed place) has = has
store_mode (modes.Acquire place) has = has
store_mode (modes.Release place) has = has
store_mode (modes.AcquireRelease place) has = has

update_mode : (how : Mode) → has_mode accesses.Update how ≡ true → is_update_mode (mode_of how) ≡ true
update_mode (modes.NonAtomic place) has = has
update_mode (modes.Relaxed place) has = has
update_mode (modes.Acquire place) has = has
update_mode (modes.Release place) has = has
update_mode (modes.AcquireRelease place) has = has

failure_mode : (how : Mode) → has_mode accesses.Failure how ≡ true → is_failure_mode (mode_of how) ≡ true
failure_mode (modes.NonAtomic place) has = has
failure_mode (modes.Relaxed place) has = has
failure_mode (modes.Acquire place) has = has
failure_mode (modes.Release place) has = has
failure_mode (modes.AcquireRelease place) has = has

fence_mode : (word : ReleaseWord) → is_fence_mode (release_mode word) ≡ true
fence_mode (release_words.Release place) = refl
fence_mode (release_words.AcquireRelease place) = refl

-- ---- one layer of an act

folded_stmt : Program → Stmt → Bool
folded_stmt p = fold-Stmt Bool Bool (act_step p) (λ stmt. stmt.act)

act_layer_fits : (p : Program) (a : Act) (layer : Act-F Act Stmt) → roll-Act layer ≡ a
    → act_step p (map-Act Act Stmt Bool Bool (act_fits p) (folded_stmt p) layer) ≡ true → act_fits p a ≡ true
unfolding folded_stmt
act_layer_fits p a layer is fit =
    subst (λ (x : Act). act_fits p x ≡ true) is (fold-roll-Act Bool Bool (act_step p) (λ stmt. stmt.act) layer ∙ fit)

stmts_fit : (p : Program) (stmts : List Stmt) → list_all (stmt_fits p) stmts ≡ true → list_all (λ stmt. stmt) (map (folded_stmt p) stmts) ≡ true
unfolding folded_stmt
stmts_fit p [] all = refl
stmts_fit p (s ∷ ss) all =
    let both = and_parts (stmt_fits p s) (list_all (stmt_fits p) ss) all in
    and_from _ _ (fold_out-Stmt Bool Bool (act_step p) (λ stmt. stmt.act) s ∙ both.0) (stmts_fit p ss both.1)

-- ---- right sides

pub step_grows : (sight : Sight) (s : Step) → Grows (judged_step sight s)
step_grows sight s faults none = noted_grows faults _ (number_grows sight s.amount _ none)

pub steps_grow : (sight : Sight) (along : Option With) → Grows (judged_steps sight along)
steps_grow sight None faults none = none
steps_grow sight (Some along) faults none = each_grows (judged_step_line sight) (λ line. step_grows sight line.step) along.steps faults none

updated_fits : (p : Program) (word : UpdateWord) (slot : ℕ) (how : Mode) (at e : Expr) (steps : _) → is_update_mode (mode_of how) ≡ true
    → act_fits p (updated word slot (mode_of how) at e steps) ≡ true
updated_fits p (update_words.FetchAdd place) slot how at e steps is = act_layer_fits p _ (Act-F.Add slot (mode_of how) at e steps) (rolls-Add _ _ _ _ _) is
updated_fits p (update_words.Exchange place) slot how at e steps is = act_layer_fits p _ (Act-F.Swap slot (mode_of how) at e steps) (rolls-Swap _ _ _ _ _) is

allocation_grows : (given : Given) (sight : Sight) (a : Allocation) → Grows (judged_allocation given sight a)
allocation_grows given sight (allocations.NonAtomic word) faults none = none
allocation_grows given sight (allocations.Shared cell invariant) faults none = use_grows sight (signature_at given.bytes given.invariants invariant.name) invariant faults none

allocation_fits : (p : Program) (given : Given) (sight : Sight) (names : Names) (slot : ℕ) (a : Allocation) (faults : List Fault) → HasInvariants p.invs given
    → judged_allocation given sight a faults ≡ [] → act_fits p (allocation_of given names slot a) ≡ true
allocation_fits p given sight names slot (allocations.NonAtomic word) faults has none = act_layer_fits p _ (Act-F.AllocNa slot) (rolls-AllocNa _) refl
allocation_fits p given sight names slot (allocations.Shared cell invariant) faults has none =
    act_layer_fits p _ (Act-F.AllocAt slot _ _) (rolls-AllocAt _ _ _) (instance_fits p.invs given sight names invariant faults has none)

pub right_grows : (given : Given) (sight : Sight) (r : RightSide) → Grows (judged_right_side given sight r)
right_grows given sight (right_sides.Value e) faults none = number_grows sight e faults none
right_grows given sight (right_sides.Call word callee) faults none = use_grows sight (signature_at given.bytes given.procedures callee.name) callee faults none
right_grows given sight (right_sides.Allocate word what) faults none = allocation_grows given sight what faults none
right_grows given sight (right_sides.Load word how start location end) faults none = noted_grows faults _ (number_grows sight location _ none)
right_grows given sight (right_sides.CompareAndSwap word success failure start location expected_comma expected new_comma new end along) faults none =
    noted_grows faults _ (noted_grows _ _ (number_grows sight location _ (number_grows sight expected _ (number_grows sight new _ (steps_grow sight along _ none)))))
right_grows given sight (right_sides.Update word how start location comma operand end along) faults none =
    noted_grows faults _ (number_grows sight location _ (number_grows sight operand _ (steps_grow sight along _ none)))

right_fits : (p : Program) (given : Given) (sight : Sight) (names : Names) (slot : ℕ) (r : RightSide) (faults : List Fault) → HasInvariants p.invs given → HasProcedures p given
    → judged_right_side given sight r faults ≡ [] → act_fits p (right_side_of given names slot r) ≡ true
right_fits p given sight names slot (right_sides.Value e) faults invs procs none = act_layer_fits p _ (Act-F.Set slot _) (rolls-Set _ _) refl
right_fits p given sight names slot (right_sides.Call word callee) faults invs procs none =
    act_layer_fits p _ (Act-F.Call (Some slot) _ _) (rolls-Call _ _ _) (callee_fits p given sight names callee faults procs none)
right_fits p given sight names slot (right_sides.Allocate word what) faults invs procs none = allocation_fits p given sight names slot what faults invs none
right_fits p given sight names slot (right_sides.Load word how start location end) faults invs procs none =
    act_layer_fits p _ (Act-F.Load slot (mode_of how) _) (rolls-Load _ _ _) (load_mode how (mode_keeps accesses.Load how faults (number_grows sight location _ none)))
right_fits p given sight names slot (right_sides.CompareAndSwap word success failure start location expected_comma expected new_comma new end along) faults invs procs none =
    let moded = number_grows sight location _ (number_grows sight expected _ (number_grows sight new _ (steps_grow sight along _ none))) in
    act_layer_fits p _ (Act-F.Cas slot (mode_of success) (mode_of failure) _ _ _ _) (rolls-Cas _ _ _ _ _ _ _)
    (and_from _ _ (update_mode success (mode_keeps accesses.Update success faults (noted_grows _ _ moded))) (failure_mode failure (mode_keeps accesses.Failure failure _ moded)))
right_fits p given sight names slot (right_sides.Update word how start location comma operand end along) faults invs procs none =
    updated_fits p word slot how _ _ _
    (update_mode how (mode_keeps accesses.Update how faults (number_grows sight location _ (number_grows sight operand _ (steps_grow sight along _ none)))))

-- ---- one level of a statement

-- whatever a statement makes without faults fits
record Running (p : Program) (given : Given) (runs : Runs) : Type 0 where
  pub grows : (in_loop : Bool) (resolver : Resolver) → (runs in_loop resolver).resolver.faults ≡ [] → resolver.faults ≡ []
  pub fits : HasInvariants p.invs given → HasProcedures p given → (in_loop : Bool) (resolver : Resolver) → (runs in_loop resolver).resolver.faults ≡ [] → stmt_fits p (runs in_loop resolver).made ≡ true

-- likewise the statements of a block
pub record RunningInside (p : Program) (given : Given) (inside : Inside) : Type 0 where
  pub grows : (in_loop : Bool) (resolver : Resolver) → (inside.runs in_loop resolver).resolver.faults ≡ [] → resolver.faults ≡ []
  pub fits : HasInvariants p.invs given → HasProcedures p given → (in_loop : Bool) (resolver : Resolver) → (inside.runs in_loop resolver).resolver.faults ≡ [] → list_all (stmt_fits p) (inside.runs in_loop resolver).made ≡ true

abbrev RunningStatement : Program → Given → Type 0
RunningStatement p given = (s : Statement) × Running p given (statement given s)

abbrev RunningBlock : Program → Given → Type 0
RunningBlock p given = (b : Block) × RunningInside p given (block given b)

abbrev RunningOtherwise : Program → Given → Type 0
RunningOtherwise p given = (o : Otherwise) × RunningInside p given (otherwise given o)

abbrev StatementParts : Program → Given → Type 0
StatementParts p given = Statement-F (RunningStatement p given) (RunningBlock p given) (RunningOtherwise p given)

abbrev bare_statement : (p : Program) (given : Given) → StatementParts p given → Statement-F Statement Block Otherwise
bare_statement p given y =
    map-Statement (RunningStatement p given) (RunningBlock p given) (RunningOtherwise p given) Statement Block Otherwise (λ part. part.0) (λ part. part.0) (λ part. part.0) y

abbrev statement_runs : Given → Statement-F Statement Block Otherwise → Runs
statement_runs given x = statement_step given (map-Statement Statement Block Otherwise Runs Inside Inside (statement given) (block given) (otherwise given) x)

fence_grows : (p : Program) (given : Given) (what : FenceKind) (resolver : Resolver) → (fence given what resolver).resolver.faults ≡ [] → resolver.faults ≡ []
fence_grows p given (fences.Acquire word) resolver none = none
fence_grows p given (fences.Release word start held end) resolver none = (assertion_fits p.invs given held).grows in_fence resolver none

fence_fits : (p : Program) (given : Given) (what : FenceKind) → HasInvariants p.invs given → (resolver : Resolver) → (fence given what resolver).resolver.faults ≡ []
    → act_fits p (fence given what resolver).made ≡ true
fence_fits p given (fences.Acquire word) invs resolver none =
    act_layer_fits p _ (Act-F.Fence _ _) (rolls-Fence _ _) (layer_fits p.invs _ Asrt-F.Emp false rolls-Emp refl)
fence_fits p given (fences.Release word start held end) invs resolver none =
    act_layer_fits p _ (Act-F.Fence _ _) (rolls-Fence _ _)
    (and_from _ _ (fence_mode word) ((assertion_fits p.invs given held).fits invs in_fence resolver false (λ is. refl) none))

pub return_grows : (sight : Sight) (in_loop : Bool) (word : Span) (e : Option Expression) → Grows (judged_return sight in_loop word e)
return_grows sight in_loop word None faults none = noted_grows faults _ none
return_grows sight in_loop word (Some e) faults none = noted_grows faults _ (number_grows sight e _ none)

-- a statement that uses nothing and holds no other
plain : (p : Program) (given : Given) (runs : Runs) → ((in_loop : Bool) (resolver : Resolver) → (runs in_loop resolver).resolver.faults ≡ [] → resolver.faults ≡ [])
    → ((in_loop : Bool) (resolver : Resolver) → stmt_fits p (runs in_loop resolver).made ≡ true) → Running p given runs
plain p given runs grow fit = record { grows = grow; fits = λ invs procs in_loop resolver none. fit in_loop resolver }

statement_layer_fits : (p : Program) (given : Given) (y : StatementParts p given)
    → Running p given (statement_runs given (bare_statement p given y))
unfolding folded_stmt
statement_layer_fits p given (Statement-F.Let word name equals right semicolon) = record {
  grows = λ in_loop resolver none. right_grows given (seen given resolver) right resolver.faults (noted_grows _ _ none);
  fits = λ invs procs in_loop resolver none. right_fits p given (seen given resolver) resolver.names resolver.slots right resolver.faults invs procs (noted_grows _ _ none);
}
statement_layer_fits p given (Statement-F.Assign name equals right semicolon) = record {
  grows = λ in_loop resolver none. noted_grows resolver.faults _ (right_grows given (seen given resolver) right _ none);
  fits = λ invs procs in_loop resolver none. right_fits p given (seen given resolver) resolver.names _ right _ invs procs none;
}
statement_layer_fits p given (Statement-F.Store word how start location comma stored end semicolon) = record {
  grows = λ in_loop resolver none. noted_grows resolver.faults _ (number_grows (seen given resolver) location _ (number_grows (seen given resolver) stored _ none));
  fits = λ invs procs in_loop resolver none.
      act_layer_fits p _ (Act-F.Store (mode_of how) _ _) (rolls-Store _ _ _)
      (store_mode how (mode_keeps accesses.Store how resolver.faults (number_grows (seen given resolver) location _ (number_grows (seen given resolver) stored _ none))));
}
statement_layer_fits p given (Statement-F.Call word callee semicolon) = record {
  grows = λ in_loop resolver none. use_grows (seen given resolver) (signature_at given.bytes given.procedures callee.name) callee resolver.faults none;
  fits = λ invs procs in_loop resolver none.
      act_layer_fits p _ (Act-F.Call None _ _) (rolls-Call _ _ _) (callee_fits p given (seen given resolver) resolver.names callee resolver.faults procs none);
}
statement_layer_fits p given (Statement-F.Parallel word start calls end) = record {
  grows = λ in_loop resolver none.
      noted_grows resolver.faults _ (each_grows (judged_call given (seen given resolver)) (call_grows given (seen given resolver)) calls _ none);
  fits = λ invs procs in_loop resolver none.
      act_layer_fits p _ (Act-F.Par _) (rolls-Par _)
      (and_from _ _ (par_fits given (seen given resolver) resolver.names word calls resolver.faults none)
      (children_fit p given (seen given resolver) resolver.names calls _ procs none));
}
statement_layer_fits p given (Statement-F.Fence word what semicolon) = record {
  grows = λ in_loop resolver none. fence_grows p given what resolver none;
  fits = λ invs procs in_loop resolver none. fence_fits p given what invs resolver none;
}
statement_layer_fits p given (Statement-F.If word start condition end then_block None) = record {
  grows = λ in_loop resolver none. condition_grows (seen given resolver) condition resolver.faults (then_block.1.grows in_loop _ none);
  fits = λ invs procs in_loop resolver none.
      act_layer_fits p _ (Act-F.If _ _ _) (rolls-If _ _ _) (and_from _ _ (stmts_fit p _ (then_block.1.fits invs procs in_loop _ none)) refl);
}
statement_layer_fits p given (Statement-F.If word start condition end then_block (Some other)) = record {
  grows = λ in_loop resolver none. condition_grows (seen given resolver) condition resolver.faults (then_block.1.grows in_loop _ (other.1.grows in_loop _ none));
  fits = λ invs procs in_loop resolver none.
      act_layer_fits p _ (Act-F.If _ _ _) (rolls-If _ _ _)
      (and_from _ _ (stmts_fit p _ (then_block.1.fits invs procs in_loop _ (other.1.grows in_loop _ none))) (stmts_fit p _ (other.1.fits invs procs in_loop _ none)));
}
statement_layer_fits p given (Statement-F.While word start condition end invariant body) = record {
  grows = λ in_loop resolver none.
      condition_grows (seen given resolver) condition resolver.faults ((clause_fits p.invs given invariant).grows in_loop_invariant _ (body.1.grows true _ none));
  fits = λ invs procs in_loop resolver none.
      act_layer_fits p _ (Act-F.While _ _ _) (rolls-While _ _ _)
      (and_from _ _ ((clause_fits p.invs given invariant).fits invs in_loop_invariant _ true (λ is. refl) (body.1.grows true _ none))
      (stmts_fit p _ (body.1.fits invs procs true _ none)));
}
statement_layer_fits p given (Statement-F.Assert word start condition end semicolon) =
    plain p given _ (λ in_loop resolver none. condition_grows (seen given resolver) condition resolver.faults none) (λ in_loop resolver. act_layer_fits p _ (Act-F.Assert _) (rolls-Assert _) refl)
statement_layer_fits p given (Statement-F.Print word start printed end semicolon) =
    plain p given _ (λ in_loop resolver none. number_grows (seen given resolver) printed resolver.faults none) (λ in_loop resolver. act_layer_fits p _ (Act-F.Print _) (rolls-Print _) refl)
statement_layer_fits p given (Statement-F.Free word start location end semicolon) =
    plain p given _ (λ in_loop resolver none. number_grows (seen given resolver) location resolver.faults none) (λ in_loop resolver. act_layer_fits p _ (Act-F.Free _) (rolls-Free _) refl)
statement_layer_fits p given (Statement-F.Return word e semicolon) =
    plain p given _ (λ in_loop resolver none. return_grows (seen given resolver) in_loop word e resolver.faults none) (λ in_loop resolver. act_layer_fits p _ (Act-F.Return _) (rolls-Return _) refl)
statement_layer_fits p given (Statement-F.Bank word name semicolon) =
    plain p given _ (λ in_loop resolver none. noted_grows resolver.faults _ none) (λ in_loop resolver. act_layer_fits p _ (Act-F.Bank _) (rolls-Bank _) refl)
statement_layer_fits p given (Statement-F.Step timed semicolon) =
    plain p given _ (λ in_loop resolver none. step_grows (seen given resolver) timed resolver.faults none) (λ in_loop resolver. act_layer_fits p _ (Act-F.Step _) (rolls-Step _) refl)

statement_rolled : (p : Program) (given : Given)
    (x : Statement-F Statement Block Otherwise) (y : StatementParts p given) → bare_statement p given y ≡ x → Running p given (statement given (roll-Statement x))
statement_rolled p given x y is =
    subst (Running p given) (sym (fold-roll-Statement Runs Inside Inside (statement_step given) block_step otherwise_step x))
    (subst (λ (l : Statement-F Statement Block Otherwise). Running p given (statement_runs given l)) is (statement_layer_fits p given y))

-- ---- blocks

run_each_grows : (p : Program) (given : Given) (parts : List (RunningStatement p given)) (in_loop : Bool) (resolver : Resolver)
    → (run_each (map (statement given) (map (λ part. part.0) parts)) in_loop resolver).resolver.faults ≡ [] → resolver.faults ≡ []
run_each_grows p given [] in_loop resolver none = none
run_each_grows p given (part ∷ parts) in_loop resolver none = part.1.grows in_loop resolver (run_each_grows p given parts in_loop _ none)

run_each_fits : (p : Program) (given : Given) → HasInvariants p.invs given → HasProcedures p given → (parts : List (RunningStatement p given)) (in_loop : Bool) (resolver : Resolver)
    → (run_each (map (statement given) (map (λ part. part.0) parts)) in_loop resolver).resolver.faults ≡ []
    → list_all (stmt_fits p) (run_each (map (statement given) (map (λ part. part.0) parts)) in_loop resolver).made ≡ true
run_each_fits p given invs procs [] in_loop resolver none = refl
run_each_fits p given invs procs (part ∷ parts) in_loop resolver none =
    and_from _ _ (part.1.fits invs procs in_loop resolver (run_each_grows p given parts in_loop _ none)) (run_each_fits p given invs procs parts in_loop _ none)

abbrev BlockParts : Program → Given → Type 0
BlockParts p given = Block-F (RunningStatement p given) (RunningBlock p given) (RunningOtherwise p given)

abbrev bare_block : (p : Program) (given : Given) → BlockParts p given → Block-F Statement Block Otherwise
bare_block p given y =
    map-Block (RunningStatement p given) (RunningBlock p given) (RunningOtherwise p given) Statement Block Otherwise (λ part. part.0) (λ part. part.0) (λ part. part.0) y

abbrev block_runs : Given → Block-F Statement Block Otherwise → Inside
block_runs given x = block_step (map-Block Statement Block Otherwise Runs Inside Inside (statement given) (block given) (otherwise given) x)

block_layer_fits : (p : Program) (given : Given) (y : BlockParts p given) → RunningInside p given (block_runs given (bare_block p given y))
block_layer_fits p given y = record {
  grows = λ in_loop resolver none. run_each_grows p given y.statements in_loop resolver none;
  fits = λ invs procs in_loop resolver none. run_each_fits p given invs procs y.statements in_loop resolver none;
}

block_rolled : (p : Program) (given : Given) (x : Block-F Statement Block Otherwise) (y : BlockParts p given) → bare_block p given y ≡ x
    → RunningInside p given (block given (roll-Block x))
block_rolled p given x y is =
    subst (RunningInside p given) (sym (fold-roll-Block Runs Inside Inside (statement_step given) block_step otherwise_step x))
    (subst (λ (l : Block-F Statement Block Otherwise). RunningInside p given (block_runs given l)) is (block_layer_fits p given y))

abbrev OtherwiseParts : Program → Given → Type 0
OtherwiseParts p given = Otherwise-F (RunningStatement p given) (RunningBlock p given) (RunningOtherwise p given)

abbrev bare_otherwise : (p : Program) (given : Given) → OtherwiseParts p given → Otherwise-F Statement Block Otherwise
bare_otherwise p given y =
    map-Otherwise (RunningStatement p given) (RunningBlock p given) (RunningOtherwise p given) Statement Block Otherwise (λ part. part.0) (λ part. part.0) (λ part. part.0) y

otherwise_rolled : (p : Program) (given : Given) (x : Otherwise-F Statement Block Otherwise) (y : OtherwiseParts p given) → bare_otherwise p given y ≡ x
    → RunningInside p given (otherwise given (roll-Otherwise x))
otherwise_rolled p given x y is =
    subst (RunningInside p given) (sym (fold-roll-Otherwise Runs Inside Inside (statement_step given) block_step otherwise_step x))
    (subst (λ (l : Otherwise-F Statement Block Otherwise). RunningInside p given (block given l.block)) is y.block.1)

pub block_fits : (p : Program) (given : Given) (b : Block) → RunningInside p given (block given b)
block_fits p given = ind-Block
    (λ (s : Statement). Running p given (statement given s)) (λ (b : Block). RunningInside p given (block given b)) (λ (o : Otherwise). RunningInside p given (otherwise given o))
    (statement_rolled p given) (block_rolled p given) (otherwise_rolled p given)
