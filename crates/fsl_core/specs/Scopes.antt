-- Scopes: which variables are visible at each statement and assertion, each as a number or as a bank, and what each of
-- them declares and sets. A block's declarations end with it, and so do the binders of an arm, a modality, a part of an
-- invariant, a fence and a loop's invariant. Parameters, banks and binders are never set. Code reads no bank.
use Rattle.std.specs.Prelude.{ℕ, zero, suc, ◌+◌, if◌then◌else◌, Bool, true, false, ◌&&◌, ◌||◌, not, List, [], ◌∷◌, length, map, replicate, Option, Some, None, ℤ, ◌≡◌, ◌==◌, nat_lt, nat_le, get_or, slice_get, slice_set}
use Rattle.std.specs.List.{list_all, list_any}
use Rattle.fsl_core.specs.declared.act.Act.{Act}
use Rattle.fsl_core.specs.declared.act.Act.TheOpen.{Act-F, Stmt-F}
use Rattle.fsl_core.specs.declared.act.Act.TheFolds.{fold-Act, fold-Stmt}
use Rattle.fsl_core.specs.declared.act.Called.{Called}
use Rattle.fsl_core.specs.declared.act.Step.{Step}
use Rattle.fsl_core.specs.declared.act.Stmt.{Stmt}
use Rattle.fsl_core.specs.declared.assertion.Asrt.{Asrt}
use Rattle.fsl_core.specs.declared.assertion.Asrt.TheOpen.{Asrt-F}
use Rattle.fsl_core.specs.declared.assertion.Asrt.TheFolds.{fold-Asrt}
use Rattle.fsl_core.specs.declared.assertion.Inst.{Inst}
use Rattle.fsl_core.specs.declared.assertion.Pat.{Pat}
use Rattle.fsl_core.specs.declared.assertion.Pat.TheVariants as pat
use Rattle.fsl_core.specs.declared.declaration.Inv.{Inv}
use Rattle.fsl_core.specs.declared.declaration.Proc.{Proc}
use Rattle.fsl_core.specs.declared.expr.Cond.{Cond}
use Rattle.fsl_core.specs.declared.expr.Cond.TheVariants as cond
use Rattle.fsl_core.specs.declared.expr.Expr.{Expr}
use Rattle.fsl_core.specs.declared.expr.Expr.TheOpen.{Expr-F, Part-F}
use Rattle.fsl_core.specs.declared.expr.Expr.TheFolds.{fold-Expr}
use Rattle.fsl_core.specs.declared.scope.Scope.{Scope}
use Rattle.fsl_core.specs.declared.scope.Sight.{Sight}
use Rattle.fsl_core.specs.declared.scope.Sight.TheVariants as sight

-- ---- how a variable may be used

-- it is read as a number
abbrev pub is_number : Sight → Bool
is_number sight.Given = true
is_number sight.Bound = true
is_number sight.Local = true
is_number sight.Either = true
is_number _ = false

abbrev pub is_bank : Sight → Bool
is_bank sight.Bank = true
is_bank sight.Either = true
is_bank _ = false

abbrev pub is_free : Sight → Bool
is_free sight.Free = true
is_free _ = false

-- it is set: by that, one that isn't visible is declared
abbrev pub is_settable : Sight → Bool
is_settable sight.Free = true
is_settable sight.Local = true
is_settable _ = false

-- ---- scopes

-- what isn't among the slots is no variable
abbrev pub sight_at : Scope → ℕ → Sight
sight_at scope slot = get_or scope.sights slot sight.Kept

abbrev pub with_sight : ℕ → Sight → Scope → Scope
with_sight slot s scope = record scope { sights = slice_set scope.sights slot s }

-- two environments agree on the numbers that are visible
abbrev pub Sees : Scope → List ℤ → List ℤ → Type 0
Sees scope env slots = (slot : ℕ) → is_number (sight_at scope slot) ≡ true → slice_get env slot ≡ slice_get slots slot

abbrev pub in_loop : Scope → Scope
in_loop scope = record scope { in_loop = true }

abbrev pub in_ensures : Scope → Scope
in_ensures scope = record scope { in_ensures = true }

-- ---- expressions, conditions and arguments

abbrev pub reads_step : Scope → Expr-F Bool Bool → Bool
reads_step scope (Expr-F.Const n) = true
reads_step scope (Expr-F.Var slot) = is_number (sight_at scope slot)
reads_step scope Expr-F.Result_ = scope.in_ensures
reads_step scope (Expr-F.Neg e) = e
reads_step scope (Expr-F.Sum parts) = list_all (λ part. part) parts
reads_step scope (Expr-F.Product factors) = list_all (λ factor. factor) factors

abbrev pub part_reads_step : Part-F Bool Bool → Bool
part_reads_step part = part.e

-- an expression reads visible numbers alone, and the result in `ensures` alone
abbrev pub reads : Scope → Expr → Bool
reads scope = fold-Expr Bool Bool (reads_step scope) part_reads_step

abbrev pub reads_all : Scope → List Expr → Bool
reads_all scope = list_all (reads scope)

abbrev pub tests : Scope → Cond → Bool
tests scope cond.Yes = true
tests scope cond.No = true
tests scope (cond.Cmp op l r) = reads scope l && reads scope r

abbrev pub bank_step : Scope → Expr-F Bool Bool → Bool
bank_step scope (Expr-F.Var slot) = is_bank (sight_at scope slot)
bank_step scope _ = false

-- an expression is a variable that is a bank
abbrev pub is_bank_alone : Scope → Expr → Bool
is_bank_alone scope = fold-Expr Bool Bool (bank_step scope) part_reads_step

-- an argument of an invariant, whose parameters take both
abbrev pub inst_argument_fits : Scope → Expr → Bool
inst_argument_fits scope e = reads scope e || is_bank_alone scope e

abbrev pub inst_reads : Scope → Inst → Bool
inst_reads scope inst = list_all (inst_argument_fits scope) inst.args

-- an argument of a procedure, for a parameter that is a bank or a number
abbrev pub argument_fits : Scope → Bool → Expr → Bool
argument_fits scope true e = is_bank_alone scope e
argument_fits scope false e = reads scope e

-- arguments, the first of which is for the parameter `slot`, of a procedure with these banks
abbrev pub arguments_fit : Scope → List ℕ → ℕ → List Expr → Bool
arguments_fit scope banks slot [] = true
arguments_fit scope banks slot (e ∷ es) =
    argument_fits scope (list_any (λ bank. bank == slot) banks) e && arguments_fit scope banks (slot + 1) es

abbrev pub passes_to : Scope → List Expr → Option Proc → Bool
passes_to scope args None = false
passes_to scope args (Some proc) = arguments_fit scope proc.banks 0 args

abbrev pub passes : List Proc → Scope → ℕ → List Expr → Bool
passes procs scope proc args = passes_to scope args (slice_get procs proc)

abbrev pub step_reads : Scope → Step → Bool
step_reads scope step = is_bank (sight_at scope step.bank) && reads scope step.n

abbrev pub steps_read : Scope → List Step → Bool
steps_read scope = list_all (step_reads scope)

abbrev pub update_reads : Scope → Expr → Expr → List Step → Bool
update_reads scope at e steps = reads scope at && (reads scope e && steps_read scope steps)

-- ---- what stands in a scope

-- whether it may stand in a scope, and the scope behind it
pub record Scoped : Type 0 where
  pub fits : Scope → Bool
  pub behind : Scope → Scope

-- it declares nothing
abbrev pub still : (Scope → Bool) → Scoped
still fits = record { fits = fits; behind = λ scope. scope }

-- what it declares ends with it
abbrev pub apart : Scoped → Scoped
apart x = still x.fits

-- several, each behind the one before it
abbrev pub all_fit : List Scoped → Scope → Bool
all_fit [] scope = true
all_fit (x ∷ xs) scope = x.fits scope && all_fit xs (x.behind scope)

abbrev pub behind_all : List Scoped → Scope → Scope
behind_all [] scope = scope
behind_all (x ∷ xs) scope = behind_all xs (x.behind scope)

abbrev pub in_turn : List Scoped → Scoped
in_turn xs = record { fits = all_fit xs; behind = behind_all xs }

-- ---- assertions

abbrev pub pat_fits : Scope → Pat → Bool
pat_fits scope pat.Any = true
pat_fits scope (pat.Bind slot) = is_free (sight_at scope slot)
pat_fits scope (pat.Is e) = reads scope e

abbrev pub bound : Pat → Scope → Scope
bound (pat.Bind slot) scope = with_sight slot sight.Bound scope
bound _ scope = scope

abbrev pub asrt_step : Asrt-F Scoped → Scoped
asrt_step Asrt-F.Emp = still (λ scope. true)
asrt_step (Asrt-F.Fact cond) = still (λ scope. tests scope cond)
asrt_step (Asrt-F.Points at share pat) = record {
  fits = λ scope. reads scope at && (reads scope share && pat_fits scope pat);
  behind = bound pat;
}
asrt_step (Asrt-F.Init at) = still (λ scope. reads scope at)
asrt_step (Asrt-F.Rel at inst) = still (λ scope. reads scope at && inst_reads scope inst)
asrt_step (Asrt-F.Acq at inst part out) = still (λ scope. reads scope at && (inst_reads scope inst && reads_all scope out))
asrt_step (Asrt-F.RmwAcq at inst) = still (λ scope. reads scope at && inst_reads scope inst)
asrt_step (Asrt-F.Tok bank n) = still (λ scope. is_bank (sight_at scope bank) && reads scope n)
asrt_step (Asrt-F.Auth bank n) = still (λ scope. is_bank (sight_at scope bank) && reads scope n)
asrt_step (Asrt-F.Choice cond a b) = still (λ scope. tests scope cond && (a.fits scope && b.fits scope))
asrt_step (Asrt-F.Up a) = apart a
asrt_step (Asrt-F.Down a) = apart a
asrt_step (Asrt-F.Both parts) = in_turn parts

abbrev pub asrt_scoped : Asrt → Scoped
asrt_scoped = fold-Asrt Scoped asrt_step

-- ---- statements

-- a variable of the body is set
abbrev pub sets : ℕ → (Scope → Bool) → Scoped
sets slot fits = record { fits = λ scope. is_settable (sight_at scope slot) && fits scope; behind = with_sight slot sight.Local }

abbrev pub sets_result : Option ℕ → (Scope → Bool) → Scoped
sets_result None fits = still fits
sets_result (Some slot) fits = sets slot fits

abbrev pub declares_bank : ℕ → Scoped
declares_bank slot = record { fits = λ scope. is_free (sight_at scope slot); behind = with_sight slot sight.Bank }

-- one level of a statement
abbrev pub act_step : List Proc → Act-F Scoped Scoped → Scoped
act_step procs (Act-F.Set slot e) = sets slot (λ scope. reads scope e)
act_step procs (Act-F.AllocNa slot) = sets slot (λ scope. true)
act_step procs (Act-F.AllocAt slot rmw inst) = sets slot (λ scope. inst_reads scope inst)
act_step procs (Act-F.Free at) = still (λ scope. reads scope at)
act_step procs (Act-F.Load slot mode at) = sets slot (λ scope. reads scope at)
act_step procs (Act-F.Store mode at e) = still (λ scope. reads scope at && reads scope e)
act_step procs (Act-F.Cas slot mode miss at old new steps) =
    sets slot (λ scope. reads scope at && (reads scope old && (reads scope new && steps_read scope steps)))
act_step procs (Act-F.Add slot mode at e steps) = sets slot (λ scope. update_reads scope at e steps)
act_step procs (Act-F.Swap slot mode at e steps) = sets slot (λ scope. update_reads scope at e steps)
act_step procs (Act-F.Call slot proc args) = sets_result slot (λ scope. passes procs scope proc args)
act_step procs (Act-F.Par calls) = still (λ scope. list_all (λ call. passes procs scope call.proc call.args) calls)
act_step procs (Act-F.Fence mode asrt) = apart (asrt_scoped asrt)
act_step procs (Act-F.If cond a b) = still (λ scope. tests scope cond && (all_fit a scope && all_fit b scope))
act_step procs (Act-F.While cond inv body) =
    still (λ scope. tests scope cond && ((asrt_scoped inv).fits scope && all_fit body (in_loop scope)))
act_step procs (Act-F.Assert cond) = still (λ scope. tests scope cond)
act_step procs (Act-F.Print e) = still (λ scope. reads scope e)
act_step procs (Act-F.Return e) = still (λ scope. not scope.in_loop && reads scope e)
act_step procs (Act-F.Bank slot) = declares_bank slot
act_step procs (Act-F.Step step) = still (λ scope. step_reads scope step)

abbrev pub stmt_step : Stmt-F Scoped Scoped → Scoped
stmt_step stmt = stmt.act

abbrev pub act_scoped : List Proc → Act → Scoped
act_scoped procs = fold-Act Scoped Scoped (act_step procs) stmt_step

abbrev pub stmt_scoped : List Proc → Stmt → Scoped
stmt_scoped procs = fold-Stmt Scoped Scoped (act_step procs) stmt_step

abbrev pub block_scoped : List Proc → List Stmt → Scoped
block_scoped procs stmts = in_turn (map (stmt_scoped procs) stmts)

-- what is visible behind a statement
abbrev pub scope_after : List Proc → Stmt → Scope → Scope
scope_after procs stmt = (stmt_scoped procs stmt).behind

-- ---- invariants and procedures

-- the first n variables are seen so
abbrev pub with_first : ℕ → Sight → Scope → Scope
with_first zero s scope = scope
with_first (suc n) s scope = with_sight n s (with_first n s scope)

abbrev pub no_variables : Scope
no_variables = record { sights = replicate 256 sight.Kept; in_ensures = false; in_loop = false }

-- so many variables, none of which is visible
abbrev pub nothing_declared : ℕ → Scope
nothing_declared slots = with_first slots sight.Free no_variables

-- parameters that are banks
abbrev pub with_banks : ℕ → List ℕ → Scope → Scope
with_banks params [] scope = scope
with_banks params (bank ∷ banks) scope =
    with_banks params banks (if nat_lt bank params then with_sight bank sight.Bank scope else scope)

-- the parameters of a procedure
abbrev pub parameters_of : Proc → Scope
parameters_of proc = with_banks proc.params proc.banks (with_first proc.params sight.Given (nothing_declared proc.slots))

-- in the body, a binder of `requires` is neither visible nor declared
abbrev pub kept : Sight → Sight
kept sight.Bound = sight.Kept
kept s = s

abbrev pub in_body : Scope → Scope
in_body scope = record scope { sights = map kept scope.sights }

-- where a procedure has its `ensures`, and its body
abbrev pub behind_requires : Proc → Scope
behind_requires proc = (asrt_scoped proc.pre).behind (parameters_of proc)

abbrev pub has_room : Proc → Bool
has_room proc = nat_le proc.slots 256 && (nat_le proc.params proc.slots && nat_le (length proc.banks) proc.slots)

abbrev pub proc_is_scoped : List Proc → Proc → Bool
proc_is_scoped procs proc =
    has_room proc
    && ((asrt_scoped proc.pre).fits (parameters_of proc)
    && ((asrt_scoped proc.post).fits (in_ensures (behind_requires proc))
    && (block_scoped procs proc.body).fits (in_body (behind_requires proc))))

-- the parameters of an invariant, and the value of its location behind them
abbrev pub given_to : Inv → Scope
given_to inv = with_sight inv.params sight.Given (with_first inv.params sight.Either (nothing_declared inv.slots))

abbrev pub inv_is_scoped : Inv → Bool
inv_is_scoped inv =
    nat_le inv.slots 256 && (nat_lt inv.params inv.slots && list_all (λ part. (asrt_scoped part).fits (given_to inv)) inv.parts)
