-- What scopes promise along statements: one level of each, what is still seen behind them, and where blocks inside of
-- a statement stand.
use Rattle.std.specs.Prelude.{◌≡◌, ℕ, true, List}
use Rattle.fsl_core.specs.declared.act.Act.{Act}
use Rattle.fsl_core.specs.declared.act.Act.TheOpen.{Act-F}
use Rattle.fsl_core.specs.declared.act.Act.TheFolds.{map-Act}
use Rattle.fsl_core.specs.declared.act.Act.TheViews.{out-Act}
use Rattle.fsl_core.specs.declared.act.Stmt.{Stmt}
use Rattle.fsl_core.specs.declared.assertion.Asrt.{Asrt}
use Rattle.fsl_core.specs.declared.declaration.Proc.{Proc}
use Rattle.fsl_core.specs.declared.expr.Cond.{Cond}
use Rattle.fsl_core.specs.declared.scope.Scope.{Scope}
use Rattle.fsl_core.specs.Scopes.{Scoped, sight_at, in_loop, tests, asrt_scoped, act_step, act_scoped, stmt_scoped, block_scoped, scope_after}
use Rattle.fsl_scoped.specs.Assertions.{is_shared}

-- a statement by what its act is
abbrev pub StatementsAreScoped : Type 0
StatementsAreScoped =
    (procs : List Proc) (stmt : Stmt)
    → stmt_scoped procs stmt ≡ act_step procs (map-Act Act Stmt Scoped Scoped (act_scoped procs) (stmt_scoped procs) (out-Act stmt.act))

abbrev pub BranchesFit : Type 0
BranchesFit =
    (procs : List Proc) (stmt : Stmt) (cond : Cond) (a b : List Stmt) (scope : Scope) → out-Act stmt.act ≡ Act-F.If cond a b
    → (stmt_scoped procs stmt).fits scope ≡ true
    → (tests scope cond ≡ true) × ((block_scoped procs a).fits scope ≡ true) × ((block_scoped procs b).fits scope ≡ true)
    × (scope_after procs stmt scope ≡ scope)

abbrev pub LoopsFit : Type 0
LoopsFit =
    (procs : List Proc) (stmt : Stmt) (cond : Cond) (inv : Asrt) (body : List Stmt) (scope : Scope) → out-Act stmt.act ≡ Act-F.While cond inv body
    → (stmt_scoped procs stmt).fits scope ≡ true
    → (tests scope cond ≡ true) × ((asrt_scoped inv).fits scope ≡ true) × ((block_scoped procs body).fits (in_loop scope) ≡ true)
    × (scope_after procs stmt scope ≡ scope)

-- what assertions see is seen behind statements, and as what it was
abbrev pub SightsStay : Type 0
SightsStay =
    (procs : List Proc) (stmts : List Stmt) (scope : Scope) (slot : ℕ) → (block_scoped procs stmts).fits scope ≡ true
    → is_shared (sight_at scope slot) ≡ true → sight_at ((block_scoped procs stmts).behind scope) slot ≡ sight_at scope slot

-- statements leave neither `ensures` nor a loop
abbrev pub FlagsStay : Type 0
FlagsStay =
    (procs : List Proc) (stmts : List Stmt) (scope : Scope)
    → (((block_scoped procs stmts).behind scope).in_ensures ≡ scope.in_ensures) × (((block_scoped procs stmts).behind scope).in_loop ≡ scope.in_loop)
