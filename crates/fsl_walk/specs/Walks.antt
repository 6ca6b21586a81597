-- What the walk shows: statements that are scoped, and whose paths are derived, run well; with what comes after them.
use Rattle.std.specs.Prelude.{ℕ, ◌≡◌, ◌<◌, true, false, List, ◌++◌, map, Some, ℤ, ◌==◌, slice_get, slice_set}
use Rattle.std.specs.List.{list_all, list_any}
use Rattle.fsl_base.specs.declared.span.Span.{Span}
use Rattle.fsl_core.specs.declared.act.Act.TheOpen.{Act-F}
use Rattle.fsl_core.specs.declared.act.Called.{Called}
use Rattle.fsl_core.specs.declared.act.Stmt.{Stmt}
use Rattle.fsl_core.specs.declared.declaration.Proc.{Proc}
use Rattle.fsl_core.specs.declared.scope.Scope.{Scope}
use Rattle.fsl_core.specs.declared.scope.Sight.TheVariants as sight
use Rattle.fsl_core.specs.Programs.{Program}
use Rattle.fsl_core.specs.Moves.{act_move}
use Rattle.fsl_core.specs.Scopes.{is_number, sight_at, block_scoped, passes}
use Rattle.fsl_core.specs.WellFormed.{stmt_fits, child_fits, is_well_formed}
use Rattle.fsl_core.specs.logic.States.{State}
use Rattle.fsl_core.specs.logic.Assertions.{asrt_of}
use Rattle.fsl_core.specs.logic.Terms.{expr_of}
use Rattle.fsl_core.specs.logic.Locations.{setting_of}
use Rattle.fsl_core.specs.logic.Calls.{call_of, par}
use Rattle.fsl_core.specs.logic.Paths.{Ends, each, block, all_sets, stmt_of, ends_of}
use Rattle.fsl_lin.specs.Numbers.{Numbers}
use Rattle.fsl_meaning.specs.Heaps.{Heap}
use Rattle.fsl_good.specs.Pieces.{Piece, IsPossible}
use Rattle.fsl_held.specs.Heaps.{Kept}
use Rattle.fsl_walk.specs.Stances.{AllDerived, Activation, reading, config_of, IsGood, IsGoodMove, Stance, Matches, Runs, Returns}

-- every path of every procedure is derived
pub record IsDerived (p : Program) : Type 0 where
  pub well : is_well_formed p ≡ true
  pub each : (number : ℕ) (q : Proc) → slice_get p.procs number ≡ Some q → AllDerived (ends_of p q)

-- each local variable is among the first n, so a loop that sets it renews it
abbrev pub AreDeclared : Scope → ℕ → Type 0
AreDeclared scope n = (slot : ℕ) → sight_at scope slot ≡ sight.Local → slot < n

-- what code sees in one scope it sees in the other
abbrev pub SeesMore : Scope → Scope → Type 0
SeesMore less more = (slot : ℕ) → is_number (sight_at less slot) ≡ true → is_number (sight_at more slot) ≡ true

-- Q holds on where these variables are set
abbrev pub IsClosed : (List ℤ → Type 0) → List ℕ → Type 0
IsClosed Q sets = (slots : List ℤ) (slot : ℕ) (x : ℤ) → list_any (λ s. s == slot) sets ≡ true → Q slots → Q (slice_set slots slot x)

-- statements run well for up to m moves, and what comes after them with them
abbrev pub Walks : Activation → ℕ → Type 1
Walks u m =
    (stmts : List Stmt) (scope behind : Scope) (declared : ℕ) (rest : List Stmt) (after : Ends) (Q : List ℤ → Type 0) (base : List Piece) (under : Heap)
    → (block_scoped u.program.procs stmts).fits scope ≡ true → scope.in_ensures ≡ false → list_all (stmt_fits u.program) stmts ≡ true
    → AreDeclared scope declared → SeesMore behind scope → IsClosed Q (all_sets (map (stmt_of (reading u)) stmts))
    → Runs u m after rest behind Q base under → Returns u m Q base under
    → (xs : List Piece) (slots env : List ℤ) (v : Numbers) (s : State) → Kept base under xs → Stance xs under slots v s → Matches scope env slots → Q slots
    → AllDerived (block (map (stmt_of (reading u)) stmts) declared s after)
    → IsGood u m (config_of u (stmts ++ rest) env) xs

-- calls that run side by side are started and joined well
abbrev pub ParMoves : Activation → ℕ → Type 1
ParMoves u m =
    (calls : List Called) (stmt : Stmt) (scope : Scope) (rest : List Stmt) (after : Ends) (Q : List ℤ → Type 0) (base : List Piece) (under : Heap) (at : Span)
    → list_all (λ call. passes u.program.procs scope call.proc call.args) calls ≡ true → scope.in_ensures ≡ false → list_all (child_fits u.program) calls ≡ true
    → Runs u m after rest scope Q base under
    → (xs : List Piece) (slots env : List ℤ) (v : Numbers) (s : State) → IsPossible xs → Kept base under xs → Stance xs under slots v s → Matches scope env slots → Q slots
    → AllDerived (each at (par (setting_of asrt_of u.program) (map (call_of expr_of) calls) s) (λ x. after))
    → IsGoodMove u m (act_move u.program (Act-F.Par calls) stmt (record { stmts = rest; env = env; target = u.target }) u.below) xs
