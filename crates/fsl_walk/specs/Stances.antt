-- How a path of the rules stands to a thread: the state of the path fits a part of what the thread has, while the frames
-- below it have the rest, and the run's variables are the path's where code sees them.
use Rattle.std.specs.Prelude.{ℕ, ◌≡◌, ◌≤◌, List, [], ◌∷◌, Option, ℤ, length}
use Rattle.fsl_base.specs.declared.span.Span.{Span}
use Rattle.fsl_core.specs.declared.declaration.Proc.{Proc}
use Rattle.fsl_core.specs.declared.label.Label.{Label}
use Rattle.fsl_core.specs.declared.need.Need.TheVariants as need
use Rattle.fsl_core.specs.declared.need.Reply.{Reply}
use Rattle.fsl_core.specs.declared.need.Reply.TheVariants as reply
use Rattle.fsl_core.specs.declared.act.Stmt.{Stmt}
use Rattle.fsl_core.specs.declared.scope.Scope.{Scope}
use Rattle.fsl_core.specs.Programs.{Program}
use Rattle.fsl_core.specs.Moves.{Config, running, Frame, Move, showing, returning}
use Rattle.fsl_core.specs.Scopes.{Sees}
use Rattle.fsl_core.specs.Verdicts.{End, derived, failed}
use Rattle.fsl_core.specs.logic.States.{State}
use Rattle.fsl_core.specs.logic.Assertions.{asrt_of}
use Rattle.fsl_core.specs.logic.Terms.{expr_of}
use Rattle.fsl_core.specs.logic.Calls.{finish}
use Rattle.fsl_core.specs.logic.Paths.{Ends, each, path_ends, Reading, reading_by}
use Rattle.fsl_lin.specs.Combination.{Combination}
use Rattle.fsl_lin.specs.Numbers.{Numbers}
use Rattle.fsl_meaning.specs.Means.{Means}
use Rattle.fsl_meaning.specs.Heaps.{Heap, Holds}
use Rattle.fsl_meaning.specs.States.{All, Fits}
use Rattle.fsl_good.specs.Pieces.{Piece, IsPossible}
use Rattle.fsl_good.specs.Good.{Shifts, Allows, Good}
use Rattle.fsl_held.specs.Heaps.{heap_of, ground_of, Kept}
use Rattle.fsl_held.specs.Asked.{Debt, logic_of}

-- ---- derived paths

abbrev pub AllDerived : List End → Type 0
AllDerived [] = Unit {0}
AllDerived (derived at ∷ es) = AllDerived es
AllDerived (failed at kind ∷ es) = ⊥

-- ---- a procedure that runs

-- what doesn't change while a procedure runs: what its thread owes, and who gets its result
pub record Activation : Type 0 where
  pub program : Program
  pub debt : Debt
  pub proc : Proc
  pub target : Option ℕ
  pub below : List Frame

abbrev pub reading : Activation → Reading
reading u = reading_by expr_of asrt_of u.program u.proc

abbrev pub config_of : Activation → List Stmt → List ℤ → Config
config_of u stmts env = running (record { stmts = stmts; env = env; target = u.target }) u.below

-- the thread is good for so many moves
abbrev pub IsGood : Activation → ℕ → Config → List Piece → Type 0
IsGood u m c xs = Good (logic_of u.program) u.program u.debt m c [] xs

-- so is its next move, where m more come after it
abbrev pub IsGoodMove : Activation → ℕ → Move → List Piece → Type 0
IsGoodMove u m move xs =
    (move.need ≡ need.Local → Shifts (IsGood u m (move.answered reply.Nothing).config) xs)
    × ((r : Reply) (shown : Label) (next : Config) → move.answered r ≡ showing shown next
    → Allows (logic_of u.program) u.debt move.need shown (λ waits ys. Good (logic_of u.program) u.program u.debt m next waits ys) [] xs)

-- ---- stances

-- a state fits a part of what the thread has, with the numbers of its symbols and of the path's variables; what is
-- `under` it belongs to the frames of loops and callers
pub record Stance (xs : List Piece) (under : Heap) (slots : List ℤ) (v : Numbers) (s : State) : Type 0 where
  pub mine : Heap
  pub fits : Fits slots (All (ground_of xs) mine) v s
  pub parts : Holds mine under (heap_of xs)

-- the run's variables are the path's, where code sees them as numbers
pub record Matches (scope : Scope) (env slots : List ℤ) : Type 0 where
  pub long : length env ≡ length slots
  pub sees : Sees scope env slots

-- ---- what comes after

-- these statements run well, for up to n moves, in every state from which `after` derives; since `base` nothing of
-- `under` has changed, and Q holds of the path's variables
abbrev pub Runs : Activation → ℕ → Ends → List Stmt → Scope → (List ℤ → Type 0) → List Piece → Heap → Type 0
Runs u n after stmts scope Q base under =
    (m : ℕ) → m ≤ n → (xs : List Piece) (slots env : List ℤ) (v : Numbers) (s : State) → Kept base under xs → Stance xs under slots v s → Matches scope env slots → Q slots
    → AllDerived (after s) → IsGood u m (config_of u stmts env) xs

-- a result is given back well
abbrev pub Returns : Activation → ℕ → (List ℤ → Type 0) → List Piece → Heap → Type 0
Returns u n Q base under =
    (m : ℕ) → m ≤ n → (xs : List Piece) (slots : List ℤ) (v : Numbers) (s : State) (t : Combination) (x : ℤ) (at : Span) → IsPossible xs → Kept base under xs → Stance xs under slots v s
    → Q slots → Means s.next v t x → AllDerived (each at (finish (asrt_of u.proc.post) t s) (λ y. path_ends at)) → IsGoodMove u m (returning u.target u.below x) xs
