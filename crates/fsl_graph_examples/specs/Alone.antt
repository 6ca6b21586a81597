-- What is asked of an execution, one by one, and graphs of which one thing alone isn't so.
use Rattle.std.specs.Prelude.{ℕ, zero, suc, ◌≡◌, List, [], ◌∷◌, drop, None, pos}
use Rattle.fsl_core.specs.declared.act.Stmt.{Stmt}
use Rattle.fsl_core.specs.declared.label.Label.TheVariants as label
use Rattle.fsl_core.specs.declared.mode.AllocKind.TheVariants as kind
use Rattle.fsl_core.specs.Programs.{Program}
use Rattle.fsl_core.specs.Moves.{Frame, Config, running, joining, start_of, Values}
use Rattle.fsl_graph.specs.declared.graph.Graph.{Graph}
use Rattle.fsl_graph.specs.Execution.{RunsMain, AreForked, FirstIsNoChild, AreForkedOnce, HaveThreads, ThreadsMove, JoinedReturn, ArePositive, IsDistinct}
use Rattle.fsl_graph.specs.Graphs.{does}
use Rattle.fsl_graph_examples.specs.Executions.{nesting, allocating, allocations, runs}

-- what an execution is asked
pub data Asked : Type 0 where
  main : Asked
  forked : Asked
  first : Asked
  once : Asked
  known : Asked
  moves : Asked
  joined : Asked
  positive : Asked
  distinct : Asked

abbrev pub Is : Asked → Program → Graph → (ℕ → Config) → Type 0
Is main p g last = RunsMain p g
Is forked p g last = AreForked g
Is first p g last = FirstIsNoChild g
Is once p g last = AreForkedOnce g
Is known p g last = HaveThreads g
Is moves p g last = ThreadsMove p g last
Is joined p g last = JoinedReturn g last
Is positive p g last = ArePositive g
Is distinct p g last = IsDistinct g

-- this alone isn't so
pub record Alone (a : Asked) (p : Program) (g : Graph) (last : ℕ → Config) : Type 0 where
  pub refused : Is a p g last → ⊥
  pub others : (b : Asked) → (b ≡ a → ⊥) → Is b p g last

-- ---- graphs

-- `main` at its start
abbrev pub at_start : ℕ → Config
at_start t = start_of nesting 0 []

abbrev pub ended_frame : Frame
ended_frame = record { stmts = []; env = []; target = None }

-- nobody runs
abbrev pub no_thread : Graph
no_thread = record { threads = []; events = []; mo = [] }

-- a second thread that nobody started
abbrev pub stray : Graph
stray = record { threads = runs 0 [] 0 ∷ runs 0 [] 0 ∷ []; events = []; mo = [] }

-- the first thread starts itself, and then waits for itself
abbrev pub own_child : Graph
own_child = record { threads = runs 0 [] 1 ∷ []; events = does 0 (label.Fork (0 ∷ [])) ∷ []; mo = [] }

abbrev pub waits_for : ℕ → ℕ → Config
waits_for child t = joining child 1 ended_frame []

-- two threads start one and the same
abbrev pub two_parents : Graph
two_parents = record { threads = runs 0 [] 1 ∷ runs 0 [] 1 ∷ []; events = does 0 (label.Fork (1 ∷ [])) ∷ does 1 (label.Fork (1 ∷ [])) ∷ []; mo = [] }

-- an event of a thread that isn't there
abbrev pub no_such_thread : Graph
no_such_thread = record { threads = runs 0 [] 0 ∷ []; events = does 5 (label.Print (pos 0)) ∷ []; mo = [] }

-- an event that is none of the thread's moves
abbrev pub no_move : Graph
no_move = record { threads = runs 0 [] 0 ∷ []; events = does 0 (label.Print (pos 0)) ∷ []; mo = [] }

-- a thread is waited for that hasn't returned
abbrev pub not_returned : Graph
not_returned = record {
  threads = runs 0 [] 2 ∷ runs 0 [] 0 ∷ [];
  events = does 0 (label.Fork (1 ∷ [])) ∷ does 0 (label.Join (record { thread = 1; value = pos 0 } ∷ [])) ∷ [];
  mo = [];
}

abbrev pub child_at_start : ℕ → Config
child_at_start zero = running ended_frame []
child_at_start (suc t) = start_of nesting 0 []

-- a location that isn't positive
abbrev pub nowhere : Graph
nowhere = record { threads = runs 0 [] 1 ∷ []; events = does 0 (label.Alloc kind.Na (pos 0)) ∷ []; mo = [] }

-- one location is allocated twice
abbrev pub made_twice : Graph
made_twice = record { threads = runs 0 [] 2 ∷ []; events = does 0 (label.Alloc kind.Na (pos 1)) ∷ does 0 (label.Alloc kind.Na (pos 1)) ∷ []; mo = [] }

-- where `allocating` stands with these statements before it and these variables
abbrev pub with_left : List Stmt → Values → ℕ → Config
with_left left env t = running (record { stmts = left; env = env; target = None }) []

pub record EachAloneRefuses : Type 0 where
  pub main_alone : Alone main nesting no_thread at_start
  pub forked_alone : Alone forked nesting stray at_start
  pub first_alone : Alone first nesting own_child (waits_for 0)
  pub once_alone : Alone once nesting two_parents (waits_for 1)
  pub known_alone : Alone known nesting no_such_thread at_start
  pub moves_alone : Alone moves nesting no_move at_start
  pub joined_alone : Alone joined nesting not_returned child_at_start
  pub positive_alone : Alone positive allocating nowhere (with_left (drop 1 allocations) (pos 0 ∷ pos 0 ∷ []))
  pub distinct_alone : Alone distinct allocating made_twice (with_left [] (pos 1 ∷ pos 1 ∷ []))
