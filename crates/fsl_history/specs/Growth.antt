-- Executions with one more move of a thread, whatever their modification orders: they stay executions.
use Rattle.std.specs.Prelude.{ℕ, zero, suc, ◌≡◌, ◌<◌, ◌<ℤ◌, ◌+◌, ◌++◌, Bool, true, false, slice_get, List, [], ◌∷◌, length, Some, ℤ, pos}
use Rattle.fsl_core.specs.declared.label.Ended.{Ended}
use Rattle.fsl_core.specs.declared.label.Label.{Label}
use Rattle.fsl_core.specs.declared.label.Label.TheVariants as label
use Rattle.fsl_core.specs.declared.mode.AllocKind.{AllocKind}
use Rattle.fsl_core.specs.declared.need.Need.TheVariants as need
use Rattle.fsl_core.specs.declared.need.Reply.TheVariants as reply
use Rattle.fsl_core.specs.declared.need.Started.{Started}
use Rattle.fsl_core.specs.Moves.{Config, returned, showing, moved, need_of, start_of, numbers_from}
use Rattle.fsl_core.specs.Programs.{Program, main_of}
use Rattle.fsl_graph.specs.declared.event.Event.{Event}
use Rattle.fsl_graph.specs.declared.graph.Graph.{Graph}
use Rattle.fsl_graph.specs.declared.graph.Thread.{Thread}
use Rattle.fsl_graph.specs.Execution.{IsExecution, Starts, Allocates, Answers, reply_of}

-- the thread of a number has made one more move
abbrev pub one_more : ℕ → List Thread → List Thread
one_more t [] = []
one_more zero (x ∷ xs) = record x { moves = x.moves + 1 } ∷ xs
one_more (suc t) (x ∷ xs) = x ∷ one_more t xs

-- threads before their first moves
abbrev pub begun : List Started → List Thread
begun [] = []
begun (c ∷ cs) = record { proc = c.proc; args = c.args; moves = 0 } ∷ begun cs

abbrev pub is_fork : Label → Bool
is_fork (label.Fork ts) = true
is_fork _ = false

-- an execution whose Forks name threads that are there
pub record IsGoing (p : Program) (g : Graph) (last : ℕ → Config) : Type 0 where
  pub execution : IsExecution p g last
  pub there : (e t : ℕ) → Starts g e t → t < length g.threads

-- the next move of thread t is local
pub record MovesAlone (p : Program) (g h : Graph) (last after : ℕ → Config) (t : ℕ) : Type 0 where
  pub there : t < length g.threads
  pub local : need_of p (last t) ≡ need.Local
  pub threads : h.threads ≡ one_more t g.threads
  pub events : h.events ≡ g.events
  pub moves : after t ≡ (moved p (last t) reply.Nothing).config
  pub others : (u : ℕ) → (u ≡ t → ⊥) → after u ≡ last u

-- event x is the next move of its thread, and starts threads
pub record MovesBy (p : Program) (g h : Graph) (last after : ℕ → Config) (x : Event) (calls : List Started) : Type 0 where
  pub there : x.thread < length g.threads
  pub threads : h.threads ≡ one_more x.thread g.threads ++ begun calls
  pub events : h.events ≡ g.events ++ x ∷ []
  pub moves : moved p (last x.thread) (reply_of x.label) ≡ showing x.label (after x.thread)
  pub answers : Answers h (need_of p (last x.thread)) x.label
  pub others : (u : ℕ) → u < length g.threads → (u ≡ x.thread → ⊥) → after u ≡ last u
  pub starts : (i : ℕ) (c : Started) → slice_get calls i ≡ Some c → after (length g.threads + i) ≡ start_of p c.proc c.args
  -- a Fork gives the next numbers
  pub forks : (ts : List ℕ) → x.label ≡ label.Fork ts → ts ≡ numbers_from (length g.threads) (length calls)
  pub alone : is_fork x.label ≡ false → calls ≡ []
  -- a Join waits for threads that have returned
  pub joins : (rs : List Ended) (i : ℕ) (r : Ended) → x.label ≡ label.Join rs → slice_get rs i ≡ Some r
      → (r.thread < length g.threads) × (last r.thread ≡ returned r.value)
  -- an allocation gives a new location
  pub allocates : (k : AllocKind) (l : ℤ) → x.label ≡ label.Alloc k l → (pos 0 <ℤ l) × ((e : ℕ) (j : AllocKind) → Allocates g e j l → ⊥)

abbrev pub LocalMoveGoesOn : Type 0
LocalMoveGoesOn = (p : Program) (g h : Graph) (last after : ℕ → Config) (t : ℕ) → IsGoing p g last → MovesAlone p g h last after t → IsGoing p h after

abbrev pub EventGoesOn : Type 0
EventGoesOn = (p : Program) (g h : Graph) (last after : ℕ → Config) (x : Event) (calls : List Started)
    → IsGoing p g last → MovesBy p g h last after x calls → IsGoing p h after

-- before the first move there is one thread, which runs `main`
abbrev pub FirstGraphGoes : Type 0
FirstGraphGoes = (p : Program) (g : Graph) (proc : ℕ) → main_of p ≡ Some proc → g.threads ≡ record { proc = proc; args = []; moves = 0 } ∷ [] → g.events ≡ []
    → IsGoing p g (λ t. start_of p proc [])
