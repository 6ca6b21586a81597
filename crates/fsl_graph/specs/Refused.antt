-- Small graphs, each with one fault, and the rule that refuses it. Location 1 is accessed, and 2 where there
-- are two; its initial write is left out where it has no part in the fault.
use Rattle.std.specs.Prelude.{ℕ, List, [], ◌∷◌, Option, Some, None, ℤ, pos}
use Rattle.fsl_core.specs.declared.label.Label.{Label}
use Rattle.fsl_core.specs.declared.label.Label.TheVariants as label
use Rattle.fsl_core.specs.declared.mode.AllocKind.TheVariants as kind
use Rattle.fsl_core.specs.declared.mode.Mode.{Mode}
use Rattle.fsl_core.specs.declared.mode.Mode.TheVariants as mode
use Rattle.fsl_core.specs.Moves.{Config}
use Rattle.fsl_graph.specs.declared.event.Event.{Event}
use Rattle.fsl_graph.specs.declared.graph.Graph.{Graph}
use Rattle.fsl_graph.specs.declared.graph.Order.{Order}
use Rattle.fsl_graph.specs.Sequenced.{IsAcyclic}
use Rattle.fsl_graph.specs.Consistent.{HasSources, HasOrders, HasNoLoop, IsCoherent, IsAtomic}
use Rattle.fsl_graph.specs.Safe.{IsSafe}

-- ---- words for graphs

abbrev pub graph : List Event → List Order → Graph
graph events mo = record { threads = []; events = events; mo = mo }

abbrev pub store : (thread : ℕ) → Mode → (loc value : ℤ) → Event
store t m l v = record { thread = t; label = label.Store m l v; from = None }

abbrev pub load : (thread : ℕ) → Mode → (loc value : ℤ) → Option ℕ → Event
load t m l v from = record { thread = t; label = label.Load m l v; from = from }

abbrev pub update : (thread : ℕ) → Mode → (loc old new : ℤ) → Option ℕ → Event
update t m l old new from = record { thread = t; label = label.Rmw m l old new; from = from }

abbrev pub other : (thread : ℕ) → Label → Event
other t shown = record { thread = t; label = shown; from = None }

abbrev pub order : ℤ → List ℕ → Order
order l writes = record { loc = l; writes = writes }

-- ---- one fault each

-- the load reads 8 from a store of 7
abbrev pub another_value : Graph
another_value = graph (store 0 mode.Rlx (pos 1) (pos 7) ∷ load 1 mode.Rlx (pos 1) (pos 8) (Some 0) ∷ []) (order (pos 1) (0 ∷ []) ∷ [])

-- the second store is in no modification order
abbrev pub lost_write : Graph
lost_write = graph (store 0 mode.Rlx (pos 1) (pos 7) ∷ store 1 mode.Rlx (pos 1) (pos 8) ∷ []) (order (pos 1) (0 ∷ []) ∷ [])

-- a thread starts itself
abbrev pub own_child : Graph
own_child = graph (other 0 (label.Print (pos 1)) ∷ other 0 (label.Fork (0 ∷ [])) ∷ []) []

-- a thread stores twice, and the order has the second store first
abbrev pub write_write : Graph
write_write = graph (store 0 mode.Rlx (pos 1) (pos 7) ∷ store 0 mode.Rlx (pos 1) (pos 8) ∷ []) (order (pos 1) (1 ∷ 0 ∷ []) ∷ [])

-- a thread reads the store of another, and then stores before it in the order
abbrev pub read_write : Graph
read_write = graph (store 1 mode.Rlx (pos 1) (pos 7) ∷ load 0 mode.Rlx (pos 1) (pos 7) (Some 0) ∷ store 0 mode.Rlx (pos 1) (pos 8) ∷ [])
    (order (pos 1) (2 ∷ 0 ∷ []) ∷ [])

-- a thread stores, and then reads the store of another that is before it in the order
abbrev pub write_read : Graph
write_read = graph (store 1 mode.Rlx (pos 1) (pos 7) ∷ store 0 mode.Rlx (pos 1) (pos 8) ∷ load 0 mode.Rlx (pos 1) (pos 7) (Some 0) ∷ [])
    (order (pos 1) (0 ∷ 1 ∷ []) ∷ [])

-- a thread reads two stores of another against their order
abbrev pub read_read : Graph
read_read = graph (store 1 mode.Rlx (pos 1) (pos 7) ∷ store 1 mode.Rlx (pos 1) (pos 8) ∷ load 0 mode.Rlx (pos 1) (pos 8) (Some 1)
    ∷ load 0 mode.Rlx (pos 1) (pos 7) (Some 0) ∷ []) (order (pos 1) (0 ∷ 1 ∷ []) ∷ [])

-- two increments read the same store
abbrev pub lost_update : Graph
lost_update = graph (store 0 mode.Rlx (pos 1) (pos 0) ∷ update 1 mode.Rlx (pos 1) (pos 0) (pos 1) (Some 0)
    ∷ update 2 mode.Rlx (pos 1) (pos 0) (pos 1) (Some 0) ∷ []) (order (pos 1) (0 ∷ 1 ∷ 2 ∷ []) ∷ [])

-- load buffering: each thread reads what the other stores later
abbrev pub load_buffering : Graph
load_buffering = graph (load 0 mode.Rlx (pos 1) (pos 7) (Some 3) ∷ store 0 mode.Rlx (pos 2) (pos 7) ∷ load 1 mode.Rlx (pos 2) (pos 7) (Some 1)
    ∷ store 1 mode.Rlx (pos 1) (pos 7) ∷ []) (order (pos 1) (3 ∷ []) ∷ order (pos 2) (1 ∷ []) ∷ [])

-- two threads store to a cell
abbrev pub race : Graph
race = graph (store 0 mode.Na (pos 1) (pos 7) ∷ store 1 mode.Na (pos 1) (pos 8) ∷ []) (order (pos 1) (0 ∷ 1 ∷ []) ∷ [])

-- a cell is read before anything is stored
abbrev pub uninitialised : Graph
uninitialised = graph (other 0 (label.Alloc kind.Na (pos 1)) ∷ load 0 mode.Na (pos 1) (pos 0) None ∷ []) []

-- a cell that nobody allocated is stored to
abbrev pub wild : Graph
wild = graph (store 0 mode.Na (pos 1) (pos 7) ∷ []) (order (pos 1) (0 ∷ []) ∷ [])

-- a cell is stored to behind its free
abbrev pub freed : Graph
freed = graph (other 0 (label.Alloc kind.Na (pos 1)) ∷ other 0 (label.Free (pos 1)) ∷ store 0 mode.Na (pos 1) (pos 7) ∷ []) (order (pos 1) (2 ∷ []) ∷ [])

pub record EachIsRefused : Type 0 where
  pub sources : HasSources another_value → ⊥
  pub orders : HasOrders lost_write → ⊥
  pub no_loop : HasNoLoop own_child → ⊥
  pub write_before_write : IsCoherent write_write → ⊥
  pub read_before_write : IsCoherent read_write → ⊥
  pub write_before_read : IsCoherent write_read → ⊥
  pub read_before_read : IsCoherent read_read → ⊥
  pub atomic : IsAtomic lost_update → ⊥
  pub acyclic : IsAcyclic load_buffering → ⊥
  pub data_race : (last : ℕ → Config) → IsSafe race last → ⊥
  pub no_source : (last : ℕ → Config) → IsSafe uninitialised last → ⊥
  pub not_allocated : (last : ℕ → Config) → IsSafe wild last → ⊥
  pub used_after_free : (last : ℕ → Config) → IsSafe freed last → ⊥
