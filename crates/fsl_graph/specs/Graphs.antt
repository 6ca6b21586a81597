-- Small graphs, as examples: what must be ordered by happens-before in them, and what must not. Locations are
-- 1 and 2, thread 0 starts the others.
use Rattle.std.specs.Prelude.{ℕ, List, [], ◌∷◌, ◌++◌, Some, None, pos}
use Rattle.fsl_core.specs.declared.label.Label.{Label}
use Rattle.fsl_core.specs.declared.label.Label.TheVariants as label
use Rattle.fsl_core.specs.declared.mode.AllocKind.TheVariants as kind
use Rattle.fsl_core.specs.declared.mode.Mode.{Mode}
use Rattle.fsl_core.specs.declared.mode.Mode.TheVariants as mode
use Rattle.fsl_graph.specs.declared.event.Event.{Event}
use Rattle.fsl_graph.specs.declared.graph.Graph.{Graph}
use Rattle.fsl_graph.specs.declared.graph.Order.{Order}
use Rattle.fsl_graph.specs.declared.graph.Thread.{Thread}

-- a thread of so many moves, each thread with a procedure of its own
abbrev pub thread : ℕ → ℕ → Thread
thread t moves = record { proc = t; args = []; moves = moves }

-- an event of thread t without a source
abbrev pub does : ℕ → Label → Event
does t l = record { thread = t; label = l; from = None }

-- a read of thread t from the write w
abbrev pub reads : ℕ → Label → ℕ → Event
reads t l w = record { thread = t; label = l; from = Some w }

abbrev pub load : Mode → ℕ → ℕ → Label
load m l v = label.Load m (pos l) (pos v)

abbrev pub store : Mode → ℕ → ℕ → Label
store m l v = label.Store m (pos l) (pos v)

abbrev pub order : ℕ → List ℕ → Order
order l writes = record { loc = pos l; writes = writes }

-- thread 0 makes a non-atomic cell and an atomic flag of 0, and starts threads: events 0 to 3
abbrev pub setting : List ℕ → List Event
setting children =
    does 0 (label.Alloc kind.Na (pos 1)) ∷ does 0 (label.Alloc kind.Acq (pos 2)) ∷ does 0 (store mode.Rel 2 0) ∷ does 0 (label.Fork children) ∷ []

-- message passing, with these orders of the store and the load of the flag
abbrev pub passing : Mode → Mode → Graph
passing m n = record {
  threads = thread 0 4 ∷ thread 1 2 ∷ thread 2 2 ∷ [];
  events = setting (1 ∷ 2 ∷ []) ++
      does 1 (store mode.Na 1 42) ∷ does 1 (store m 2 1)
      ∷ reads 2 (load n 2 1) 5 ∷ reads 2 (load mode.Na 1 42) 4 ∷ [];
  mo = order 1 (4 ∷ []) ∷ order 2 (2 ∷ 5 ∷ []) ∷ [];
}

abbrev pub message_passing : Graph
message_passing = passing mode.Rel mode.Acq

-- the same by relaxed accesses alone
abbrev pub relaxed_passing : Graph
relaxed_passing = passing mode.Rlx mode.Rlx

-- by relaxed accesses and fences
abbrev pub fenced_passing : Graph
fenced_passing = record {
  threads = thread 0 4 ∷ thread 1 3 ∷ thread 2 3 ∷ [];
  events = setting (1 ∷ 2 ∷ []) ++
      does 1 (store mode.Na 1 42) ∷ does 1 (label.Fence mode.Rel) ∷ does 1 (store mode.Rlx 2 1)
      ∷ reads 2 (load mode.Rlx 2 1) 6 ∷ does 2 (label.Fence mode.Acq) ∷ reads 2 (load mode.Na 1 42) 4 ∷ [];
  mo = order 1 (4 ∷ []) ∷ order 2 (2 ∷ 6 ∷ []) ∷ [];
}

-- thread 2 reads and writes the flag in between, by a relaxed read-modify-write
abbrev pub sequence_passing : Graph
sequence_passing = record {
  threads = thread 0 4 ∷ thread 1 2 ∷ thread 2 1 ∷ thread 3 2 ∷ [];
  events = setting (1 ∷ 2 ∷ 3 ∷ []) ++
      does 1 (store mode.Na 1 42) ∷ does 1 (store mode.Rel 2 1)
      ∷ reads 2 (label.Rmw mode.Rlx (pos 2) (pos 1) (pos 2)) 5
      ∷ reads 3 (load mode.Acq 2 2) 6 ∷ reads 3 (load mode.Na 1 42) 4 ∷ [];
  mo = order 1 (4 ∷ []) ∷ order 2 (2 ∷ 5 ∷ 6 ∷ []) ∷ [];
}

-- thread 1 is started between two accesses of thread 0, and waited for
abbrev pub fork_join : Graph
fork_join = record {
  threads = thread 0 5 ∷ thread 1 3 ∷ [];
  events = does 0 (label.Alloc kind.Na (pos 1)) ∷ does 0 (store mode.Na 1 5) ∷ does 0 (label.Fork (1 ∷ []))
      ∷ reads 1 (load mode.Na 1 5) 1 ∷ does 1 (store mode.Na 1 6) ∷ does 1 (label.End (pos 0))
      ∷ does 0 (label.Join (record { thread = 1; value = pos 0 } ∷ [])) ∷ reads 0 (load mode.Na 1 6) 4 ∷ [];
  mo = order 1 (1 ∷ 4 ∷ []) ∷ [];
}

-- each of two threads writes one flag and reads the other before that is written: neither sees the other's write
abbrev pub store_buffering : Graph
store_buffering = record {
  threads = thread 0 5 ∷ thread 1 2 ∷ thread 2 2 ∷ [];
  events = does 0 (label.Alloc kind.Acq (pos 1)) ∷ does 0 (label.Alloc kind.Acq (pos 2))
      ∷ does 0 (store mode.Rel 1 0) ∷ does 0 (store mode.Rel 2 0) ∷ does 0 (label.Fork (1 ∷ 2 ∷ []))
      ∷ does 1 (store mode.Rel 1 1) ∷ reads 1 (load mode.Acq 2 0) 3
      ∷ does 2 (store mode.Rel 2 1) ∷ reads 2 (load mode.Acq 1 0) 2 ∷ [];
  mo = order 1 (2 ∷ 5 ∷ []) ∷ order 2 (3 ∷ 7 ∷ []) ∷ [];
}

-- each of two threads reads what the other writes after its own read
abbrev pub load_buffering : Graph
load_buffering = record {
  threads = thread 0 5 ∷ thread 1 2 ∷ thread 2 2 ∷ [];
  events = does 0 (label.Alloc kind.Acq (pos 1)) ∷ does 0 (label.Alloc kind.Acq (pos 2))
      ∷ does 0 (store mode.Rel 1 0) ∷ does 0 (store mode.Rel 2 0) ∷ does 0 (label.Fork (1 ∷ 2 ∷ []))
      ∷ reads 1 (load mode.Rlx 1 1) 8 ∷ does 1 (store mode.Rlx 2 1)
      ∷ reads 2 (load mode.Rlx 2 1) 6 ∷ does 2 (store mode.Rlx 1 1) ∷ [];
  mo = order 1 (2 ∷ 8 ∷ []) ∷ order 2 (3 ∷ 6 ∷ []) ∷ [];
}
