-- States of a machine on one thread, and its moves.
use Rattle.std.specs.Prelude.{ℕ, ◌+◌, List, [], ◌∷◌, Option, Some, None}
use Rattle.fsl_core.specs.declared.label.Label.{Label}
use Rattle.fsl_core.specs.declared.need.Need.{Need}
use Rattle.fsl_core.specs.Programs.{Program}
use Rattle.fsl_core.specs.Moves.{Config, Moved, need_of, moved, start_of}
use Rattle.fsl_graph.specs.declared.graph.Graph.{Graph}
use Rattle.fsl_graph.specs.declared.graph.Thread.{Thread}
use Rattle.fsl_machine.specs.History.{Trace, answer_of, recorded}

-- the program, the bound on moves, how the thread stands, and the graph so far
pub record State : Type 0 where
  pub program : Program
  pub bound : ℕ
  pub config : Config
  pub graph : Graph

-- the first thread has made one more move
abbrev pub one_more : List Thread → List Thread
one_more [] = []
one_more (t ∷ ts) = record t { moves = t.moves + 1 } ∷ ts

abbrev pub trace_of : Graph → Trace
trace_of g = record { events = g.events; mo = g.mo }

-- a move leaves the event of its label, if it has one
abbrev pub grown : Option Label → Trace → Trace
grown None t = t
grown (Some x) t = recorded x t

abbrev pub with_trace : List Thread → Trace → Graph
with_trace threads t = record { threads = threads; events = t.events; mo = t.mo }

abbrev pub with_move : Option Label → Graph → Graph
with_move label g = with_trace (one_more g.threads) (grown label (trace_of g))

-- what the next move asks
abbrev pub need_in : State → Need
need_in s = need_of s.program s.config

-- the move with the answer of the memory
abbrev pub move_in : State → Moved
move_in s = moved s.program s.config (answer_of (trace_of s.graph) (need_in s))

-- the state after the next move
abbrev pub next_state : State → State
next_state s = record s { config = (move_in s).config; graph = with_move (move_in s).label s.graph }

-- the graph of one thread, which runs the first procedure
abbrev pub lone_graph : ℕ → Trace → Graph
lone_graph moves t = with_trace (record { proc = 0; args = []; moves = moves } ∷ []) t

-- before the first move
abbrev pub first_state : Program → ℕ → State
first_state p bound = record { program = p; bound = bound; config = start_of p 0 []; graph = lone_graph 0 (record { events = []; mo = [] }) }
