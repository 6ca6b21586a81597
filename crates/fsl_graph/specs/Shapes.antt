-- What must be ordered by happens-before in the example graphs, and what must not.
use Rattle.std.specs.Prelude.{ℕ, List}
use Rattle.fsl_graph.specs.declared.graph.Graph.{Graph}
use Rattle.fsl_graph.specs.Sequenced.{IsAcyclic}
use Rattle.fsl_graph.specs.Happens.{Hb}
use Rattle.fsl_graph.specs.Consistent.{IsConsistent}
use Rattle.fsl_graph.specs.Safe.{IsRace}
use Rattle.fsl_graph.specs.Graphs.{message_passing, relaxed_passing, fenced_passing, sequence_passing, fork_join, store_buffering, load_buffering}
use Rattle.fsl_graph.specs.Orders.{IsForwardOrder}

-- the graph is consistent, and its thread order and reads-from have no cycle together
abbrev pub IsPossible : Graph → Type 0
IsPossible g = IsConsistent g × IsAcyclic g

-- so all of them are
abbrev pub ShapesPossible : Type 0
ShapesPossible = IsPossible message_passing × IsPossible relaxed_passing × IsPossible fenced_passing × IsPossible sequence_passing
    × IsPossible fork_join × IsPossible store_buffering

-- the write of the message happens before its read
abbrev pub MessagePassed : Type 0
MessagePassed = Hb message_passing 4 7

abbrev pub FencesPass : Type 0
FencesPass = Hb fenced_passing 4 9

abbrev pub SequencePasses : Type 0
SequencePasses = Hb sequence_passing 4 8

-- by relaxed accesses alone it doesn't, and races with it
abbrev pub RelaxedRaces : Type 0
RelaxedRaces = IsRace relaxed_passing 4 7

-- what the parent did before the Fork, and what the child did before the Join
abbrev pub ForkPasses : Type 0
ForkPasses = Hb fork_join 1 3

abbrev pub JoinPasses : Type 0
JoinPasses = Hb fork_join 4 7

-- neither write of store buffering happens before the other thread's read
abbrev pub BuffersApart : Type 0
BuffersApart = (Hb store_buffering 5 8 → ⊥) × (Hb store_buffering 7 6 → ⊥)

-- load buffering is consistent, and no order of its events goes forward: its thread order and reads-from have a
-- cycle together
abbrev pub CycleHasNoOrder : Type 0
CycleHasNoOrder = IsConsistent load_buffering × ((order : List ℕ) → IsForwardOrder load_buffering order → ⊥)
