-- Views bound positions: what the holder of something knows of reads and writes nothing that its view hasn't.
use Rattle.std.specs.Prelude.{ℕ, ◌≡◌, ◌≤◌, List, Some, ℤ}
use Rattle.fsl_core.specs.declared.mode.Mode.{Mode}
use Rattle.fsl_graph.specs.declared.graph.Graph.{Graph}
use Rattle.fsl_graph.specs.Events.{Touches, read_by, written_by}
use Rattle.fsl_graph.specs.Positions.{Holder, Plain, Up, Down, Message, Position}
use Rattle.fsl_history.specs.declared.did.Did.{Did}
use Rattle.fsl_history.specs.History.{Done, done, views_of, replay}
use Rattle.fsl_history.specs.Lawful.{Lawful}
use Rattle.fsl_history.specs.Shown.{IsGraphOf}
use Rattle.fsl_view.specs.Seen.{Seen}

-- the view has what event e reads and what it writes, at their location
pub record IsWithin (h : List Done) (e : ℕ) (v : Seen) : Type 0 where
  pub reads : (m : Mode) (l x : ℤ) → read_by (done h e).event.label ≡ Some (Touches m l x) → (done h e).from_to ≤ v l
  pub writes : (m : Mode) (l x : ℤ) → written_by (done h e).event.label ≡ Some (Touches m l x) → (done h e).to ≤ v l

-- the view that stands for a position
abbrev pub view_of : List Done → Holder → Seen
view_of h (Plain t) = (views_of h t).cur
view_of h (Up t) = (views_of h t).rel
view_of h (Down t) = (views_of h t).acq
view_of h (Message w part) = (done h w).message

abbrev pub ViewsBoundPositions : Type 0
ViewsBoundPositions = (g : Graph) (h : List Did) → Lawful h → IsGraphOf g (replay h) → (past : List ℕ) (holder : Holder) (e : ℕ)
    → Position g past holder e → IsWithin (replay h) e (view_of (replay h) holder)
