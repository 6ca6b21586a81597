-- Threads that have returned: their last event is an End.
use Rattle.std.specs.Prelude.{ℕ, ◌≡◌, ◌≤◌, ℤ}
use Rattle.fsl_core.specs.declared.label.Label.TheVariants as label
use Rattle.fsl_core.specs.Programs.{Program}
use Rattle.fsl_core.specs.Moves.{Config}
use Rattle.fsl_graph.specs.declared.event.Event.{Event}
use Rattle.fsl_graph.specs.declared.graph.Graph.{Graph}
use Rattle.fsl_graph.specs.Events.{Is}
use Rattle.fsl_graph.specs.Execution.{IsExecution, Awaits}

-- event d ends thread t, and is the last one of it
pub record IsEndOf (g : Graph) (t d : ℕ) (v : ℤ) : Type 0 where
  pub event : Event
  pub is : Is g d event
  pub thread : event.thread ≡ t
  pub ends : event.label ≡ label.End v
  pub last : (b : ℕ) (y : Event) → Is g b y → y.thread ≡ t → b ≤ d

-- the children that a Join of an execution waits for have ended, with the results that it gets
abbrev pub JoinedEnded : Type 0
JoinedEnded = (p : Program) (g : Graph) (last : ℕ → Config) → IsExecution p g last → (e t : ℕ) (v : ℤ) → Awaits g e t v → (d : ℕ) × IsEndOf g t d v
