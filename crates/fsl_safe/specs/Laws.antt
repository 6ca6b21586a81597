-- The laws of a thread's next event.
use Rattle.std.specs.Prelude.{ℕ, ◌≡◌, List, ◌∷◌}
use Rattle.fsl_core.specs.Programs.{Program}
use Rattle.fsl_core.specs.Moves.{Config}
use Rattle.fsl_graph.specs.declared.event.Event.{Event}
use Rattle.fsl_graph.specs.declared.graph.Graph.{Graph}
use Rattle.fsl_graph.specs.Events.{Is}
use Rattle.fsl_graph.specs.Sequenced.{In, Edge}
use Rattle.fsl_graph.specs.Execution.{IsExecution}
use Rattle.fsl_graph.specs.Orders.{Comes}
use Rattle.fsl_graph.specs.Threads.{Ahead}
use Rattle.fsl_safe.specs.Threads.{IsBegun, IsAwaited}

-- a thread that has an event was started, where what leads to this is done
abbrev pub EventBegun : Type 0
EventBegun = (p : Program) (g : Graph) (last : ℕ → Config) (done : List ℕ) (e : ℕ) (x : Event) → IsExecution p g last → Is g e x → ((a : ℕ) → Edge g a e → In a done) → IsBegun g done x.thread

-- a thread whose event comes next is none that somebody has waited for
abbrev pub NextUnawaited : Type 0
NextUnawaited = (p : Program) (g : Graph) (last : ℕ → Config) (done : List ℕ) (e : ℕ) (x : Event) → IsExecution p g last → Comes g done e x → IsAwaited g done x.thread → ⊥

-- what comes next of a thread is the first of those that are ahead
abbrev pub FirstAhead : Type 0
FirstAhead = (g : Graph) (done : List ℕ) (e : ℕ) (x : Event) (es : List ℕ) → Comes g done e x → Ahead g done x.thread es → (rest : List ℕ) × (es ≡ e ∷ rest)
