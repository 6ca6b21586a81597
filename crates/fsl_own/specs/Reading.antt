-- What a thread reads and writes where it knows of all writes of the location.
use Rattle.std.specs.Prelude.{ℕ, List, ◌∷◌, ℤ}
use Rattle.fsl_core.specs.declared.mode.Mode.{Mode}
use Rattle.fsl_graph.specs.declared.event.Event.{Event}
use Rattle.fsl_graph.specs.declared.graph.Graph.{Graph}
use Rattle.fsl_graph.specs.Events.{Reads, Writes}
use Rattle.fsl_graph.specs.Sequenced.{In}
use Rattle.fsl_graph.specs.Consistent.{IsConsistent}
use Rattle.fsl_graph.specs.Orders.{Comes}
use Rattle.fsl_graph.specs.Positions.{Position, Holder}
use Rattle.fsl_graph.specs.Positions.{Holder as holder}
use Rattle.fsl_graph.specs.Reading.{IsLast, IsWritten, ReadsLast}

-- h knows of each write of l that is done
abbrev pub KnowsWrites : Graph → List ℕ → Holder → ℤ → Type 0
KnowsWrites g done h l = (w : ℕ) (m : Mode) (v : ℤ) → In w done → Writes g w m l v → Position g done h w

-- a thread that knows of all writes of a location reads the last of them
abbrev pub KnownIsRead : Type 0
KnownIsRead = (g : Graph) → IsConsistent g → (done : List ℕ) (e : ℕ) (x : Event) (m : Mode) (l v : ℤ) → Comes g done e x
    → Reads g e m l v → IsWritten g done l → KnowsWrites g done (holder.Plain x.thread) l → ReadsLast g done e l v

-- and what it writes there is the last one then, of which it knows with all others
abbrev pub KnownIsOverwritten : Type 0
KnownIsOverwritten = (g : Graph) → IsConsistent g → (done : List ℕ) (e : ℕ) (x : Event) (m : Mode) (l v : ℤ) → Comes g done e x
    → Writes g e m l v → KnowsWrites g done (holder.Plain x.thread) l
    → IsLast g (e ∷ done) l e × KnowsWrites g (e ∷ done) (holder.Plain x.thread) l
