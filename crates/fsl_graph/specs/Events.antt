-- The events of a graph by their numbers, and what each does to the memory: what it reads, what it writes,
-- and how it orders.
use Rattle.std.specs.Prelude.{ℕ, ◌≡◌, slice_get, Option, Some, None, ℤ}
use Rattle.fsl_core.specs.declared.label.Label.{Label}
use Rattle.fsl_core.specs.declared.label.Label.TheVariants as label
use Rattle.fsl_core.specs.declared.mode.Mode.{Mode}
pub use Rattle.fsl_core.specs.Modes.{is_atomic, acquires, releases}
use Rattle.fsl_graph.specs.declared.event.Event.{Event}
use Rattle.fsl_graph.specs.declared.graph.Graph.{Graph}

-- event e of the graph is x
abbrev pub Is : Graph → ℕ → Event → Type 0
Is g e x = slice_get g.events e ≡ Some x

-- ---- what a label reads and writes

-- an access of a location that reads or writes a value
pub data Touch : Type 0 where
  Touches : Mode → (loc value : ℤ) → Touch

abbrev pub read_by : Label → Option Touch
read_by (label.Load m l v) = Some (Touches m l v)
read_by (label.Rmw m l old new) = Some (Touches m l old)
read_by (label.Alloc k l) = None
read_by (label.Free l) = None
read_by (label.Store m l v) = None
read_by (label.Fence m) = None
read_by (label.Fork ts) = None
read_by (label.Join rs) = None
read_by (label.Print v) = None
read_by (label.End v) = None

abbrev pub written_by : Label → Option Touch
written_by (label.Store m l v) = Some (Touches m l v)
written_by (label.Rmw m l old new) = Some (Touches m l new)
written_by (label.Alloc k l) = None
written_by (label.Free l) = None
written_by (label.Load m l v) = None
written_by (label.Fence m) = None
written_by (label.Fork ts) = None
written_by (label.Join rs) = None
written_by (label.Print v) = None
written_by (label.End v) = None

-- event e reads v at l
pub record Reads (g : Graph) (e : ℕ) (m : Mode) (l v : ℤ) : Type 0 where
  pub event : Event
  pub is : Is g e event
  pub reads : read_by event.label ≡ Some (Touches m l v)

-- event e writes v at l
pub record Writes (g : Graph) (e : ℕ) (m : Mode) (l v : ℤ) : Type 0 where
  pub event : Event
  pub is : Is g e event
  pub writes : written_by event.label ≡ Some (Touches m l v)

-- event e is a read-modify-write
pub record Updates (g : Graph) (e : ℕ) (m : Mode) (l old new : ℤ) : Type 0 where
  pub event : Event
  pub is : Is g e event
  pub updates : event.label ≡ label.Rmw m l old new

pub record Fences (g : Graph) (e : ℕ) (m : Mode) : Type 0 where
  pub event : Event
  pub is : Is g e event
  pub fences : event.label ≡ label.Fence m
