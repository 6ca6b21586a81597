-- Places in modification order: of what an event writes, and of what it reads. They count from 1; a read
-- without a source has place 0, before all writes.
use Rattle.std.specs.Prelude.{ℕ, suc, ◌≡◌, slice_get, List, [], ◌∷◌, Option, Some, None, ℤ, if◌then◌else◌}
use Rattle.std.specs.Ordering.{int_eq}
use Rattle.fsl_core.specs.declared.mode.Mode.{Mode}
use Rattle.fsl_graph.specs.declared.graph.Graph.{Graph}
use Rattle.fsl_graph.specs.declared.graph.Order.{Order}
use Rattle.fsl_graph.specs.Events.{Reads, Writes}

-- the first entry of a location
abbrev pub order_of : List Order → ℤ → Option Order
order_of [] l = None
order_of (o ∷ os) l = if int_eq o.loc l then Some o else order_of os l

-- entry i of the modification orders
abbrev pub IsEntry : Graph → ℕ → Order → Type 0
IsEntry g i order = slice_get g.mo i ≡ Some order

-- event e stands at place k of an entry of l
pub record Listed (g : Graph) (l : ℤ) (e k : ℕ) : Type 0 where
  pub entry : ℕ
  pub order : Order
  pub is : IsEntry g entry order
  pub loc : order.loc ≡ l
  pub index : ℕ
  pub there : slice_get order.writes index ≡ Some e
  pub place : k ≡ suc index

-- e writes at l, at place k
pub record WritesAt (g : Graph) (e : ℕ) (l : ℤ) (k : ℕ) : Type 0 where
  pub mode : Mode
  pub value : ℤ
  pub writes : Writes g e mode l value
  pub listed : Listed g l e k

-- the place of a source
abbrev pub SourceAt : Graph → ℤ → Option ℕ → ℕ → Type 0
SourceAt g l None k = k ≡ 0
SourceAt g l (Some w) k = Listed g l w k

-- e reads at l, what stands at place k
pub record ReadsAt (g : Graph) (e : ℕ) (l : ℤ) (k : ℕ) : Type 0 where
  pub mode : Mode
  pub value : ℤ
  pub reads : Reads g e mode l value
  pub source : SourceAt g l reads.event.from k
