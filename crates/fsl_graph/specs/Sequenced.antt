-- The order of threads: program order, the edges of starting and joining threads, and reads-from.
use Rattle.std.specs.Prelude.{ℕ, ◌≡◌, ◌<◌, ◌⊎◌, List, [], ◌∷◌, Some, ℤ, map}
use Rattle.fsl_core.specs.declared.label.Ended.{Ended}
use Rattle.fsl_core.specs.declared.label.Label.TheVariants as label
use Rattle.fsl_graph.specs.declared.event.Event.{Event}
use Rattle.fsl_graph.specs.declared.graph.Graph.{Graph}
use Rattle.fsl_graph.specs.Events.{Is}

-- a relation between events
abbrev pub Relation : Type 1
Relation = ℕ → ℕ → Type 0

-- its transitive closure: one step or more
pub data Path (R : Relation) : ℕ → ℕ → Type 0 where
  one : {a b : ℕ} → R a b → Path R a b
  more : {a b c : ℕ} → R a b → Path R b c → Path R a c

abbrev pub In : ℕ → List ℕ → Type 0
In x [] = ⊥
In x (y ∷ ys) = (x ≡ y) ⊎ In x ys

abbrev pub thread_of : Ended → ℕ
thread_of r = r.thread

-- program order: the list order of one thread's events
pub record Po (g : Graph) (a b : ℕ) : Type 0 where
  pub earlier : Event
  pub later : Event
  pub is_earlier : Is g a earlier
  pub is_later : Is g b later
  pub thread : earlier.thread ≡ later.thread
  pub before : a < b

-- from a Fork to each event of a thread that it starts (its first event would do: program order leads on)
pub record Forks (g : Graph) (a b : ℕ) : Type 0 where
  pub fork : Event
  pub event : Event
  pub children : List ℕ
  pub is_fork : Is g a fork
  pub is_event : Is g b event
  pub forks : fork.label ≡ label.Fork children
  pub child : In event.thread children

-- from the End of a thread to the Join that waits for it
pub record Joins (g : Graph) (a b : ℕ) : Type 0 where
  pub last : Event
  pub join : Event
  pub value : ℤ
  pub results : List Ended
  pub is_last : Is g a last
  pub is_join : Is g b join
  pub ends : last.label ≡ label.End value
  pub joins : join.label ≡ label.Join results
  pub child : In last.thread (map thread_of results)

-- an edge of sequenced-before
pub data SbEdge (g : Graph) (a b : ℕ) : Type 0 where
  by_order : Po g a b → SbEdge g a b
  by_fork : Forks g a b → SbEdge g a b
  by_join : Joins g a b → SbEdge g a b

-- sequenced-before, across starts and joins of threads (C11 5.1.2.3 for one thread)
abbrev pub Sb : Graph → Relation
Sb g = Path (SbEdge g)

-- reads-from: b reads what a wrote
pub record Rf (g : Graph) (a b : ℕ) : Type 0 where
  pub reader : Event
  pub is : Is g b reader
  pub source : reader.from ≡ Some a

-- an edge of sequenced-before or reads-from
pub data Edge (g : Graph) (a b : ℕ) : Type 0 where
  by_sb : SbEdge g a b → Edge g a b
  by_rf : Rf g a b → Edge g a b

-- thread order and reads-from have no cycle together
abbrev pub IsAcyclic : Graph → Type 0
IsAcyclic g = (e : ℕ) → Path (Edge g) e e → ⊥
