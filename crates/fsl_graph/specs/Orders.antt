-- Forward orders: the events one by one, each behind all that lead to it by thread order or reads-from. A
-- statement about executions is proved along one: it holds at the start, and each next event keeps it.
use Rattle.std.specs.Prelude.{ℕ, ◌≡◌, ◌<◌, List, [], ◌∷◌, ◌++◌, length, ℤ}
use Rattle.fsl_core.specs.declared.mode.Mode.{Mode}
use Rattle.fsl_graph.specs.declared.event.Event.{Event}
use Rattle.fsl_graph.specs.declared.graph.Graph.{Graph}
use Rattle.fsl_graph.specs.Events.{Is, Updates}
use Rattle.fsl_graph.specs.Sequenced.{Relation, Path, In, Rf, Edge, IsAcyclic}
use Rattle.fsl_graph.specs.Happens.{Hb}
use Rattle.fsl_graph.specs.Consistent.{IsConsistent}

-- what leads into this part of the events is in it
abbrev pub IsClosed : Relation → List ℕ → Type 0
IsClosed R done = (a b : ℕ) → R a b → In b done → In a done

-- behind those that are done, the others go forward: each comes once, and behind all that lead to it
abbrev pub IsForwardFrom : Relation → List ℕ → List ℕ → Type 0
IsForwardFrom R done [] = Unit {0}
IsForwardFrom R done (b ∷ rest) = ((a : ℕ) → R a b → In a done) × (In b done → ⊥) × IsForwardFrom R (b ∷ done) rest

-- all events of the graph and no others, each once, with no edge that leads back
pub record IsForwardOrder (g : Graph) (order : List ℕ) : Type 0 where
  pub forward : IsForwardFrom (Edge g) [] order
  pub every : (e : ℕ) → e < length g.events → In e order
  pub only : (e : ℕ) → In e order → e < length g.events

-- event e, which is x, may come next: what leads to it is done, and it isn't done itself
pub record Comes (g : Graph) (done : List ℕ) (e : ℕ) (x : Event) : Type 0 where
  pub is : Is g e x
  pub closed : IsClosed (Edge g) done
  pub fresh : In e done → ⊥
  pub before : (a : ℕ) → Edge g a e → In a done

-- ---- what happens-before goes along

-- happens-before leads along sequenced-before and reads-from
abbrev pub HbAlongEdges : Type 0
HbAlongEdges = (g : Graph) (a b : ℕ) → Hb g a b → Path (Edge g) a b

-- what is closed under edges is closed under happens-before
abbrev pub ClosedUnderHb : Type 0
ClosedUnderHb = (g : Graph) (done : List ℕ) → IsClosed (Edge g) done → IsClosed (Hb g) done

-- so each prefix of a forward order is
abbrev pub PrefixesClosed : Type 0
PrefixesClosed = (g : Graph) (order front back : List ℕ) → IsForwardFrom (Edge g) [] order → order ≡ front ++ back → IsClosed (Hb g) front

-- the next event of a forward order may come next, and what is done with it is closed again
abbrev pub NextComes : Type 0
NextComes = (g : Graph) (done rest : List ℕ) (e : ℕ) (x : Event) → IsClosed (Edge g) done → IsForwardFrom (Edge g) done (e ∷ rest) → Is g e x
    → Comes g done e x × IsClosed (Edge g) (e ∷ done)

-- no two read-modify-writes read one source
abbrev pub OneUpdate : Type 0
OneUpdate = (g : Graph) → IsConsistent g → (w a b : ℕ) (m n : Mode) (l k i j p q : ℤ)
    → Updates g a m l i j → Updates g b n k p q → Rf g w a → Rf g w b → a ≡ b

-- ---- that there is one

-- each consistent acyclic graph has a forward order
abbrev pub ForwardOrder : Type 0
ForwardOrder = (g : Graph) → IsConsistent g → IsAcyclic g → (order : List ℕ) × IsForwardOrder g order

-- and a graph that has one is acyclic
abbrev pub OrderedIsAcyclic : Type 0
OrderedIsAcyclic = (g : Graph) (order : List ℕ) → IsForwardOrder g order → IsAcyclic g
