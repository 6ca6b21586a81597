-- The graph of a history, and what comes of it.
use Rattle.std.specs.Prelude.{ℕ, ◌≡◌, ◌<◌, ◌<ℤ◌, nat_lt, Bool, true, false, slice_get, List, [], ◌∷◌, length, map, reverse, Option, Some, None, ℤ, if◌then◌else◌}
use Rattle.std.specs.Ordering.{int_eq}
use Rattle.fsl_core.specs.declared.label.Label.{Label}
use Rattle.fsl_graph.specs.declared.event.Event.{Event}
use Rattle.fsl_graph.specs.declared.graph.Graph.{Graph}
use Rattle.fsl_graph.specs.declared.graph.Order.{Order}
use Rattle.fsl_graph.specs.Consistent.{IsConsistent}
use Rattle.fsl_graph.specs.Events.{Touch, Touches, written_by}
use Rattle.fsl_graph.specs.Places.{IsEntry}
use Rattle.fsl_graph.specs.Sequenced.{IsAcyclic}
use Rattle.fsl_history.specs.declared.did.Did.{Did}
use Rattle.fsl_history.specs.History.{Done, done, replay}
use Rattle.fsl_history.specs.Lawful.{Lawful}

-- ---- the writes of a location, by the ends of their intervals

abbrev pub is_at : Option Touch → ℤ → Bool
is_at None l = false
is_at (Some (Touches m k v)) l = int_eq k l

abbrev pub writes_at : Label → ℤ → Bool
writes_at x l = is_at (written_by x) l

-- before the first that ends later
abbrev pub insert_by : (end : ℕ → ℕ) → (to e : ℕ) → List ℕ → List ℕ
insert_by end to e [] = e ∷ []
insert_by end to e (w ∷ ws) = if nat_lt to (end w) then e ∷ (w ∷ ws) else w ∷ insert_by end to e ws

abbrev pub end_in : List Done → ℕ → ℕ
end_in h e = (done h e).to

abbrev pub order_of : List Done → ℤ → List ℕ
order_of [] l = []
order_of (d ∷ h) l = if writes_at d.event.label l then insert_by (end_in h) d.to (length h) (order_of h l) else order_of h l

-- ---- the graph

abbrev pub event_of : Done → Event
event_of d = d.event

-- g has the events of the history, and for each location that is written, the order of its writes
pub record IsGraphOf (g : Graph) (h : List Done) : Type 0 where
  pub events : g.events ≡ reverse (map event_of h)
  pub ascend : (i j : ℕ) (a b : Order) → IsEntry g i a → IsEntry g j b → i < j → a.loc <ℤ b.loc
  pub some : (i : ℕ) (o : Order) → IsEntry g i o → (e : ℕ) × (slice_get o.writes 0 ≡ Some e)
  pub order : (i : ℕ) (o : Order) → IsEntry g i o → o.writes ≡ order_of h o.loc
  pub every : (e : ℕ) (l : ℤ) → e < length h → writes_at (done h e).event.label l ≡ true → (i : ℕ) × (o : Order) × IsEntry g i o × (o.loc ≡ l)

-- the graph of a lawful history is consistent and acyclic
abbrev pub HistoryIsConsistent : Type 0
HistoryIsConsistent = (g : Graph) (h : List Did) → Lawful h → IsGraphOf g (replay h) → IsConsistent g × IsAcyclic g
