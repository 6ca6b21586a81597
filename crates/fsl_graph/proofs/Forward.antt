-- Each consistent acyclic graph has a forward order.
use Rattle.std.proofs.Common.{◌<◌, ℕ, zero, suc, inl, inr, List, [], ◌∷◌, length, subst, arith}
use Rattle.std.proofs.lemmas.Option.{slice_get_within}
use Rattle.std.proofs.lemmas.Bool.{cases_eq}
use Rattle.fsl_graph.specs.declared.event.Event.{Event}
use Rattle.fsl_graph.specs.declared.graph.Graph.{Graph}
use Rattle.fsl_graph.specs.Events.{Is}
use Rattle.fsl_graph.specs.Sequenced.{Relation, Path, In, SbEdge, Edge}
use Rattle.fsl_graph.specs.Sequenced.Path.{one, more}
use Rattle.fsl_graph.specs.Sequenced.SbEdge.{by_order, by_fork, by_join}
use Rattle.fsl_graph.specs.Sequenced.Edge.{by_sb, by_rf}
use Rattle.fsl_graph.specs.Consistent.{IsConsistent}
use Rattle.fsl_graph.specs.Edges.{edge}
use Rattle.fsl_graph.specs.Orders.{IsClosed, IsForwardFrom, OrderedIsAcyclic, ForwardOrder}
use Rattle.fsl_graph.proofs.Edges.{edges_decided}
use Rattle.fsl_graph.proofs.Paths.{closed_more}
use Rattle.fsl_graph.proofs.Sorted.{IsLeft, sorted}

-- the numbers below n
below : ℕ → List ℕ
below zero = []
below (suc n) = n ∷ below n

in_below : (n e : ℕ) → e < n → In e (below n)
unfolding below
in_below zero e h = absurd (omega arith)
in_below (suc n) e h = elim (cases_eq e n) [ inl s ↦ inl s | inr d ↦ inr (in_below n e (omega arith)) ]

below_in : (n e : ℕ) → In e (below n) → e < n
unfolding below
below_in zero e i = elim i [ ]
below_in (suc n) e (inl s) = omega arith
below_in (suc n) e (inr i) = let h = below_in n e i in omega arith

pub is_event : (g : Graph) (e : ℕ) (x : Event) → Is g e x → e < length g.events
is_event g e x i = slice_get_within g.events e x i

pub sb_from : (g : Graph) (a b : ℕ) → SbEdge g a b → a < length g.events
sb_from g a b (by_order p) = is_event g a p.earlier p.is_earlier
sb_from g a b (by_fork f) = is_event g a f.fork f.is_fork
sb_from g a b (by_join j) = is_event g a j.last j.is_last

-- edges lead from events
edge_from : (g : Graph) → IsConsistent g → (a b : ℕ) → Edge g a b → a < length g.events
edge_from g c a b (by_sb s) = sb_from g a b s
edge_from g c a b (by_rf r) = let s = c.sources a b r in is_event g a s.writes.event s.writes.is

pub forward_order : ForwardOrder
forward_order g c acyclic =
    let n = length g.events in
    let all = below (length g.events) in
    let left : IsLeft (Edge g) all [] all = record {
      listed = λ y i. i;
      before = λ a b r i. inr (in_below n a (edge_from g c a b r));
      apart = λ y i d. d;
    } in
    let p = sorted (Edge g) (edge g) (edges_decided g) acyclic all (length all) [] all (omega arith) left in
    (p.0, record { forward = p.1.forward; every = λ e h. p.1.every e (in_below n e h); only = λ e i. below_in n e (p.1.only e i) })

-- ---- an order forbids cycles

-- whatever leads to b is done, where what leads there by one step is
leads_done : {R : Relation} (done : List ℕ) (a b : ℕ) → IsClosed R done → ((c : ℕ) → R c b → In c done) → Path R a b → In a done
leads_done done a b c f (one r) = f a r
leads_done done a b c f (more {b = d} r p) = c a d r (leads_done done d b c f p)

no_cycle : (R : Relation) (done rest : List ℕ) (e : ℕ) → IsClosed R done → IsForwardFrom R done rest → In e rest → Path R e e → ⊥
no_cycle R done [] e c f i p = elim i [ ]
no_cycle R done (b ∷ rest) e c f (inl s) p =
    f.1 (leads_done done b b c f.0 (subst (λ (n : ℕ). Path R n n) s p))
no_cycle R done (b ∷ rest) e c f (inr i) p = no_cycle R (b ∷ done) rest e (closed_more done b c f.0) f.2 i p

edge_to : (g : Graph) (a b : ℕ) → Edge g a b → b < length g.events
edge_to g a b (by_sb (by_order p)) = is_event g b p.later p.is_later
edge_to g a b (by_sb (by_fork f)) = is_event g b f.event f.is_event
edge_to g a b (by_sb (by_join j)) = is_event g b j.join j.is_join
edge_to g a b (by_rf r) = is_event g b r.reader r.is

path_to : (g : Graph) (a b : ℕ) → Path (Edge g) a b → b < length g.events
path_to g a b (one r) = edge_to g a b r
path_to g a b (more {b = d} r p) = path_to g d b p

pub ordered_is_acyclic : OrderedIsAcyclic
ordered_is_acyclic g order f e p = no_cycle (Edge g) [] order e (λ a b r i. i) f.forward (f.every e (path_to g e e p)) p
