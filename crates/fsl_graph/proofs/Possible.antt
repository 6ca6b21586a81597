-- A test that a graph is consistent, where happens-before goes along a relation that has a test itself and leads to
-- greater numbers. That the example graphs pass it is computed.
use Rattle.std.proofs.Common.{◌≡◌, ◌<◌, ℕ, zero, suc, Bool, true, not, ◌&&◌, ◌||◌, ◌==◌, nat_lt, nat_le, if◌then◌else◌, List, [], ◌∷◌, length, Option, Some, None, is_some, ℤ, subst, refl, arith}
use Rattle.std.specs.List.{list_any}
use Rattle.std.proofs.lemmas.Bool.{and_parts, ltb-true, leb-true, eqb-true}
use Rattle.fsl_graph.specs.declared.event.Event.{Event}
use Rattle.fsl_graph.specs.declared.graph.Graph.{Graph}
use Rattle.fsl_graph.specs.Events.{Is, read_by, Touch}
use Rattle.fsl_graph.specs.Sequenced.{Relation, SbEdge, In, Path, Edge, IsAcyclic}
use Rattle.fsl_graph.specs.Sequenced.Path.{one, more}
use Rattle.fsl_graph.specs.Sequenced.SbEdge.{by_order, by_fork, by_join}
use Rattle.fsl_graph.specs.Sequenced.Edge.{by_sb, by_rf}
use Rattle.fsl_graph.specs.Happens.{Hb}
use Rattle.fsl_graph.specs.Places.{Listed, ReadsAt, SourceAt}
use Rattle.fsl_graph.specs.Consistent.{IsConsistent, HasSources, HasOrders, IsCoherent, IsAtomic}
use Rattle.fsl_graph.specs.Edges.{is_in, sb_edge, edge}
use Rattle.fsl_graph.proofs.Along.{hb_along_edges}
use Rattle.fsl_graph.proofs.Edges.{in_is_in, sb_edges_decided, edges_decided}
use Rattle.fsl_graph.proofs.Acquiring.{none_acquires, along_sb}
use Rattle.fsl_graph.proofs.Closure.{closes, leads_from, leads_in, each_in}
use Rattle.fsl_graph.proofs.Forward.{is_event}
use Rattle.fsl_graph.proofs.Paths.{path_map}
use Rattle.fsl_graph.proofs.Every.{every, every_at, implies, placed, placed_at}
use Rattle.fsl_graph.proofs.Checked.{sources_ok, has_sources, orders_ok, has_orders, first_some}

abbrev pub By : (ℕ → ℕ → Bool) → Relation
By e a b = e a b ≡ true

-- each step leads to a greater number
abbrev ascending_ok : Graph → (ℕ → ℕ → Bool) → Bool
ascending_ok g e = every (λ b (y : Event). every (λ a (x : Event). not (e a b) || nat_lt a b) 0 g.events) 0 g.events

-- what leads to b, of the numbers below n and those that are found already
abbrev past : (ℕ → ℕ → Bool) → ℕ → ℕ → List ℕ → List ℕ
past e b zero found = found
past e b (suc n) found = past e b n (if e n b || list_any (λ c. e n c) found then n ∷ found else found)

-- the part has all that leads to b, and no step leads into it
abbrev past_ok : ℕ → (ℕ → ℕ → Bool) → List ℕ → ℕ → Bool
past_ok n e part b = closes e n part && leads_from e part b n

-- the places of what a in the part reads and writes, and of what b does, compare as they must
abbrev coherent_pair : Graph → Event → ℕ → Event → ℕ → Bool
coherent_pair g x a y b =
    placed nat_lt g.mo (Some a) (Some b) && (placed nat_lt g.mo x.from (Some b) && (placed nat_le g.mo (Some a) y.from && placed nat_le g.mo x.from y.from))

abbrev coherent_with : Graph → (ℕ → ℕ → Bool) → List ℕ → ℕ → Event → Bool
coherent_with g e part b y = past_ok (length g.events) e part b && every (λ a x. not (is_in a part) || coherent_pair g x a y b) 0 g.events

abbrev coherent_ok : Graph → (ℕ → ℕ → Bool) → Bool
coherent_ok g e = every (λ b y. coherent_with g e (past e b b []) b y) 0 g.events

-- each read has a source
abbrev has_source : Option Touch → Option ℕ → Bool
has_source None o = true
has_source (Some t) o = is_some o

abbrev reads_ok : Graph → Bool
reads_ok g = every (λ b (y : Event). has_source (read_by y.label) y.from) 0 g.events

abbrev atomic_at : Graph → ℕ → Event → Bool
atomic_at g e x = placed (λ j k. k == suc j) g.mo x.from (Some e)

abbrev atomic_ok : Graph → Bool
atomic_ok g = every (λ e x. atomic_at g e x) 0 g.events

abbrev pub passes : Graph → (ℕ → ℕ → Bool) → Bool
passes g e = sources_ok g && (orders_ok g && (ascending_ok g e && (coherent_ok g e && (reads_ok g && atomic_ok g))))

-- a step leads from an event to an event
pub record Ends (g : Graph) (a b : ℕ) : Type 0 where
  pub first : Event
  pub second : Event
  pub is_first : Is g a first
  pub is_second : Is g b second

record Passed (g : Graph) (e : ℕ → ℕ → Bool) : Type 0 where
  ends : (a b : ℕ) → e a b ≡ true → Ends g a b
  along : (a b : ℕ) → Hb g a b → Path (By e) a b
  sources : HasSources g
  orders : HasOrders g
  ascending : ascending_ok g e ≡ true
  coherent : coherent_ok g e ≡ true
  reads : reads_ok g ≡ true
  atomic : atomic_ok g ≡ true

passed : (g : Graph) (e : ℕ → ℕ → Bool) → ((a b : ℕ) → e a b ≡ true → Ends g a b) → ((a b : ℕ) → Hb g a b → Path (By e) a b) → passes g e ≡ true → Passed g e
passed g e ends along h =
    let a = and_parts (sources_ok g) _ h in
    let b = and_parts (orders_ok g) _ a.1 in
    let c = and_parts (ascending_ok g e) _ b.1 in
    let d = and_parts (coherent_ok g e) _ c.1 in
    let f = and_parts (reads_ok g) (atomic_ok g) d.1 in
    record { ends = ends; along = along; sources = has_sources g a.0; orders = has_orders g b.0; ascending = c.0; coherent = d.0; reads = f.0; atomic = f.1 }

step_up : (g : Graph) (e : ℕ → ℕ → Bool) → Passed g e → (a b : ℕ) → e a b ≡ true → a < b
step_up g e c a b r =
    let n = c.ends a b r in
    let t = every_at (λ b (y : Event). every (λ a (x : Event). not (e a b) || nat_lt a b) 0 g.events) b g.events n.second c.ascending n.is_second in
    let u = every_at (λ a (x : Event). not (e a b) || nat_lt a b) a g.events n.first t n.is_first in
    ltb-true a b (implies (e a b) (nat_lt a b) u r)

path_up : (g : Graph) (e : ℕ → ℕ → Bool) → Passed g e → (a b : ℕ) → Path (By e) a b → a < b
path_up g e c a b (one r) = step_up g e c a b r
path_up g e c a b (more {b = d} r p) = let k = step_up g e c a d r in let l = path_up g e c d b p in omega arith

-- ---- coherence

path_in : (g : Graph) (e : ℕ → ℕ → Bool) (part : List ℕ) → Passed g e → (a b : ℕ) → past_ok (length g.events) e part b ≡ true → Path (By e) a b → In a part
path_in g e part c a b h (one r) =
    let t = and_parts (closes e (length g.events) part) (leads_from e part b (length g.events)) h in
    let n = c.ends a b r in
    leads_in e part b (length g.events) a t.1 (is_event g a n.first n.is_first) r
path_in g e part c a b h (more {b = d} r p) =
    let t = and_parts (closes e (length g.events) part) (leads_from e part b (length g.events)) h in
    let n = c.ends a d r in
    each_in e part (length g.events) part a d t.0 (is_event g a n.first n.is_first) r (path_in g e part c d b h p)

record Pair (g : Graph) (a b : ℕ) (x y : Event) : Type 0 where
  both_write : placed nat_lt g.mo (Some a) (Some b) ≡ true
  first_reads : placed nat_lt g.mo x.from (Some b) ≡ true
  second_reads : placed nat_le g.mo (Some a) y.from ≡ true
  both_read : placed nat_le g.mo x.from y.from ≡ true

pair_of : (g : Graph) (e : ℕ → ℕ → Bool) → Passed g e → (a b : ℕ) (x y : Event) → Is g a x → Is g b y → Hb g a b → Pair g a b x y
pair_of g e c a b x y i j h =
    let part = past e b b [] in
    let t = every_at (λ b y. coherent_with g e (past e b b []) b y) b g.events y c.coherent j in
    let p = and_parts (past_ok (length g.events) e part b) (every (λ a x. not (is_in a part) || coherent_pair g x a y b) 0 g.events) t in
    let u = every_at (λ a x. not (is_in a part) || coherent_pair g x a y b) a g.events x p.1 i in
    let v = implies (is_in a part) (coherent_pair g x a y b) u (in_is_in a part (path_in g e part c a b p.0 (c.along a b h))) in
    let d = and_parts (placed nat_lt g.mo (Some a) (Some b)) _ v in
    let k = and_parts (placed nat_lt g.mo x.from (Some b)) _ d.1 in
    let f = and_parts (placed nat_le g.mo (Some a) y.from) (placed nat_le g.mo x.from y.from) k.1 in
    record { both_write = d.0; first_reads = k.0; second_reads = f.0; both_read = f.1 }

record Source (g : Graph) (e : ℕ) (l : ℤ) (k : ℕ) : Type 0 where
  event : Event
  is : Is g e event
  write : ℕ
  from : event.from ≡ Some write
  listed : Listed g l write k

source_of : (g : Graph) (test : ℕ → ℕ → Bool) → Passed g test → (e : ℕ) (l : ℤ) (k : ℕ) → ReadsAt g e l k → Source g e l k
source_of g test c e l k r =
    let x = r.reads.event in
    let t = every_at (λ b (y : Event). has_source (read_by y.label) y.from) e g.events x c.reads r.reads.is in
    let s = first_some x.from (subst (λ (o : Option Touch). has_source o x.from ≡ true) r.reads.reads t) in
    record { event = x; is = r.reads.is; write = s.0; from = s.1; listed = subst (λ (o : Option ℕ). SourceAt g l o k) s.1 r.source }

is_coherent : (g : Graph) (test : ℕ → ℕ → Bool) → Passed g test → IsCoherent g
is_coherent g test c = record {
  write_write = λ a b j k l h u v.
      let p = pair_of g test c a b u.writes.event v.writes.event u.writes.is v.writes.is h in
      let t = ltb-true u.listed.index v.listed.index (placed_at g c.orders nat_lt (Some a) (Some b) l a b j k p.both_write refl refl u.listed v.listed) in
      let m = u.listed.place in
      let n = v.listed.place in
      omega arith;
  read_write = λ a b j k l h u v.
      let s = source_of g test c a l j u in
      let p = pair_of g test c a b s.event v.writes.event s.is v.writes.is h in
      let t = ltb-true s.listed.index v.listed.index (placed_at g c.orders nat_lt s.event.from (Some b) l s.write b j k p.first_reads s.from refl s.listed v.listed) in
      let m = s.listed.place in
      let n = v.listed.place in
      omega arith;
  write_read = λ a b j k l h u v.
      let s = source_of g test c b l k v in
      let p = pair_of g test c a b u.writes.event s.event u.writes.is s.is h in
      let t = leb-true u.listed.index s.listed.index (placed_at g c.orders nat_le (Some a) s.event.from l a s.write j k p.second_reads refl s.from u.listed s.listed) in
      let m = u.listed.place in
      let n = s.listed.place in
      omega arith;
  read_read = λ a b j k l h u v.
      let s = source_of g test c a l j u in
      let r = source_of g test c b l k v in
      let p = pair_of g test c a b s.event r.event s.is r.is h in
      let t = leb-true s.listed.index r.listed.index (placed_at g c.orders nat_le s.event.from r.event.from l s.write r.write j k p.both_read s.from r.from s.listed r.listed) in
      let m = s.listed.place in
      let n = r.listed.place in
      omega arith;
}

is_atomic : (g : Graph) (test : ℕ → ℕ → Bool) → Passed g test → IsAtomic g
is_atomic g test c e j k m l old new u r w =
    let s = source_of g test c e l j r in
    let t = every_at (λ e x. atomic_at g e x) e g.events s.event c.atomic s.is in
    let q = eqb-true w.listed.index (suc s.listed.index) (placed_at g c.orders (λ j k. k == suc j) s.event.from (Some e) l s.write e j k t s.from refl s.listed w.listed) in
    let x = s.listed.place in
    let y = w.listed.place in
    omega arith

consistent : (g : Graph) (test : ℕ → ℕ → Bool) → Passed g test → IsConsistent g
consistent g test c = record {
  sources = c.sources;
  orders = c.orders;
  no_loop = λ e p. absurd (let l = path_up g test c e e (c.along e e p) in omega arith);
  coherent = is_coherent g test c;
  atomic = is_atomic g test c;
}

-- ---- by edges, and by thread order alone where nothing acquires

sb_ends : (g : Graph) (a b : ℕ) → SbEdge g a b → Ends g a b
sb_ends g a b (by_order p) = record { first = p.earlier; second = p.later; is_first = p.is_earlier; is_second = p.is_later }
sb_ends g a b (by_fork f) = record { first = f.fork; second = f.event; is_first = f.is_fork; is_second = f.is_event }
sb_ends g a b (by_join j) = record { first = j.last; second = j.join; is_first = j.is_last; is_second = j.is_join }

edge_ends : (g : Graph) → HasSources g → (a b : ℕ) → Edge g a b → Ends g a b
edge_ends g c a b (by_sb s) = sb_ends g a b s
edge_ends g c a b (by_rf r) = let s = c a b r in record { first = s.writes.event; second = r.reader; is_first = s.writes.is; is_second = r.is }

edge_path : (g : Graph) (a b : ℕ) → Path (Edge g) a b → Path (By (edge g)) a b
edge_path g a b p = path_map (λ a b r. one ((edges_decided g a b).1 r)) p

pub possible : (g : Graph) → passes g (edge g) ≡ true → IsConsistent g × IsAcyclic g
possible g h =
    let sources = has_sources g (and_parts (sources_ok g) _ h).0 in
    let c = passed g (edge g) (λ a b r. edge_ends g sources a b ((edges_decided g a b).0 r)) (λ a b p. edge_path g a b (hb_along_edges g a b p)) h in
    (consistent g (edge g) c, λ e p. absurd (let l = path_up g (edge g) c e e (edge_path g e e p) in omega arith))

pub consistent_by_sb : (g : Graph) → none_acquires g.events ≡ true → passes g (sb_edge g) ≡ true → IsConsistent g
consistent_by_sb g n h =
    let c = passed g (sb_edge g) (λ a b r. sb_ends g a b ((sb_edges_decided g a b).0 r))
    (λ a b p. path_map (λ a b r. one ((sb_edges_decided g a b).1 r)) (along_sb g n a b p)) h in
    consistent g (sb_edge g) c
