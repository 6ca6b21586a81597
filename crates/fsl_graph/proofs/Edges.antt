-- The tests of edges answer true exactly where there is one.
use Rattle.std.proofs.Common.{◌≡◌, ℕ, true, false, ◌==◌, ◌&&◌, ◌||◌, nat_lt, inl, inr, List, [], ◌∷◌, Option, Some, None, map, slice_get, ℤ, subst, sym, refl, ap}
use Rattle.std.proofs.lemmas.Bool.{or_cases, or_left, or_right, and_parts, and_from, eqb-true, eq-eqb, ltb-true, lt-ltb}
use Rattle.fsl_core.specs.declared.label.Ended.{Ended}
use Rattle.fsl_core.specs.declared.label.Label.{Label}
use Rattle.fsl_core.specs.declared.label.Label.TheVariants as label
use Rattle.fsl_graph.specs.declared.event.Event.{Event}
use Rattle.fsl_graph.specs.declared.graph.Graph.{Graph}
use Rattle.fsl_graph.specs.Events.{Is}
use Rattle.fsl_graph.specs.Sequenced.{In, thread_of, SbEdge, Rf, Edge}
use Rattle.fsl_graph.specs.Sequenced.SbEdge.{by_order, by_fork, by_join}
use Rattle.fsl_graph.specs.Sequenced.Edge.{by_sb, by_rf}
use Rattle.fsl_graph.specs.Edges.{is_in, starts, awaits, is_end, leads, both_lead, sb_edge, is_number, is_source, edge, SbEdgesDecided, EdgesDecided}

pub is_in_true : (x : ℕ) (ys : List ℕ) → is_in x ys ≡ true → In x ys
is_in_true x [] h = absurd (let f : false ≡ true = h in cc)
is_in_true x (y ∷ ys) h = elim (or_cases (x == y) (is_in x ys) h) [ inl e ↦ inl (eqb-true x y e) | inr i ↦ inr (is_in_true x ys i) ]

pub in_is_in : (x : ℕ) (ys : List ℕ) → In x ys → is_in x ys ≡ true
in_is_in x [] i = elim i [ ]
in_is_in x (y ∷ ys) (inl e) = or_left (x == y) (is_in x ys) (eq-eqb x y e)
in_is_in x (y ∷ ys) (inr i) = or_right (x == y) (is_in x ys) (in_is_in x ys i)

pub not_in : (x : ℕ) (ys : List ℕ) → is_in x ys ≡ false → In x ys → ⊥
not_in x ys h i = absurd (let k = in_is_in x ys i in cc)

-- ---- labels

none_true : {P : Type 0} → false ≡ true → P
none_true h = absurd (let f : false ≡ true = h in cc)

starts_true : (l : Label) (t : ℕ) → starts l t ≡ true → (children : List ℕ) × (l ≡ label.Fork children) × In t children
starts_true (label.Fork ts) t h = (ts, refl, is_in_true t ts h)
starts_true _ t h = none_true h

starts_from : (l : Label) (t : ℕ) (children : List ℕ) → l ≡ label.Fork children → In t children → starts l t ≡ true
starts_from l t ts e i = subst (λ (k : Label). starts k t ≡ true) (sym e) (in_is_in t ts i)

awaits_true : (l : Label) (t : ℕ) → awaits l t ≡ true → (results : List Ended) × (l ≡ label.Join results) × In t (map thread_of results)
awaits_true (label.Join rs) t h = (rs, refl, is_in_true t (map thread_of rs) h)
awaits_true _ t h = none_true h

awaits_from : (l : Label) (t : ℕ) (results : List Ended) → l ≡ label.Join results → In t (map thread_of results) → awaits l t ≡ true
awaits_from l t rs e i = subst (λ (k : Label). awaits k t ≡ true) (sym e) (in_is_in t (map thread_of rs) i)

end_true : (l : Label) → is_end l ≡ true → (v : ℤ) × (l ≡ label.End v)
end_true (label.End v) h = (v, refl)
end_true _ h = none_true h

end_from : (l : Label) (v : ℤ) → l ≡ label.End v → is_end l ≡ true
end_from l v e = subst (λ (k : Label). is_end k ≡ true) (sym e) refl

-- ---- events

order_edge : (g : Graph) (a b : ℕ) (x y : Event) → Is g a x → Is g b y → ((x.thread == y.thread) && nat_lt a b) ≡ true → SbEdge g a b
order_edge g a b x y p q h =
    let t = and_parts (x.thread == y.thread) (nat_lt a b) h in
    by_order (record { earlier = x; later = y; is_earlier = p; is_later = q; thread = eqb-true x.thread y.thread t.0; before = ltb-true a b t.1 })

fork_edge : (g : Graph) (a b : ℕ) (x y : Event) → Is g a x → Is g b y → starts x.label y.thread ≡ true → SbEdge g a b
fork_edge g a b x y p q h =
    let s = starts_true x.label y.thread h in
    by_fork (record { fork = x; event = y; children = s.0; is_fork = p; is_event = q; forks = s.1; child = s.2 })

join_edge : (g : Graph) (a b : ℕ) (x y : Event) → Is g a x → Is g b y → (is_end x.label && awaits y.label x.thread) ≡ true → SbEdge g a b
join_edge g a b x y p q h =
    let t = and_parts (is_end x.label) (awaits y.label x.thread) h in
    let e = end_true x.label t.0 in
    let s = awaits_true y.label x.thread t.1 in
    by_join (record { last = x; join = y; value = e.0; results = s.0; is_last = p; is_join = q; ends = e.1; joins = s.1; child = s.2 })

leads_edge : (g : Graph) (a b : ℕ) (x y : Event) → Is g a x → Is g b y → leads a b x y ≡ true → SbEdge g a b
leads_edge g a b x y p q h = elim (or_cases ((x.thread == y.thread) && nat_lt a b) (starts x.label y.thread || (is_end x.label && awaits y.label x.thread)) h) [
  | inl o ↦ order_edge g a b x y p q o
  | inr k ↦ elim (or_cases (starts x.label y.thread) (is_end x.label && awaits y.label x.thread) k) [
    | inl f ↦ fork_edge g a b x y p q f
    | inr j ↦ join_edge g a b x y p q j
  ]
]

both_edge : (g : Graph) (a b : ℕ) (o q : Option Event) → slice_get g.events a ≡ o → slice_get g.events b ≡ q → both_lead a b o q ≡ true → SbEdge g a b
both_edge g a b (Some x) (Some y) p q h = leads_edge g a b x y p q h
both_edge g a b (Some x) None p q h = none_true h
both_edge g a b None _ p q h = none_true h

both_from : (g : Graph) (a b : ℕ) (x y : Event) → Is g a x → Is g b y → leads a b x y ≡ true → sb_edge g a b ≡ true
both_from g a b x y p q h =
    subst (λ (o : Option Event). both_lead a b o (slice_get g.events b) ≡ true) (sym p)
    (subst (λ (o : Option Event). both_lead a b (Some x) o ≡ true) (sym q) h)

edge_sb : (g : Graph) (a b : ℕ) → SbEdge g a b → sb_edge g a b ≡ true
edge_sb g a b (by_order p) =
    both_from g a b p.earlier p.later p.is_earlier p.is_later
    (or_left ((p.earlier.thread == p.later.thread) && nat_lt a b) _
    (and_from (p.earlier.thread == p.later.thread) (nat_lt a b) (eq-eqb p.earlier.thread p.later.thread p.thread) (lt-ltb a b p.before)))
edge_sb g a b (by_fork f) =
    both_from g a b f.fork f.event f.is_fork f.is_event
    (or_right ((f.fork.thread == f.event.thread) && nat_lt a b) _
    (or_left (starts f.fork.label f.event.thread) _ (starts_from f.fork.label f.event.thread f.children f.forks f.child)))
edge_sb g a b (by_join j) =
    both_from g a b j.last j.join j.is_last j.is_join
    (or_right ((j.last.thread == j.join.thread) && nat_lt a b) _
    (or_right (starts j.last.label j.join.thread) _
    (and_from (is_end j.last.label) (awaits j.join.label j.last.thread) (end_from j.last.label j.value j.ends)
    (awaits_from j.join.label j.last.thread j.results j.joins j.child))))

pub sb_edges_decided : SbEdgesDecided
sb_edges_decided g a b = (both_edge g a b (slice_get g.events a) (slice_get g.events b) refl refl, edge_sb g a b)

number_true : (a : ℕ) (o : Option ℕ) → is_number a o ≡ true → o ≡ Some a
number_true a (Some n) h = ap Some (sym (eqb-true a n h))
number_true a None h = none_true h

source_edge : (g : Graph) (a b : ℕ) (o : Option Event) → slice_get g.events b ≡ o → is_source a o ≡ true → Rf g a b
source_edge g a b (Some y) p h = record { reader = y; is = p; source = number_true a y.from h }
source_edge g a b None p h = none_true h

edge_source : (g : Graph) (a b : ℕ) → Rf g a b → is_source a (slice_get g.events b) ≡ true
edge_source g a b r =
    subst (λ (o : Option Event). is_source a o ≡ true) (sym r.is)
    (subst (λ (o : Option ℕ). is_number a o ≡ true) (sym r.source) (eq-eqb a a refl))

test_edge : (g : Graph) (a b : ℕ) → edge g a b ≡ true → Edge g a b
test_edge g a b h = elim (or_cases (sb_edge g a b) (is_source a (slice_get g.events b)) h) [
  | inl s ↦ by_sb ((sb_edges_decided g a b).0 s)
  | inr r ↦ by_rf (source_edge g a b (slice_get g.events b) refl r)
]

edge_test : (g : Graph) (a b : ℕ) → Edge g a b → edge g a b ≡ true
edge_test g a b (by_sb s) = or_left (sb_edge g a b) _ (edge_sb g a b s)
edge_test g a b (by_rf r) = or_right (sb_edge g a b) _ (edge_source g a b r)

pub edges_decided : EdgesDecided
edges_decided g a b = (test_edge g a b, edge_test g a b)
