-- The threads other than the one that moves stand as before.
use Rattle.std.proofs.Common.{◌≡◌, ◌≢◌, ◌≤◌, ◌<◌, ℕ, zero, suc, ◌⊎◌, inl, inr, List, [], ◌∷◌, map, length, Option, Some, None, slice_get, ℤ, refl, sym, ap, subst, ◌∙◌, arith}
use Rattle.std.proofs.lemmas.Bool.{cases_eq, cases_order}
use Rattle.fsl_core.specs.declared.label.Ended.{Ended}
use Rattle.fsl_core.specs.declared.label.Label.TheVariants as label
use Rattle.fsl_core.specs.Programs.{Program}
use Rattle.fsl_core.specs.Moves.{Config}
use Rattle.fsl_graph.specs.declared.event.Event.{Event}
use Rattle.fsl_graph.specs.declared.graph.Graph.{Graph}
use Rattle.fsl_graph.specs.Events.{Is}
use Rattle.fsl_graph.specs.Sequenced.{In, Edge, thread_of}
use Rattle.fsl_graph.specs.Sequenced.SbEdge.{by_order, by_fork as fork_edge, by_join as join_edge}
use Rattle.fsl_graph.specs.Sequenced.Edge.{by_sb}
use Rattle.fsl_graph.specs.Execution.{Starts, Awaits, IsExecution}
use Rattle.fsl_graph.specs.Keeping.{children_of}
use Rattle.fsl_graph.specs.Ends.{IsEndOf}
use Rattle.fsl_graph.specs.Orders.{Comes, IsClosed}
use Rattle.fsl_graph.specs.Threads.{IsAscending, Ahead}
use Rattle.fsl_graph.proofs.Ended.{joined_ended}
use Rattle.fsl_graph.proofs.Threads.{one_event, below_each}
use Rattle.fsl_own.specs.Owning.{Resource, World, Known, KeepsDeals}
use Rattle.fsl_own.proofs.Knowing.{positions_grow}
use Rattle.fsl_own.proofs.Telling.{awaited}
use Rattle.fsl_good.specs.Pieces.{Level, holder_of, Piece, all_placed, AtPlain, Fits}
use Rattle.fsl_good.specs.Good.{Logic, Good}
use Rattle.fsl_good.specs.Keeping.{Keeps}
use Rattle.fsl_good.proofs.Shifting.{pieces_stay}
use Rattle.fsl_safe.specs.Laws.{EventBegun, NextUnawaited, FirstAhead}
use Rattle.fsl_safe.specs.Threads.{IsBegun, IsAwaited, IsChild, Ends, Goes, HasEnded}

-- ---- events that are ahead

pub ahead_own : (g : Graph) (done : List ℕ) (t e : ℕ) (rest : List ℕ) → Ahead g done t (e ∷ rest) → Ahead g (e ∷ done) t rest
ahead_own g done t e rest a = record {
  new = λ d i j. elim j [
    | inl q ↦ absurd (let l = below_each e rest a.ascending.0 d i in omega arith)
    | inr o ↦ a.new d (inr i) o
  ];
  from = λ d i. a.from d (inr i);
  to = λ d x is s n. elim (a.to d x is s (λ o. n (inr o))) [ inl q ↦ absurd (n (inl q)) | inr i ↦ i ];
  ascending = a.ascending.1;
}

pub ahead_other : (g : Graph) (done : List ℕ) (u e : ℕ) (x : Event) (es : List ℕ) → Is g e x → (x.thread ≡ u → ⊥) → Ahead g done u es → Ahead g (e ∷ done) u es
ahead_other g done u e x es is n a = record {
  new = λ d i j. elim j [
    | inl q ↦ let h = a.from d i in n (ap (λ (y : Event). y.thread) (one_event g e x h.0 is (subst (λ (z : ℕ). Is g z h.0) q h.1)) ∙ h.2)
    | inr o ↦ a.new d i o
  ];
  from = a.from;
  to = λ d y p s o. a.to d y p s (λ q. o (inr q));
  ascending = a.ascending;
}

-- what comes next of a thread is the first of those that are ahead
pub first_ahead : FirstAhead
first_ahead g done e x [] comes a = elim (a.to e x comes.is refl comes.fresh) [ ]
first_ahead g done e x (d ∷ rest) comes a = by (a.to e x comes.is refl comes.fresh)
  where
    by : (e ≡ d) ⊎ In e rest → (more : List ℕ) × (d ∷ rest ≡ e ∷ more)
    by (inl q) = (rest, ap (λ (z : ℕ). z ∷ rest) (sym q))
    by (inr i) =
        let h = a.from d (inl refl) in
        absurd (a.new d (inl refl) (comes.before d (by_sb (by_order (record {
          earlier = h.0;
          later = x;
          is_earlier = h.1;
          is_later = comes.is;
          thread = h.2;
          before = below_each d rest a.ascending.0 e i;
        })))))

-- ---- who was started, and for whom was waited

-- a thread that has an event was started, where what leads to this is done
pub event_begun : EventBegun
event_begun p g last done e x ex is before = elim (cases_eq x.thread 0) [
  | inl z ↦ inl z
  | inr n ↦
      let f = ex.forked x.thread (omega arith) (ex.known e x is) in
      inr (
        f.0,
        before f.0 (by_sb (fork_edge (record {
          fork = f.1.event;
          event = x;
          children = f.1.children;
          is_fork = f.1.is;
          is_event = is;
          forks = f.1.forks;
          child = f.1.child;
        }))),
        f.1,
      )
]

-- where somebody has waited for a thread, its last event is done
pub awaited_done : (p : Program) (g : Graph) (last : ℕ → Config) (done : List ℕ) (t : ℕ) → IsExecution p g last → IsClosed (Edge g) done → IsAwaited g done t → (d : ℕ) × (v : ℤ) × IsEndOf g t d v × In d done
awaited_done p g last done t ex closed (j, v, past, w) =
    let n = joined_ended p g last ex j t v w in (
      n.0,
      v,
      n.1,
      closed n.0 j (by_sb (join_edge (record {
        last = n.1.event;
        join = w.event;
        value = v;
        results = w.results;
        is_last = n.1.is;
        is_join = w.is;
        ends = n.1.ends;
        joins = w.joins;
        child = subst (λ (s : ℕ). In s (map thread_of w.results)) (w.thread ∙ sym n.1.thread) (awaited w.results w.entry w.ended w.among);
      }))) past,
    )

-- a thread whose event comes next is none that somebody has waited for
pub next_unawaited : NextUnawaited
next_unawaited p g last done e x ex comes w =
    let n = awaited_done p g last done x.thread ex comes.closed w in
    let most = n.2.last e x comes.is refl in
    elim (cases_eq e n.0) [
      | inl q ↦ comes.fresh (subst (λ (z : ℕ). In z done) (sym q) n.3)
      | inr f ↦ comes.fresh (comes.closed e n.0 (by_sb (by_order (record {
        earlier = x;
        later = n.2.event;
        is_earlier = comes.is;
        is_later = n.2.is;
        thread = sym n.2.thread;
        before = omega arith;
      }))) n.3)
    ]

-- ---- other threads

map_same : {A : Type 0} (f h : ℕ → A) (xs : List ℕ) → ((u : ℕ) → In u xs → h u ≡ f u) → map f xs ≡ map h xs
map_same f h [] same = refl
map_same f h (x ∷ xs) same = let e = same x (inl refl) in let r = map_same f h xs (λ u i. same u (inr i)) in cc

-- what an event of another thread leaves to thread u
pub record Left (l : Logic) (g : Graph) (done : List ℕ) (e : ℕ) (k k' : Known) (w w' : World) (owed owed' : ℕ → l.Owed) (u : ℕ) : Type 0 where
  pub keeps : (a : Level) → Keeps k k' w w' (holder_of u a)
  pub deals : KeepsDeals k k'
  pub same : (v : ℕ) → IsBegun g done v → owed' v ≡ owed v
  pub begun : IsBegun g done u
  pub waits : (v : ℕ) (r : ℤ) → IsChild g done u v → Awaits g e v r → ⊥

pub fits_left : (g : Graph) (done : List ℕ) (e : ℕ) (k k' : Known) (w w' : World) (u : ℕ) (xs : List Piece) → ((a : Level) → Keeps k k' w w' (holder_of u a)) → KeepsDeals k k' → Fits g done k w u xs → Fits g (e ∷ done) k' w' u xs
fits_left g done e k k' w w' u xs keeps deals f = record {
  enough = λ a r. let p = f.enough a r in let q = (keeps a).grows r in omega arith;
  right = pieces_stay g done (e ∷ done) k k' u xs (λ a i. inr i) (λ a b p. positions_grow g done e (holder_of u a) b p) deals (λ a r o. (keeps a).agree r (let p = f.enough a r in omega arith)) f.right;
}

goes_on : (l : Logic) (p : Program) (g : Graph) (done : List ℕ) (e : ℕ) (x : Event) (k k' : Known) (w w' : World) (owed owed' : ℕ → l.Owed) (u : ℕ) (last : Config) → Is g e x → (x.thread ≡ u → ⊥)
    → Left l g done e k k' w w' owed owed' u → Goes l p g done k w owed u last → Goes l p g (e ∷ done) k' w' owed' u last
goes_on l p g done e x k k' w w' owed owed' u last is n h s = record {
  config = s.config;
  moves = s.moves;
  events = s.events;
  runs = s.runs;
  ahead = ahead_other g done u e x s.events is n s.ahead;
  children = λ v i. let c = s.children v i in record {
    fork = c.fork;
    past = inr c.past;
    starts = c.starts;
    parent = c.parent;
    unawaited = λ (j, r, past, w). elim past [ inl q ↦ h.waits v r c (subst (λ (z : ℕ). Awaits g z v r) q w) | inr o ↦ c.unawaited (j, r, o, w) ];
  };
  pieces = s.pieces;
  fits = fits_left g done e k k' w w' u s.pieces h.keeps h.deals s.fits;
  good = subst (λ (os : List l.Owed). Good l p (owed' u) s.moves s.config os s.pieces) (map_same owed owed' (children_of s.config) (λ v i. let c = s.children v i in h.same v (inr (c.fork, c.past, c.starts))))
      (subst (λ (o : l.Owed). Good l p o s.moves s.config (map owed (children_of s.config)) s.pieces) (sym (h.same u h.begun)) s.good);
  unended = λ d i c. elim i [ inl q ↦ n (ap (λ (y : Event). y.thread) (one_event g e x c.event is (subst (λ (z : ℕ). Is g z c.event) q c.is)) ∙ c.thread) | inr o ↦ s.unended d o c ];
}

pub stands_after : (l : Logic) (p : Program) (g : Graph) (done : List ℕ) (e : ℕ) (x : Event) (k k' : Known) (w w' : World) (owed owed' : ℕ → l.Owed) (u : ℕ) (last : Config) → Is g e x → (x.thread ≡ u → ⊥)
    → Left l g done e k k' w w' owed owed' u → Goes l p g done k w owed u last ⊎ HasEnded l g done k w owed u last → Goes l p g (e ∷ done) k' w' owed' u last ⊎ HasEnded l g (e ∷ done) k' w' owed' u last
stands_after l p g done e x k k' w w' owed owed' u last is n h (inl s) = inl (goes_on l p g done e x k k' w w' owed owed' u last is n h s)
stands_after l p g done e x k k' w w' owed owed' u last is n h (inr s) = inr (record {
  value = s.value;
  at = s.at;
  over = λ d y q r. inr (s.over d y q r);
  atoms = s.atoms;
  pays = subst (λ (o : l.Owed). l.pays o s.value s.atoms) (sym (h.same u h.begun)) s.pays;
  fits = fits_left g done e k k' w w' u (all_placed AtPlain s.atoms) h.keeps h.deals s.fits;
})
