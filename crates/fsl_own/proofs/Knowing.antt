-- The laws of positions. Two facts carry them: what a thread knows of happens before its next event, and what
-- it knows of after that event is this event or happened before it.
use Rattle.std.proofs.Common.{◌≡◌, ℕ, inl, inr, List, ◌∷◌, subst, sym, refl}
use Rattle.std.proofs.lemmas.Bool.{cases_order}
use Rattle.fsl_graph.specs.declared.event.Event.{Event}
use Rattle.fsl_graph.specs.declared.graph.Graph.{Graph}
use Rattle.fsl_graph.specs.Events.{Is}
use Rattle.fsl_graph.specs.Sequenced.{In, Po, Edge}
use Rattle.fsl_graph.specs.Sequenced.Path.{one}
use Rattle.fsl_graph.specs.Sequenced.SbEdge.{by_order, by_fork as fork_edge}
use Rattle.fsl_graph.specs.Sequenced.Edge.{by_sb as along_sb, by_rf as along_rf}
use Rattle.fsl_graph.specs.Happens.{Hb}
use Rattle.fsl_graph.specs.Happens.HbEdge.{by_sb}
use Rattle.fsl_graph.specs.Orders.{Comes, IsClosed}
use Rattle.fsl_graph.specs.Positions.{Position, IsSent, Reaches, StandsFor}
use Rattle.fsl_graph.specs.Positions.{Holder as holder}
use Rattle.fsl_graph.specs.Positions.StandsFor.{by_event, by_fork}
use Rattle.fsl_graph.proofs.Paths.{path_behind, closed_path}
use Rattle.fsl_graph.proofs.Along.{along_sequence, along_release, closed_under_hb}
use Rattle.fsl_own.specs.Knowledge.{PositionsGrow, MessagesStay, KnownBefore, OwnEventKnown, KnownRacesNot, KnownIsDone}

-- ---- growth

pub positions_grow : PositionsGrow
positions_grow g done e (holder.Plain t) a s = record { last = s.last; past = inr s.past; stands = s.stands; reaches = s.reaches }
positions_grow g done e (holder.Up t) a s = record {
  fence = s.fence;
  past = inr s.past;
  event = s.event;
  is = s.is;
  thread = s.thread;
  mode = s.mode;
  fences = s.fences;
  releases = s.releases;
  reaches = s.reaches;
}
positions_grow g done e (holder.Down t) a s = record {
  read = s.read;
  past = inr s.past;
  mode = s.mode;
  loc = s.loc;
  value = s.value;
  reads = s.reads;
  thread = s.thread;
  atomic = s.atomic;
  source = s.source;
  from = s.from;
  sent = s.sent;
}
positions_grow g done e (holder.Message w part) a s = s

pub messages_stay : MessagesStay
messages_stay g done more w part other a s = s

-- ---- what happened before

-- an event of a thread that is done comes before the thread's next event
pub po_before : (g : Graph) (done : List ℕ) (a e : ℕ) (x y : Event) → Comes g done e x → In a done → Is g a y → y.thread ≡ x.thread → Po g a e
po_before g done a e x y c i p s = elim (cases_order a e) [
  | inl q ↦ absurd (c.fresh (subst (λ (n : ℕ). In n done) q i))
  | inr (inl l) ↦ record { earlier = y; later = x; is_earlier = p; is_later = c.is; thread = s; before = l }
  | inr (inr l) ↦ absurd (c.fresh (c.closed e a
      (along_sb (by_order (record { earlier = x; later = y; is_earlier = c.is; is_later = p; thread = sym s; before = l }))) i))
]

stands_before : (g : Graph) (done : List ℕ) (a e : ℕ) (x : Event) → Comes g done e x → In a done → StandsFor g x.thread a → Hb g a e
stands_before g done a e x c i (by_event y p s) = one (by_sb (by_order (po_before g done a e x y c i p s)))
stands_before g done a e x c i (by_fork f) =
    one (by_sb (fork_edge (record { fork = f.event; event = x; children = f.children; is_fork = f.is; is_event = c.is; forks = f.forks; child = f.child })))

pub known_before : KnownBefore
known_before g done e x a c s = path_behind s.reaches (stands_before g done s.last e x c s.past s.stands)

pub own_event_known : OwnEventKnown
own_event_known g done e x c = record { last = e; past = inl refl; stands = by_event x c.is refl; reaches = inl refl }

-- what a thread knows of after its event
pub known_at : (g : Graph) (done : List ℕ) (e : ℕ) (x : Event) (a : ℕ) → Comes g done e x → Position g (e ∷ done) (holder.Plain x.thread) a → Reaches g a e
known_at g done e x a c s = elim s.past [
  | inl q ↦ subst (λ (n : ℕ). Reaches g a n) q s.reaches
  | inr i ↦ inr (path_behind s.reaches (stands_before g done s.last e x c i s.stands))
]

-- what happened before its event, a thread knows of after it
pub known_after : (g : Graph) (done : List ℕ) (e : ℕ) (x : Event) (a : ℕ) → Comes g done e x → Reaches g a e → Position g (e ∷ done) (holder.Plain x.thread) a
known_after g done e x a c r = record { last = e; past = inl refl; stands = by_event x c.is refl; reaches = r }

pub known_races_not : KnownRacesNot
known_races_not g done e x a c s r = r.unordered (known_before g done e x a c s)

-- ---- what is done

reached_done : (g : Graph) (done : List ℕ) (a b : ℕ) → IsClosed (Edge g) done → Reaches g a b → In b done → In a done
reached_done g done a b c (inl e) i = subst (λ (n : ℕ). In n done) (sym e) i
reached_done g done a b c (inr h) i = closed_under_hb g done c a b h i

sent_done : (g : Graph) (done : List ℕ) (w a : ℕ) → IsClosed (Edge g) done → In w done → IsSent g w a → In a done
sent_done g done w a c i s =
    let first : In s.head done = elim (along_sequence g s.head w s.sequence) [ inl e ↦ subst (λ (n : ℕ). In n done) (sym e) i | inr p ↦ closed_path done c s.head w p i ] in
    let point : In s.point done = elim (along_release g s.point s.head s.release) [ inl e ↦ subst (λ (n : ℕ). In n done) (sym e) first | inr p ↦ closed_path done c s.point s.head p first ] in
    reached_done g done a s.point c s.reaches point

pub known_is_done : KnownIsDone
known_is_done g done (holder.Plain t) a c i s = reached_done g done a s.last c s.reaches s.past
known_is_done g done (holder.Up t) a c i s = reached_done g done a s.fence c s.reaches s.past
known_is_done g done (holder.Down t) a c i s = sent_done g done s.source a c (c s.source s.read (along_rf s.from) s.past) s.sent
known_is_done g done (holder.Message w part) a c i s = sent_done g done w a c i s
