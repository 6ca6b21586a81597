-- The graph of a lawful history is consistent and acyclic: places go as the ends of intervals do.
use Rattle.std.proofs.Common.{◌≡◌, ◌≤◌, ◌<◌, ◌+◌, ◌⊎◌, ℕ, zero, suc, ℤ, true, List, [], ◌∷◌, length, slice_get, Option, Some, None, inl, inr, refl, ap, sym, subst, ◌∙◌, arith}
use Rattle.std.proofs.lemmas.Bool.{cases_order}
use Rattle.std.proofs.lemmas.Int.{ints}
use Rattle.fsl_core.specs.declared.label.Label.{Label}
use Rattle.fsl_core.specs.declared.label.Label.TheVariants as label
use Rattle.fsl_core.specs.declared.mode.Mode.{Mode}
use Rattle.fsl_graph.specs.declared.event.Event.{Event}
use Rattle.fsl_graph.specs.declared.graph.Graph.{Graph}
use Rattle.fsl_graph.specs.declared.graph.Order.{Order}
use Rattle.fsl_graph.specs.Consistent.{IsSource, HasSources, HasOrders, HasNoLoop, IsCoherent, IsAtomic, IsConsistent}
use Rattle.fsl_graph.specs.Events.{Is, Touch, Touches, read_by, written_by, Reads, Writes, Updates}
use Rattle.fsl_graph.specs.Happens.{Hb}
use Rattle.fsl_graph.specs.Places.{IsEntry, Listed, WritesAt, ReadsAt, SourceAt}
use Rattle.fsl_graph.specs.Sequenced.{Path, one, more, Rf, Edge, by_sb, by_rf, IsAcyclic}
use Rattle.fsl_history.specs.History.{Done, done, older, end_of, replay}
use Rattle.fsl_history.specs.Lawful.{Lawful}
use Rattle.fsl_history.specs.Shown.{HistoryIsConsistent}
use Rattle.fsl_history.proofs.ShownLemmas.{Shows, shows}
use Rattle.fsl_history.specs.Views.{Views, effect}
use Rattle.fsl_history.proofs.ViewsLemmas.{effect_reads, effect_writes}
use Rattle.fsl_history.proofs.HistoryLemmas.{IsStep, Made, made, step_at, Before, length_older}
use Rattle.fsl_history.proofs.EdgesLemmas.{is_done, reads_done, writes_done, Sourced, sourced, sb_before, hb_before}

-- ---- what an event has seen of its own location

pub reads_seen : (h : List Done) (e : ℕ) (m : Mode) (l v : ℤ) → Made h → e < length h → read_by (done h e).event.label ≡ Some (Touches m l v)
    → (done h e).from_to ≤ (done h e).views.cur l
reads_seen h e m l v made there reads =
    let s = step_at h e made there in
    let all = effect_reads (done h e).event.label m l v (end_of (older h e) (done h e).event.from) (done h e).to _ _ _ reads in
    let ends = s.from_to in
    let cur : end_of (older h e) (done h e).event.from ≤ (done h e).views.cur l =
    subst (λ (w : Views). end_of (older h e) (done h e).event.from ≤ w.cur l) (sym s.views) all in
    omega (arith, ends, cur)

pub writes_seen : (h : List Done) (e : ℕ) (m : Mode) (l v : ℤ) → Made h → e < length h → written_by (done h e).event.label ≡ Some (Touches m l v)
    → (done h e).to ≤ (done h e).views.cur l
writes_seen h e m l v made there writes =
    let s = step_at h e made there in
    subst (λ (w : Views). (done h e).to ≤ w.cur l) (sym s.views)
    (effect_writes (done h e).event.label m l v (end_of (older h e) (done h e).event.from) (done h e).to _ _ _ writes)

-- ---- places

one_entry : (g : Graph) → HasOrders g → (l : ℤ) (i j : ℕ) (p q : Order) → IsEntry g i p → IsEntry g j q → p.loc ≡ l → q.loc ≡ l → i ≡ j
one_entry g o l i j p q x y a b = elim (cases_order i j) [
  | inl same ↦ same
  | inr (inl less) ↦ absurd (let up = o.ascend i j p q x y less in omega (arith, ints, up, a, b))
  | inr (inr past) ↦ absurd (let up = o.ascend j i q p y x past in omega (arith, ints, up, a, b))
]

-- one place has one event
one_at : (g : Graph) → HasOrders g → (l : ℤ) (a b k : ℕ) → Listed g l a k → Listed g l b k → a ≡ b
one_at g o l a b k x y =
    let e : x.entry ≡ y.entry = one_entry g o l x.entry y.entry x.order y.order x.is y.is x.loc y.loc in
    let p = x.is in
    let q = y.is in
    let same : x.order ≡ y.order = cc in
    let m = x.place in
    let n = y.place in
    let at : x.index ≡ y.index = omega (arith, m, n) in
    let u = x.there in
    let v = y.there in
    cc

-- what ends later stands later
later_place : (g : Graph) (h : List Done) → Shows g h → (l : ℤ) (a b j k : ℕ) → Listed g l a j → Listed g l b k → (done h a).to < (done h b).to → j < k
later_place g h s l a b j k x y less = elim (cases_order j k) [
  | inl same ↦ absurd (
      let event : a ≡ b = one_at g s.orders l a b k (subst (λ n. Listed g l a n) same x) y in
      let ends : (done h a).to ≡ (done h b).to = ap (λ n. (done h n).to) event in
      omega (arith, less, ends))
  | inr (inl up) ↦ up
  | inr (inr down) ↦ absurd (let past = s.ascending b a k j l y x down in omega (arith, less, past))
]

-- and what ends no earlier stands no earlier
no_earlier : (g : Graph) (h : List Done) → Shows g h → (l : ℤ) (a b j k : ℕ) → Listed g l a j → Listed g l b k → (done h a).to ≤ (done h b).to → j ≤ k
no_earlier g h s l a b j k x y le = elim (cases_order j k) [
  | inl same ↦ omega (arith, same)
  | inr (inl up) ↦ omega (arith, up)
  | inr (inr down) ↦ absurd (let past = s.ascending b a k j l y x down in omega (arith, le, past))
]

-- place k of l ends at t; place 0 ends at 0
abbrev EndsAt : (g : Graph) (h : List Done) → ℤ → (k t : ℕ) → Type 0
EndsAt g h l k t = ((k ≡ 0) × (t ≡ 0)) ⊎ ((e : ℕ) × Listed g l e k × (t ≡ (done h e).to))

-- a write ends above 0
ends_above : (h : List Done) (e : ℕ) (m : Mode) (l v : ℤ) → Made h → e < length h → written_by (done h e).event.label ≡ Some (Touches m l v) → (done h e).low < (done h e).to
ends_above h e m l v made there writes = (step_at h e made there).allowed.interval m l v writes

listed_above : (g : Graph) (h : List Done) → Made h → Shows g h → (l : ℤ) (e k : ℕ) → Listed g l e k → 0 < (done h e).to
listed_above g h made s l e k x =
    let w = s.orders.only e k l x in
    let at = writes_done g h s e w.0 l w.1 w.2 in
    let up = ends_above h e w.0 l w.1 made at.0 at.1 in
    omega (arith, up)

less_places : (g : Graph) (h : List Done) → Made h → Shows g h → (l : ℤ) (j k s t : ℕ) → EndsAt g h l j s → EndsAt g h l k t → s < t → j < k
less_places g h made sh l j k s t (inl x) (inl y) less = (let a = x.1 in let b = y.1 in absurd (omega (arith, a, b, less)))
less_places g h made sh l j k s t (inl x) (inr y) less = (let a = x.0 in let b = y.1.place in omega (arith, a, b))
less_places g h made sh l j k s t (inr x) (inl y) less = (let b = y.1 in absurd (omega (arith, b, less)))
less_places g h made sh l j k s t (inr x) (inr y) less =
    (let a = x.2 in let b = y.2 in later_place g h sh l x.0 y.0 j k x.1 y.1 (omega (arith, a, b, less)))

le_places : (g : Graph) (h : List Done) → Made h → Shows g h → (l : ℤ) (j k s t : ℕ) → EndsAt g h l j s → EndsAt g h l k t → s ≤ t → j ≤ k
le_places g h made sh l j k s t (inl x) y le = (let a = x.0 in omega (arith, a))
le_places g h made sh l j k s t (inr x) (inl y) le = (
    let a = x.2 in
    let b = y.1 in
    let up = listed_above g h made sh l x.0 j x.1 in
    absurd (omega (arith, a, b, up, le)))
le_places g h made sh l j k s t (inr x) (inr y) le =
    (let a = x.2 in let b = y.2 in no_earlier g h sh l x.0 y.0 j k x.1 y.1 (omega (arith, a, b, le)))

-- ---- where events stand

source_at : (g : Graph) (h : List Done) (e k : ℕ) (l : ℤ) (o : Option ℕ) → SourceAt g l o k → EndsAt g h l k (end_of h o)
source_at g h e k l None at = inl (at, refl)
source_at g h e k l (Some w) at = inr (w, at, refl)

from_end : (h : List Done) (e : ℕ) (m : Mode) (l v : ℤ) (o : Option ℕ) → Made h → e < length h → read_by (done h e).event.label ≡ Some (Touches m l v)
    → (done h e).event.from ≡ o → (done h e).from_to ≡ end_of h o
from_end h e m l v None made there reads from =
    (step_at h e made there).from_to ∙ ap (end_of (older h e)) from
from_end h e m l v (Some w) made there reads from =
    (step_at h e made there).from_to ∙ (sourced h w e m l v made there reads from).end

read_place : (g : Graph) (h : List Done) → Made h → Shows g h → (e k : ℕ) (l : ℤ) → ReadsAt g e l k
    → (e < length h) × ((m : Mode) × (v : ℤ) × (read_by (done h e).event.label ≡ Some (Touches m l v))) × EndsAt g h l k (done h e).from_to
read_place g h made s e k l r =
    let at = reads_done g h s e r.mode l r.value r.reads in
    let event = is_done g h s e r.reads.event r.reads.is in
    let from = from_end h e r.mode l r.value r.reads.event.from made at.0 at.1 (ap (λ (x : Event). x.from) event.1) in
    (at.0, (r.mode, r.value, at.1), subst (λ n. EndsAt g h l k n) (sym from) (source_at g h e k l r.reads.event.from r.source))

write_place : (g : Graph) (h : List Done) → Made h → Shows g h → (e k : ℕ) (l : ℤ) → WritesAt g e l k
    → (e < length h) × ((m : Mode) × (v : ℤ) × (written_by (done h e).event.label ≡ Some (Touches m l v))) × EndsAt g h l k (done h e).to
write_place g h made s e k l w =
    let at = writes_done g h s e w.mode l w.value w.writes in
    (at.0, (w.mode, w.value, at.1), inr (e, w.listed, refl))

coherent : (g : Graph) (h : List Done) → Made h → Shows g h → IsCoherent g
coherent g h made s = record {
  write_write = λ a b j k l hb x y. (
      let p = write_place g h made s a j l x in
      let q = write_place g h made s b k l y in
      let before = hb_before g h made s a b hb in
      let seen = writes_seen h a p.1.0 l p.1.1 made p.0 p.1.2 in
      let low = before.writes q.1.0 l q.1.1 q.1.2 in
      let up = ends_above h b q.1.0 l q.1.1 made q.0 q.1.2 in
      less_places g h made s l j k (done h a).to (done h b).to p.2 q.2 (omega (arith, seen, low, up)));
  read_write = λ a b j k l hb x y. (
      let p = read_place g h made s a j l x in
      let q = write_place g h made s b k l y in
      let before = hb_before g h made s a b hb in
      let seen = reads_seen h a p.1.0 l p.1.1 made p.0 p.1.2 in
      let low = before.writes q.1.0 l q.1.1 q.1.2 in
      let up = ends_above h b q.1.0 l q.1.1 made q.0 q.1.2 in
      less_places g h made s l j k (done h a).from_to (done h b).to p.2 q.2 (omega (arith, seen, low, up)));
  write_read = λ a b j k l hb x y. (
      let p = write_place g h made s a j l x in
      let q = read_place g h made s b k l y in
      let before = hb_before g h made s a b hb in
      let seen = writes_seen h a p.1.0 l p.1.1 made p.0 p.1.2 in
      let low = before.reads q.1.0 l q.1.1 q.1.2 in
      le_places g h made s l j k (done h a).to (done h b).from_to p.2 q.2 (omega (arith, seen, low)));
  read_read = λ a b j k l hb x y. (
      let p = read_place g h made s a j l x in
      let q = read_place g h made s b k l y in
      let before = hb_before g h made s a b hb in
      let seen = reads_seen h a p.1.0 l p.1.1 made p.0 p.1.2 in
      let low = before.reads q.1.0 l q.1.1 q.1.2 in
      le_places g h made s l j k (done h a).from_to (done h b).from_to p.2 q.2 (omega (arith, seen, low)));
}

-- ---- read-modify-writes

-- the place between two of an order has an event
between : (g : Graph) (l : ℤ) (b k n : ℕ) → Listed g l b k → 0 < n → n < k → (c : ℕ) × Listed g l c n
between g l b k zero x some less = absurd (omega (arith, some))
between g l b k (suc i) x some less =
    let place = x.place in
    let under : i < x.index = omega (arith, place, less) in
    let got = get_before x.order.writes x.index i b x.there under in
    (got.0, record { entry = x.entry; order = x.order; is = x.is; loc = x.loc; index = i; there = got.1; place = refl })
  where
    get_before : (xs : List ℕ) (j i y : ℕ) → slice_get xs j ≡ Some y → i < j → (z : ℕ) × (slice_get xs i ≡ Some z)
    get_before [] j i y e u = cc
    get_before (x ∷ xs) zero i y e u = absurd (omega (arith, u))
    get_before (x ∷ xs) (suc j) zero y e u = (x, refl)
    get_before (x ∷ xs) (suc j) (suc i) y e u = get_before xs j i y e (omega (arith, u))

-- nothing ends in between two ends that follow each other
next_place : (g : Graph) (h : List Done) → Made h → Shows g h → (l : ℤ) (b j k t : ℕ) → EndsAt g h l j t → Listed g l b k → (done h b).to ≡ t + 1 → k ≡ suc j
next_place g h made s l b j k t x y next = elim (cases_order k (suc j)) [
  | inl same ↦ same
  | inr (inl less) ↦ (
      let up = less_places g h made s l j k t (done h b).to x (inr (b, y, refl)) (omega (arith, next)) in
      absurd (omega (arith, up, less)))
  | inr (inr past) ↦ (
      let mid = between g l b k (suc j) y (omega arith) past in
      let below = s.ascending mid.0 b (suc j) k l mid.1 y past in
      absurd (apart x mid.1 below))
]
  where
    apart : {c : ℕ} → EndsAt g h l j t → Listed g l c (suc j) → (done h c).to < (done h b).to → ⊥
    apart {c} (inl z) m below = (let up = listed_above g h made s l c (suc j) m in let t0 = z.1 in omega (arith, up, t0, next, below))
    apart {c} (inr z) m below = (
        let less : j < suc j = omega arith in
        let up = s.ascending z.0 c j (suc j) l z.1 m less in
        let e = z.2 in
        omega (arith, up, e, next, below))

atomic : (g : Graph) (h : List Done) → Made h → Shows g h → IsAtomic g
atomic g h made s e j k m l old new u r w =
    let p = read_place g h made s e j l r in
    let event = is_done g h s e u.event u.is in
    let update : (done h e).event.label ≡ label.Rmw m l old new = ap (λ (x : Event). x.label) event.1 ∙ u.updates in
    let step = step_at h e made p.0 in
    let next = step.allowed.next m l old new update in
    let low = next.0 in
    let to = next.1 in
    let from = step.from_to in
    next_place g h made s l e j k (done h e).from_to p.2 w.listed (omega (arith, low, to, from))

-- ---- sources, and no cycle

none_is : {w : ℕ} → None ≡ Some w → ⊥
none_is e = cc

has_sources : (g : Graph) (h : List Done) → Made h → Shows g h → (w r : ℕ) → Rf g w r → IsSource g w r × (w < r)
has_sources g h made s w r f = by (read_by (done h r).event.label) refl
  where
    at : (r < length h) × ((done h r).event ≡ f.reader)
    at = is_done g h s r f.reader f.is

    from : (done h r).event.from ≡ Some w
    from = ap (λ (x : Event). x.from) at.1 ∙ f.source

    by : (o : Option Touch) → read_by (done h r).event.label ≡ o → IsSource g w r × (w < r)
    by None none = absurd (none_is (sym ((step_at h r made at.0).allowed.no_source none) ∙ from))
    by (Some (Touches m l v)) reads = (
        let source = sourced h w r m l v made at.0 reads from in
        let less = source.earlier in
        let under = source.there in
        let there : w < length h = omega (arith, less, under) in (
          record {
            loc = l;
            value = v;
            write_mode = source.mode;
            read_mode = m;
            writes = record { event = (done h w).event; is = s.there w there; writes = source.writes };
            reads = record { event = (done h r).event; is = s.there r at.0; reads = reads };
          },
          less,
        ))

edge_forward : (g : Graph) (h : List Done) → Made h → Shows g h → (a b : ℕ) → Edge g a b → a < b
edge_forward g h made s a b (by_sb e) = (sb_before g h made s a b e).earlier
edge_forward g h made s a b (by_rf f) = (has_sources g h made s a b f).1

walk_forward : (g : Graph) (h : List Done) → Made h → Shows g h → (a b : ℕ) → Path (Edge g) a b → a < b
walk_forward g h made s a b (one e) = edge_forward g h made s a b e
walk_forward g h made s a b (more {b = c} e path) =
    let first = edge_forward g h made s a c e in
    let rest = walk_forward g h made s c b path in
    omega (arith, first, rest)

pub is_consistent : (g : Graph) (h : List Done) → Made h → Shows g h → IsConsistent g
is_consistent g h made s = record {
  sources = λ w r f. (has_sources g h made s w r f).0;
  orders = s.orders;
  no_loop = λ e hb. (let less = (hb_before g h made s e e hb).earlier in omega (arith, less));
  coherent = coherent g h made s;
  atomic = atomic g h made s;
}

pub is_acyclic : (g : Graph) (h : List Done) → Made h → Shows g h → IsAcyclic g
is_acyclic g h made s e path = let less = walk_forward g h made s e e path in omega (arith, less)

pub history_is_consistent : HistoryIsConsistent
history_is_consistent g h lawful is =
    let all = made h lawful in
    let s = shows g (replay h) all is in
    (is_consistent g (replay h) all s, is_acyclic g (replay h) all s)
