-- A graph of one thread with non-atomic accesses is consistent and acyclic: every edge leads to a later
-- event, and places go as the events do.
use Rattle.std.proofs.Common.{ℕ, ◌≡◌, ◌<◌, ◌≤◌, true, slice_get, Option, Some, None, ℤ, ◌<ℤ◌, refl, ap, subst, ◌∙◌, arith}
use mathlib.Core.Logic.{dite}
use Rattle.std.specs.Int.Signed.{<ℤ_irrefl}
use native.Mathlib.Decide.{dec_lt}
use Rattle.fsl_core.specs.declared.label.Label.{Label}
use Rattle.fsl_core.specs.declared.label.Label.TheVariants as label
use Rattle.fsl_core.specs.declared.mode.Mode.{Mode}
use Rattle.fsl_core.specs.declared.mode.Mode.TheVariants as mode
use Rattle.fsl_graph.specs.declared.event.Event.{Event}
use Rattle.fsl_graph.specs.declared.graph.Graph.{Graph}
use Rattle.fsl_graph.specs.declared.graph.Order.{Order}
use Rattle.fsl_graph.specs.Events.{Is, Touch, Touches, read_by, written_by, Reads, Writes, Updates}
use Rattle.fsl_graph.specs.Sequenced.{Path, one, more, SbEdge, by_order, by_fork, by_join, Rf, Edge, by_sb, by_rf}
use Rattle.fsl_graph.specs.Happens.{ReleasePoint, at_write, at_fence, HbEdge, by_sb as hb_by_sb, by_sw as hb_by_sw, Hb}
use Rattle.fsl_graph.specs.Places.{IsEntry, Listed, WritesAt, ReadsAt, SourceAt}
use Rattle.fsl_graph.specs.Consistent.{IsSource, IsCoherent, IsConsistent, HasOrders}
use Rattle.fsl_graph.specs.Lone.{is_plain, IsLast, IsLone, LoneIsConsistent}

-- ---- labels

is_load : (x : Label) (m : Mode) (l v : ℤ) → is_plain x ≡ true → read_by x ≡ Some (Touches m l v) → x ≡ label.Load mode.Na l v
is_load (label.Load mode.Na k u) m l v plain reads = cc
is_load (label.Load mode.Rlx k u) m l v plain reads = cc
is_load (label.Load mode.Acq k u) m l v plain reads = cc
is_load (label.Load mode.Rel k u) m l v plain reads = cc
is_load (label.Load mode.AcqRel k u) m l v plain reads = cc
is_load (label.Alloc k u) m l v plain reads = cc
is_load (label.Free k) m l v plain reads = cc
is_load (label.Store n k u) m l v plain reads = cc
is_load (label.Rmw n k u w) m l v plain reads = cc
is_load (label.Fence n) m l v plain reads = cc
is_load (label.Fork ts) m l v plain reads = cc
is_load (label.Join rs) m l v plain reads = cc
is_load (label.Print u) m l v plain reads = cc
is_load (label.End u) m l v plain reads = cc

is_store : (x : Label) (m : Mode) (l v : ℤ) → is_plain x ≡ true → written_by x ≡ Some (Touches m l v) → m ≡ mode.Na
is_store (label.Store mode.Na k u) m l v plain writes = cc
is_store (label.Store mode.Rlx k u) m l v plain writes = cc
is_store (label.Store mode.Acq k u) m l v plain writes = cc
is_store (label.Store mode.Rel k u) m l v plain writes = cc
is_store (label.Store mode.AcqRel k u) m l v plain writes = cc
is_store (label.Load n k u) m l v plain writes = cc
is_store (label.Alloc k u) m l v plain writes = cc
is_store (label.Free k) m l v plain writes = cc
is_store (label.Rmw n k u w) m l v plain writes = cc
is_store (label.Fence n) m l v plain writes = cc
is_store (label.Fork ts) m l v plain writes = cc
is_store (label.Join rs) m l v plain writes = cc
is_store (label.Print u) m l v plain writes = cc
is_store (label.End u) m l v plain writes = cc

writes_plainly : (g : Graph) → IsLone g → (e : ℕ) (m : Mode) (l v : ℤ) → Writes g e m l v → Writes g e mode.Na l v
writes_plainly g lone e m l v w =
    let na : m ≡ mode.Na = is_store w.event.label m l v (lone.plain e w.event w.is) w.writes in
    record { event = w.event; is = w.is; writes = w.writes ∙ ap (λ (n : Mode). Some (Touches n l v)) na }

-- what a load of a lone graph reads
last_of : (g : Graph) → IsLone g → (e : ℕ) (m : Mode) (l v : ℤ) (r : Reads g e m l v) → IsLast g e l v r.event.from
last_of g lone e m l v r = lone.loads e r.event l v r.is (is_load r.event.label m l v (lone.plain e r.event r.is) r.reads)

-- ---- every edge leads to a later event

sb_later : (g : Graph) → IsLone g → (a b : ℕ) → SbEdge g a b → a < b
sb_later g lone a b (by_order o) = o.before
sb_later g lone a b (by_fork f) = let plain = lone.plain a f.fork f.is_fork in let forks = f.forks in absurd cc
sb_later g lone a b (by_join j) = let plain = lone.plain b j.join j.is_join in let joins = j.joins in absurd cc

no_release : (g : Graph) → IsLone g → (p w : ℕ) → ReleasePoint g p w → ⊥
no_release g lone p w (at_write {m} {l} {v} writes releasing at) = let na : m ≡ mode.Na = is_store writes.event.label m l v (lone.plain w writes.event writes.is) writes.writes in cc
no_release g lone p w (at_fence writes atomic fence releasing before) = let plain = lone.plain p fence.event fence.is in let fences = fence.fences in cc

hb_edge_later : (g : Graph) → IsLone g → (a b : ℕ) → HbEdge g a b → a < b
hb_edge_later g lone a b (hb_by_sb e) = sb_later g lone a b e
hb_edge_later g lone a b (hb_by_sw s) = absurd (no_release g lone a s.write s.release)

hb_later : (g : Graph) → IsLone g → (a b : ℕ) → Hb g a b → a < b
hb_later g lone a b (one e) = hb_edge_later g lone a b e
hb_later g lone a b (more {b = c} e path) = let first = hb_edge_later g lone a c e in let then_ = hb_later g lone c b path in omega (arith, first, then_)

-- the source of a read is earlier
source_earlier : (g : Graph) (e s : ℕ) (l v : ℤ) (from : Option ℕ) → from ≡ Some s → IsLast g e l v from → s < e
source_earlier g e s l v None is last = absurd cc
source_earlier g e s l v (Some w) is last = let same : w ≡ s = cc in let less = last.0 in omega (arith, same, less)

-- an event with a source is a load
read_or_none : (g : Graph) → IsLone g → (e s : ℕ) (x : Event) → Is g e x → x.from ≡ Some s → (t : Option Touch) → read_by x.label ≡ t → (r : Touch) × (read_by x.label ≡ Some r)
read_or_none g lone e s x is source None reads = let lacks = lone.others e x is reads in absurd cc
read_or_none g lone e s x is source (Some r) reads = (r, reads)

sourced : (g : Graph) (e s : ℕ) (l v : ℤ) (from : Option ℕ) → from ≡ Some s → IsLast g e l v from → Reads g e mode.Na l v → IsSource g s e
sourced g e s l v None is last reads = absurd cc
sourced g e s l v (Some w) is last reads =
    record { loc = l; value = v; write_mode = mode.Na; read_mode = mode.Na; writes = (let same : w ≡ s = cc in subst (λ (n : ℕ). Writes g n mode.Na l v) same last.1); reads = reads }

rf_of : (g : Graph) → IsLone g → (w r : ℕ) (f : Rf g w r) (t : Touch) → read_by f.reader.label ≡ Some t → IsSource g w r × (w < r)
rf_of g lone w r f (Touches m l v) reads =
    let load : f.reader.label ≡ label.Load mode.Na l v = is_load f.reader.label m l v (lone.plain r f.reader f.is) reads in
    let last : IsLast g r l v f.reader.from = lone.loads r f.reader l v f.is load in
    (sourced g r w l v f.reader.from f.source last (record { event = f.reader; is = f.is; reads = ap read_by load }), source_earlier g r w l v f.reader.from f.source last)

rf_sound : (g : Graph) → IsLone g → (w r : ℕ) → Rf g w r → IsSource g w r × (w < r)
rf_sound g lone w r f = let read = read_or_none g lone r w f.reader f.is f.source (read_by f.reader.label) refl in rf_of g lone w r f read.0 read.1

edge_later : (g : Graph) → IsLone g → (a b : ℕ) → Edge g a b → a < b
edge_later g lone a b (by_sb e) = sb_later g lone a b e
edge_later g lone a b (by_rf f) = (rf_sound g lone a b f).1

walk_later : (g : Graph) → IsLone g → (a b : ℕ) → Path (Edge g) a b → a < b
walk_later g lone a b (one e) = edge_later g lone a b e
walk_later g lone a b (more {b = c} e path) = let first = edge_later g lone a c e in let behind = walk_later g lone c b path in omega (arith, first, behind)

-- ---- places go as the events do

-- there is one entry for a location
one_entry : (g : Graph) → HasOrders g → (l : ℤ) (i j : ℕ) (p q : Order) → IsEntry g i p → IsEntry g j q → p.loc ≡ l → q.loc ≡ l → i ≡ j
one_entry g orders l i j p q first second here there =
    dite (dec_lt i j) (λ less. absurd (let up = orders.ascend i j p q first second less in <ℤ_irrefl (subst (λ (k : ℤ). k <ℤ l) here (subst (λ (k : ℤ). p.loc <ℤ k) there up))))
    (λ no. dite (dec_lt j i) (λ less. absurd (let up = orders.ascend j i q p second first less in <ℤ_irrefl (subst (λ (k : ℤ). k <ℤ l) there (subst (λ (k : ℤ). q.loc <ℤ k) here up))))
    (λ none. omega (arith, no, none)))

same_event : (g : Graph) (i j m n : ℕ) (p q : Order) (a b : ℕ) → IsEntry g i p → IsEntry g j q → i ≡ j → m ≡ n → slice_get p.writes m ≡ Some a → slice_get q.writes n ≡ Some b → a ≡ b
same_event g i j m n p q a b first second entries indices there other = cc

-- one event stands at a place
one_event : (g : Graph) → HasOrders g → (l : ℤ) (a b k : ℕ) → Listed g l a k → Listed g l b k → a ≡ b
one_event g orders l a b k first second =
    let entry : first.entry ≡ second.entry = one_entry g orders l first.entry second.entry first.order second.order first.is second.is first.loc second.loc in
    let index : first.index ≡ second.index = (let p = first.place in let q = second.place in omega (arith, p, q)) in
    same_event g first.entry second.entry first.index second.index first.order second.order a b first.is second.is entry index first.there second.there

place_later : (g : Graph) → IsLone g → (l : ℤ) (a b j k : ℕ) → Listed g l a j → Listed g l b k → a < b → j < k
place_later g lone l a b j k first second less =
    dite (dec_lt j k) (λ below. below) (λ no. dite (dec_lt k j)
    (λ above. absurd (let back = lone.in_order b a k j l second first above in omega (arith, less, back)))
    (λ none. let same : j ≡ k = omega (arith, no, none) in
    absurd (let one_ = one_event g lone.orders l a b k (subst (λ (p : ℕ). Listed g l a p) same first) second in omega (arith, less, one_))))

-- the place of a source is that of a store before the read, with no store of the location between
pub data IsBehind (g : Graph) (e : ℕ) (l : ℤ) (k : ℕ) : Type 0 where
  none_before : k ≡ 0 → ((w : ℕ) (u : ℤ) → w < e → Writes g w mode.Na l u → ⊥) → IsBehind g e l k
  after_one : (s : ℕ) → Listed g l s k → s < e → ((w : ℕ) (u : ℤ) → s < w → w < e → Writes g w mode.Na l u → ⊥) → (v : ℤ) → Writes g s mode.Na l v → IsBehind g e l k

behind_of : (g : Graph) (e : ℕ) (l v : ℤ) (k : ℕ) (from : Option ℕ) → IsLast g e l v from → SourceAt g l from k → IsBehind g e l k
behind_of g e l v k None last place = none_before place last.1
behind_of g e l v k (Some s) last place = after_one s place last.0 last.2 v last.1

behind : (g : Graph) → IsLone g → (e : ℕ) (l : ℤ) (k : ℕ) → ReadsAt g e l k → IsBehind g e l k
behind g lone e l k r = behind_of g e l r.value k r.reads.event.from (last_of g lone e r.mode l r.value r.reads) r.source

plainly : (g : Graph) → IsLone g → (e : ℕ) (l : ℤ) (k : ℕ) (w : WritesAt g e l k) → Writes g e mode.Na l w.value
plainly g lone e l k w = writes_plainly g lone e w.mode l w.value w.writes

read_write_by : (g : Graph) → IsLone g → (a b j k : ℕ) (l : ℤ) → a < b → IsBehind g a l j → Listed g l b k → j < k
read_write_by g lone a b j k l less (none_before zero_ clear) second = let p = second.place in omega (arith, zero_, p)
read_write_by g lone a b j k l less (after_one s first before clear v w) second = place_later g lone l s b j k first second (omega (arith, less, before))

write_read_by : (g : Graph) → IsLone g → (a b j k : ℕ) (l v : ℤ) → a < b → Listed g l a j → Writes g a mode.Na l v → IsBehind g b l k → j ≤ k
write_read_by g lone a b j k l v less first writes (none_before zero_ clear) = absurd (clear a v less writes)
write_read_by g lone a b j k l v less first writes (after_one s second before clear u w) =
    dite (dec_lt s a) (λ above. absurd (clear a v above less writes))
    (λ under. dite (dec_lt a s) (λ below. let p = place_later g lone l a s j k first second below in omega (arith, p))
    (λ none. let same : a ≡ s = omega (arith, under, none) in
    let places : j ≡ k = lone.orders.once s j k l (subst (λ (n : ℕ). Listed g l n j) same first) second in omega (arith, places)))

read_read_by : (g : Graph) → IsLone g → (a b j k : ℕ) (l : ℤ) → a < b → IsBehind g a l j → IsBehind g b l k → j ≤ k
read_read_by g lone a b j k l less (none_before zero_ clear) second = omega (arith, zero_)
read_read_by g lone a b j k l less (after_one s first before clear v w) second = write_read_by g lone s b j k l v (omega (arith, less, before)) first w second

coherent : (g : Graph) → IsLone g → IsCoherent g
coherent g lone = record {
  write_write = λ a b j k l before first second. place_later g lone l a b j k first.listed second.listed (hb_later g lone a b before);
  read_write = λ a b j k l before first second. read_write_by g lone a b j k l (hb_later g lone a b before) (behind g lone a l j first) second.listed;
  write_read = λ a b j k l before first second. write_read_by g lone a b j k l first.value (hb_later g lone a b before) first.listed (plainly g lone a l j first) (behind g lone b l k second);
  read_read = λ a b j k l before first second. read_read_by g lone a b j k l (hb_later g lone a b before) (behind g lone a l j first) (behind g lone b l k second);
}

no_update : (g : Graph) → IsLone g → (e : ℕ) (m : Mode) (l old new : ℤ) → Updates g e m l old new → ⊥
no_update g lone e m l old new u = let plain = lone.plain e u.event u.is in let updates = u.updates in cc

consistent : (g : Graph) → IsLone g → IsConsistent g
consistent g lone = record {
  sources = λ w r f. (rf_sound g lone w r f).0;
  orders = lone.orders;
  no_loop = λ e loop. let less = hb_later g lone e e loop in omega (arith, less);
  coherent = coherent g lone;
  atomic = λ e j k m l old new updates reads writes. absurd (no_update g lone e m l old new updates);
}

pub lone_is_consistent : LoneIsConsistent
lone_is_consistent g lone = (consistent g lone, λ e loop. let less = walk_later g lone e e loop in omega (arith, less))
