-- Tests that sources and modification orders are as they must be.
use Rattle.std.proofs.Common.{◌≡◌, ◌<◌, ℕ, suc, Bool, true, false, not, ◌&&◌, ◌||◌, ◌==◌, nat_lt, inl, inr, List, [], ◌∷◌, Option, Some, None, is_some, slice_get, ℤ, ◌<ℤ◌, subst, sym, refl, ap, ◌∙◌, arith, int_eq}
use Rattle.std.proofs.lemmas.Bool.{and_parts, or_cases, cases_order, eqb-true, eq-eqb, lt-ltb}
use Rattle.std.proofs.lemmas.Int.{ints}
use Rattle.std.proofs.lemmas.Bool.Decides.{Decides-int_eq}
use Rattle.fsl_core.specs.declared.label.Label.{Label}
use Rattle.fsl_core.specs.declared.mode.Mode.{Mode}
use Rattle.fsl_graph.specs.declared.event.Event.{Event}
use Rattle.fsl_graph.specs.declared.graph.Graph.{Graph}
use Rattle.fsl_graph.specs.declared.graph.Order.{Order}
use Rattle.fsl_graph.specs.Events.{read_by, written_by, Touch, Touches, Writes}
use Rattle.fsl_graph.specs.Sequenced.{In}
use Rattle.fsl_graph.specs.Places.{IsEntry, Listed}
use Rattle.fsl_graph.specs.Consistent.{HasSources, HasOrders}
use Rattle.fsl_graph.specs.Edges.{is_in}
use Rattle.fsl_graph.proofs.Edges.{is_in_true}
use Rattle.fsl_graph.proofs.Every.{every, every_at, implies, is_below, below_true}

-- ---- sources

abbrev touched_by : (Label → Option Touch) → Option Event → Option Touch
touched_by f None = None
touched_by f (Some x) = f x.label

abbrev same_touch : Option Touch → Option Touch → Bool
same_touch (Some (Touches m l v)) (Some (Touches n k u)) = int_eq l k && int_eq v u
same_touch (Some t) None = false
same_touch None o = false

abbrev source_ok : List Event → Option Touch → Option ℕ → Bool
source_ok xs t None = true
source_ok xs t (Some w) = same_touch (touched_by written_by (slice_get xs w)) t

abbrev pub sources_ok : Graph → Bool
sources_ok g = every (λ b y. source_ok g.events (read_by y.label) y.from) 0 g.events

record Same (o p : Option Touch) : Type 0 where
  m : Mode
  n : Mode
  loc : ℤ
  value : ℤ
  left : o ≡ Some (Touches m loc value)
  right : p ≡ Some (Touches n loc value)

same_true : (o p : Option Touch) → same_touch o p ≡ true → Same o p
same_true (Some (Touches m l v)) (Some (Touches n k u)) h =
    let t = and_parts (int_eq l k) (int_eq v u) h in
    let e : l ≡ k = (Decides-int_eq l k).0 t.0 in
    let f : v ≡ u = (Decides-int_eq v u).0 t.1 in
    record { m = m; n = n; loc = l; value = v; left = refl; right = cc }
same_true (Some t) None h = absurd (let f : false ≡ true = h in cc)
same_true None o h = absurd (let f : false ≡ true = h in cc)

touched_writes : (g : Graph) (w : ℕ) (m : Mode) (l v : ℤ) (o : Option Event) → slice_get g.events w ≡ o → touched_by written_by o ≡ Some (Touches m l v) → Writes g w m l v
touched_writes g w m l v None p h = absurd (let f : None ≡ Some (Touches m l v) = h in cc)
touched_writes g w m l v (Some x) p h = record { event = x; is = p; writes = h }

pub has_sources : (g : Graph) → sources_ok g ≡ true → HasSources g
has_sources g h w r f =
    let t = every_at (λ b y. source_ok g.events (read_by y.label) y.from) r g.events f.reader h f.is in
    let u = subst (λ (o : Option ℕ). source_ok g.events (read_by f.reader.label) o ≡ true) f.source t in
    let s = same_true (touched_by written_by (slice_get g.events w)) (read_by f.reader.label) u in
    record {
      loc = s.loc;
      value = s.value;
      write_mode = s.m;
      read_mode = s.n;
      writes = touched_writes g w s.m s.loc s.value (slice_get g.events w) refl s.left;
      reads = record { event = f.reader; is = f.is; reads = s.right };
    }

-- ---- modification orders

abbrev listed : List Order → ℤ → ℕ → Bool
listed [] l e = false
listed (o ∷ os) l e = (int_eq o.loc l && is_in e o.writes) || listed os l e

abbrev write_listed : List Order → ℕ → Option Touch → Bool
write_listed os e None = true
write_listed os e (Some (Touches m l v)) = listed os l e

abbrev writes_at : ℤ → Option Touch → Bool
writes_at l None = false
writes_at l (Some (Touches m k v)) = int_eq l k

abbrev ascend_ok : List Order → Bool
ascend_ok os = every (λ i a. every (λ j b. not (nat_lt i j) || is_below a.loc b.loc) 0 os) 0 os

abbrev some_ok : List Order → Bool
some_ok os = every (λ i (a : Order). is_some (slice_get a.writes 0)) 0 os

abbrev listed_ok : Graph → Bool
listed_ok g = every (λ e x. write_listed g.mo e (written_by x.label)) 0 g.events

abbrev only_ok : Graph → Bool
only_ok g = every (λ i order. every (λ k e. writes_at order.loc (touched_by written_by (slice_get g.events e))) 0 order.writes) 0 g.mo

abbrev once_ok : List Order → Bool
once_ok os = every (λ i (order : Order). every (λ j a. every (λ k b. not (a == b) || j == k) 0 order.writes) 0 order.writes) 0 os

abbrev pub orders_ok : Graph → Bool
orders_ok g = ascend_ok g.mo && (some_ok g.mo && (listed_ok g && (only_ok g && once_ok g.mo)))

record Place (os : List Order) (l : ℤ) (e : ℕ) : Type 0 where
  entry : ℕ
  order : Order
  is : slice_get os entry ≡ Some order
  loc : order.loc ≡ l
  index : ℕ
  there : slice_get order.writes index ≡ Some e

index_of : (e : ℕ) (ws : List ℕ) → In e ws → (k : ℕ) × (slice_get ws k ≡ Some e)
index_of e [] i = elim i [ ]
index_of e (w ∷ ws) (inl s) = (0, ap Some (sym s))
index_of e (w ∷ ws) (inr i) = let p = index_of e ws i in (suc p.0, p.1)

listed_place : (os : List Order) (l : ℤ) (e : ℕ) → listed os l e ≡ true → Place os l e
listed_place [] l e h = absurd (let f : false ≡ true = h in cc)
listed_place (o ∷ os) l e h = elim (or_cases (int_eq o.loc l && is_in e o.writes) (listed os l e) h) [
  | inl t ↦
      let p = and_parts (int_eq o.loc l) (is_in e o.writes) t in
      let i = index_of e o.writes (is_in_true e o.writes p.1) in
      record { entry = 0; order = o; is = refl; loc = (Decides-int_eq o.loc l).0 p.0; index = i.0; there = i.1 }
  | inr r ↦ let p = listed_place os l e r in record { entry = suc p.entry; order = p.order; is = p.is; loc = p.loc; index = p.index; there = p.there }
]

pub first_some : (o : Option ℕ) → is_some o ≡ true → (e : ℕ) × (o ≡ Some e)
first_some None h = absurd (let f : false ≡ true = h in cc)
first_some (Some e) h = (e, refl)

writes_true : (l : ℤ) (o : Option Touch) → writes_at l o ≡ true → (m : Mode) × (v : ℤ) × (o ≡ Some (Touches m l v))
writes_true l None h = absurd (let f : false ≡ true = h in cc)
writes_true l (Some (Touches m k v)) h = let e : l ≡ k = (Decides-int_eq l k).0 h in (m, v, cc)

ascends : (g : Graph) → ascend_ok g.mo ≡ true → (i j : ℕ) (a b : Order) → IsEntry g i a → IsEntry g j b → i < j → is_below a.loc b.loc ≡ true
ascends g h i j a b p q l =
    let t = every_at (λ i a. every (λ j b. not (nat_lt i j) || is_below a.loc b.loc) 0 g.mo) i g.mo a h p in
    implies (nat_lt i j) (is_below a.loc b.loc) (every_at (λ j b. not (nat_lt i j) || is_below a.loc b.loc) j g.mo b t q) (lt-ltb i j l)

-- places of one event in one order
once_in : (ws : List ℕ) → every (λ j a. every (λ k b. not (a == b) || j == k) 0 ws) 0 ws ≡ true → (e j k : ℕ) → slice_get ws j ≡ Some e → slice_get ws k ≡ Some e → j ≡ k
once_in ws h e j k p q =
    let t = every_at (λ j a. every (λ k b. not (a == b) || j == k) 0 ws) j ws e h p in
    eqb-true j k (implies (e == e) (j == k) (every_at (λ k b. not (e == b) || j == k) k ws e t q) (eq-eqb e e refl))

entry_by : {g : Graph} {l : ℤ} {a b j k : ℕ} → ((i j : ℕ) (x y : Order) → IsEntry g i x → IsEntry g j y → i < j → x.loc <ℤ y.loc)
    → (x : Listed g l a j) (y : Listed g l b k) → x.entry ≡ y.entry
entry_by up x y = elim (cases_order x.entry y.entry) [
  | inl s ↦ s
  | inr (inl l) ↦ absurd (let h = up x.entry y.entry x.order y.order x.is y.is l in let p = x.loc in let q = y.loc in omega (arith, ints))
  | inr (inr l) ↦ absurd (let h = up y.entry x.entry y.order x.order y.is x.is l in let p = x.loc in let q = y.loc in omega (arith, ints))
]

pub has_orders : (g : Graph) → orders_ok g ≡ true → HasOrders g
has_orders g h =
    let a = and_parts (ascend_ok g.mo) (some_ok g.mo && (listed_ok g && (only_ok g && once_ok g.mo))) h in
    let b = and_parts (some_ok g.mo) (listed_ok g && (only_ok g && once_ok g.mo)) a.1 in
    let c = and_parts (listed_ok g) (only_ok g && once_ok g.mo) b.1 in
    let d = and_parts (only_ok g) (once_ok g.mo) c.1 in
    let up : (i j : ℕ) (x y : Order) → IsEntry g i x → IsEntry g j y → i < j → x.loc <ℤ y.loc = λ i j x y p q l. below_true x.loc y.loc (ascends g a.0 i j x y p q l) in
    record {
      ascend = up;
      some = λ i order p. first_some (slice_get order.writes 0) (every_at (λ i (z : Order). is_some (slice_get z.writes 0)) i g.mo order b.0 p);
      every = λ e m l v w.
          let t = every_at (λ e x. write_listed g.mo e (written_by x.label)) e g.events w.event c.0 w.is in
          let p = listed_place g.mo l e (subst (λ (o : Option Touch). write_listed g.mo e o ≡ true) w.writes t) in
          (suc p.index, record { entry = p.entry; order = p.order; is = p.is; loc = p.loc; index = p.index; there = p.there; place = refl });
      only = λ e k l x.
          let t = every_at (λ i order. every (λ k e. writes_at order.loc (touched_by written_by (slice_get g.events e))) 0 order.writes) x.entry g.mo x.order d.0 x.is in
          let u = every_at (λ k e. writes_at x.order.loc (touched_by written_by (slice_get g.events e))) x.index x.order.writes e t x.there in
          let w = writes_true x.order.loc (touched_by written_by (slice_get g.events e)) u in
          (w.0, w.1, touched_writes g e w.0 l w.1 (slice_get g.events e) refl (w.2 ∙ ap (λ (z : ℤ). Some (Touches w.0 z w.1)) x.loc));
      once = λ e j k l x y.
          let s : x.entry ≡ y.entry = entry_by up x y in
          let m = x.is in
          let n = y.is in
          let same : y.order ≡ x.order = cc in
          let t = every_at (λ i (z : Order). every (λ j a. every (λ k b. not (a == b) || j == k) 0 z.writes) 0 z.writes) x.entry g.mo x.order d.1 x.is in
          let r : x.index ≡ y.index = once_in x.order.writes t e x.index y.index x.there (subst (λ (z : Order). slice_get z.writes y.index ≡ Some e) same y.there) in
          let u = x.place in
          let v = y.place in
          omega arith;
    }
