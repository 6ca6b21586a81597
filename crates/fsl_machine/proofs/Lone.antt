-- The graph of a history of one thread.
use Rattle.std.proofs.Common.{◌≡◌, ◌<◌, ℕ, zero, suc, Bool, true, false, cond, List, [], ◌∷◌, slice_get, Option, Some, None, ℤ, ◌<ℤ◌, inl, inr, refl, ap, sym, subst, ◌∙◌, arith}
use Rattle.std.proofs.lemmas.Bool.{cases_lt}
use Rattle.std.proofs.lemmas.Bool.Decides.{Decides-int_eq}
use Rattle.std.specs.Ordering.{int_eq}
use Rattle.fsl_core.specs.declared.label.Label.{Label}
use Rattle.fsl_core.specs.declared.label.Label.TheVariants as label
use Rattle.fsl_core.specs.declared.mode.Mode.{Mode}
use Rattle.fsl_core.specs.declared.mode.Mode.TheVariants as mode
use Rattle.fsl_graph.specs.declared.event.Event.{Event}
use Rattle.fsl_graph.specs.declared.graph.Order.{Order}
use Rattle.fsl_graph.specs.declared.graph.Thread.{Thread}
use Rattle.fsl_graph.specs.Consistent.{HasOrders}
use Rattle.fsl_graph.specs.Events.{Touches, written_by, Writes}
use Rattle.fsl_graph.specs.Lone.{is_plain, IsLast, IsLone}
use Rattle.fsl_graph.specs.Places.{Listed}
use Rattle.fsl_machine.specs.Orders.{writes_of, AreAbove, Ascends}
use Rattle.fsl_machine.specs.Serial.{Stores, IsLastOf, AreBegun, IsSerial}
use Rattle.fsl_machine.specs.States.{with_trace}
use Rattle.fsl_machine.specs.History.{Trace}
use Rattle.fsl_machine.proofs.OrdersLemmas.{below_other}

-- ---- stores are writes

store_of : (x : Label) (m : Mode) (l v : ℤ) → is_plain x ≡ true → written_by x ≡ Some (Touches m l v) → x ≡ label.Store mode.Na l v
store_of (label.Store mode.Na k u) m l v plain writes = cc
store_of (label.Store mode.Rlx k u) m l v plain writes = cc
store_of (label.Store mode.Acq k u) m l v plain writes = cc
store_of (label.Store mode.Rel k u) m l v plain writes = cc
store_of (label.Store mode.AcqRel k u) m l v plain writes = cc
store_of (label.Load n k u) m l v plain writes = cc
store_of (label.Alloc k u) m l v plain writes = cc
store_of (label.Free k) m l v plain writes = cc
store_of (label.Rmw n k u w) m l v plain writes = cc
store_of (label.Fence n) m l v plain writes = cc
store_of (label.Fork ts) m l v plain writes = cc
store_of (label.Join rs) m l v plain writes = cc
store_of (label.Print u) m l v plain writes = cc
store_of (label.End u) m l v plain writes = cc

stores_from : (threads : List Thread) (t : Trace) (e : ℕ) (m : Mode) (l v : ℤ) → IsSerial t.events t.mo → Writes (with_trace threads t) e m l v → Stores t.events e l v
stores_from threads t e m l v kept w =
    record { event = w.event; is = w.is; stores = store_of w.event.label m l v (kept.plain e w.event w.is) w.writes }

writes_from : (threads : List Thread) (t : Trace) (e : ℕ) (l v : ℤ) → Stores t.events e l v → Writes (with_trace threads t) e mode.Na l v
writes_from threads t e l v s = record { event = s.event; is = s.is; writes = ap written_by s.stores }

last_from : (threads : List Thread) (t : Trace) (e : ℕ) (l v : ℤ) (o : Option ℕ) → IsSerial t.events t.mo → IsLastOf t.events e l v o → IsLast (with_trace threads t) e l v o
last_from threads t e l v None kept h = (h.0, λ w u below s. h.1 w u below (stores_from threads t w mode.Na l u kept s))
last_from threads t e l v (Some s) kept h =
    (h.0, writes_from threads t s l v h.1, λ w u after below x. h.2 w u after below (stores_from threads t w mode.Na l u kept x))

-- ---- entries of the orders are the writes of their locations

entry_above : (l : ℤ) (os : List Order) (i : ℕ) (o : Order) → AreAbove l os → slice_get os i ≡ Some o → l <ℤ o.loc
entry_above l [] i o h e = cc
entry_above l (p ∷ os) zero o h e = let same : p ≡ o = cc in subst (λ (q : Order). l <ℤ q.loc) same h.0
entry_above l (p ∷ os) (suc i) o h e = entry_above l os i o h.1 e

ascend_entries : (os : List Order) (i j : ℕ) (a b : Order) → Ascends os → slice_get os i ≡ Some a → slice_get os j ≡ Some b → i < j → a.loc <ℤ b.loc
ascend_entries [] i j a b h p q k = cc
ascend_entries (o ∷ os) zero zero a b h p q k = absurd (omega arith)
ascend_entries (o ∷ os) zero (suc j) a b h p q k =
    let same : o ≡ a = cc in subst (λ (x : Order). x.loc <ℤ b.loc) same (entry_above o.loc os j b h.0 q)
ascend_entries (o ∷ os) (suc i) zero a b h p q k = absurd (omega arith)
ascend_entries (o ∷ os) (suc i) (suc j) a b h p q k = ascend_entries os i j a b h.1 p q (omega arith)

begun_entries : (os : List Order) (i : ℕ) (o : Order) → AreBegun os → slice_get os i ≡ Some o → (e : ℕ) × (slice_get o.writes 0 ≡ Some e)
begun_entries [] i o h p = cc
begun_entries (q ∷ os) zero o h p = let same : q ≡ o = cc in subst (λ (x : Order). (e : ℕ) × (slice_get x.writes 0 ≡ Some e)) same h.0
begun_entries (q ∷ os) (suc i) o h p = begun_entries os i o h.1 p

pub record IsEntryOf (os : List Order) (l : ℤ) (ws : List ℕ) : Type 0 where
  pub entry : ℕ
  pub order : Order
  pub is : slice_get os entry ≡ Some order
  pub loc : order.loc ≡ l
  pub writes : order.writes ≡ ws

-- writes of a location are those of an entry
entry_of : (os : List Order) (l : ℤ) (i e : ℕ) → slice_get (writes_of os l) i ≡ Some e → IsEntryOf os l (writes_of os l)
entry_of [] l i e h = cc
entry_of (o ∷ os) l i e h = split (int_eq o.loc l) refl (entry_of os l i e) h where
  split : (b : Bool) → int_eq o.loc l ≡ b → (slice_get (writes_of os l) i ≡ Some e → IsEntryOf os l (writes_of os l))
      → slice_get (cond b o.writes (writes_of os l)) i ≡ Some e → IsEntryOf (o ∷ os) l (cond b o.writes (writes_of os l))
  split true t rest k = record { entry = 0; order = o; is = refl; loc = (Decides-int_eq o.loc l).0 t; writes = refl }
  split false t rest k = let r = rest k in record { entry = suc r.entry; order = r.order; is = r.is; loc = r.loc; writes = r.writes }

-- and those of an entry are the writes of its location
entry_writes : (os : List Order) (i : ℕ) (o : Order) → Ascends os → slice_get os i ≡ Some o → writes_of os o.loc ≡ o.writes
entry_writes [] i o h p = cc
entry_writes (q ∷ os) zero o h p =
    let same : q ≡ o = cc in
    subst (λ (x : Order). writes_of (q ∷ os) x.loc ≡ x.writes) same (rw ((Decides-int_eq q.loc q.loc).1 refl) refl)
entry_writes (q ∷ os) (suc i) o h p =
    let other : int_eq q.loc o.loc ≡ false = below_other q.loc o.loc (entry_above q.loc os i o h.0 p) in
    rw other (entry_writes os i o h.1 p)

listed_from : (threads : List Thread) (t : Trace) (l : ℤ) (i e : ℕ) → slice_get (writes_of t.mo l) i ≡ Some e → Listed (with_trace threads t) l e (suc i)
listed_from threads t l i e h =
    let found = entry_of t.mo l i e h in
    record {
      entry = found.entry;
      order = found.order;
      is = found.is;
      loc = found.loc;
      index = i;
      there = ap (λ (ws : List ℕ). slice_get ws i) found.writes ∙ h;
      place = refl;
    }

pub record IsListedAt (t : Trace) (l : ℤ) (e k : ℕ) : Type 0 where
  pub index : ℕ
  pub there : slice_get (writes_of t.mo l) index ≡ Some e
  pub place : k ≡ suc index

listed_at : (threads : List Thread) (t : Trace) (l : ℤ) (e k : ℕ) → Ascends t.mo → Listed (with_trace threads t) l e k → IsListedAt t l e k
listed_at threads t l e k h x =
    let writes : writes_of t.mo l ≡ x.order.writes = subst (λ (m : ℤ). writes_of t.mo m ≡ x.order.writes) x.loc (entry_writes t.mo x.entry x.order h x.is) in
    record { index = x.index; there = ap (λ (ws : List ℕ). slice_get ws x.index) writes ∙ x.there; place = x.place }

-- ---- the whole

same_index : (es : List Event) (mo : List Order) (l : ℤ) (i j e : ℕ) → IsSerial es mo → slice_get (writes_of mo l) i ≡ Some e
    → slice_get (writes_of mo l) j ≡ Some e → i ≡ j
same_index es mo l i j e kept p q = elim (cases_lt i j) [
  | inl a ↦ (let under = kept.rising l i j e e a p q in absurd (omega arith))
  | inr b ↦ elim (cases_lt j i) [
    | inl a ↦ (let under = kept.rising l j i e e a q p in absurd (omega arith))
    | inr d ↦ omega arith
  ]
]

has_orders : (threads : List Thread) (t : Trace) → IsSerial t.events t.mo → HasOrders (with_trace threads t)
has_orders threads t kept = record {
  ascend = λ i j a b p q k. ascend_entries t.mo i j a b kept.ascend p q k;
  some = λ i o p. begun_entries t.mo i o kept.begun p;
  every = λ e m l v w. (let found = kept.every e l v (stores_from threads t e m l v kept w) in (suc found.0, listed_from threads t l found.0 e found.1));
  only = λ e k l x. (let at = listed_at threads t l e k kept.ascend x in
      let stored = kept.only l at.index e at.there in
      (mode.Na, stored.0, writes_from threads t e l stored.0 stored.1));
  once = λ e j k l x y. (let a = listed_at threads t l e j kept.ascend x in
      let b = listed_at threads t l e k kept.ascend y in
      let same = same_index t.events t.mo l a.index b.index e kept a.there b.there in
      a.place ∙ ap suc same ∙ sym b.place);
}

pub is_lone : (threads : List Thread) (t : Trace) → IsSerial t.events t.mo → IsLone (with_trace threads t)
is_lone threads t kept = record {
  thread = kept.thread;
  plain = kept.plain;
  loads = λ e x l v is load. last_from threads t e l v x.from kept (kept.loads e x l v is load);
  others = kept.others;
  orders = has_orders threads t kept;
  in_order = λ a b j k l x y less. (let p = listed_at threads t l a j kept.ascend x in
      let q = listed_at threads t l b k kept.ascend y in
      let under : p.index < q.index = let i = p.place in let m = q.place in omega arith in
      kept.rising l p.index q.index a b under p.there q.there);
}
