-- Places in modification order: one each, and no two writes of a location have the same.
use Rattle.std.proofs.Common.{◌≡◌, ℕ, suc, inl, inr, Option, Some, subst₂, ℤ, subst, sym, arith, ap, ◌∙◌}
use Rattle.std.proofs.lemmas.Bool.{cases_order}
use Rattle.std.proofs.lemmas.Int.{ints}
use Rattle.fsl_core.specs.declared.mode.Mode.{Mode}
use Rattle.fsl_graph.specs.declared.event.Event.{Event}
use Rattle.fsl_graph.specs.declared.graph.Graph.{Graph}
use Rattle.fsl_graph.specs.declared.graph.Order.{Order}
use Rattle.fsl_graph.specs.Events.{Reads, Writes, Updates, read_by, written_by}
use Rattle.fsl_graph.specs.Sequenced.{Rf}
use Rattle.fsl_graph.specs.Places.{IsEntry, Listed, SourceAt}
use Rattle.fsl_graph.specs.Consistent.{IsConsistent, HasOrders}
use Rattle.fsl_graph.specs.Orders.{OneUpdate}

-- a location has one entry
pub one_entry : (g : Graph) → HasOrders g → (i j : ℕ) (a b : Order) → IsEntry g i a → IsEntry g j b → a.loc ≡ b.loc → i ≡ j
one_entry g o i j a b p q e = elim (cases_order i j) [
  | inl s ↦ s
  | inr (inl l) ↦ absurd (let h = o.ascend i j a b p q l in omega (arith, ints))
  | inr (inr l) ↦ absurd (let h = o.ascend j i b a q p l in omega (arith, ints))
]

-- no two events stand at one place
pub one_at : (g : Graph) → HasOrders g → (l : ℤ) (a b k : ℕ) → Listed g l a k → Listed g l b k → a ≡ b
one_at g o l a b k x y =
    let e : x.entry ≡ y.entry = one_entry g o x.entry y.entry x.order y.order x.is y.is (x.loc ∙ sym y.loc) in
    let p = x.is in
    let q = y.is in
    let same : x.order ≡ y.order = cc in
    let m = x.place in
    let n = y.place in
    let at : x.index ≡ y.index = omega arith in
    let u = x.there in
    let v = y.there in
    cc

-- a read-modify-write is a read and a write
abbrev pub reads_old : {g : Graph} {e : ℕ} {m : Mode} {l old new : ℤ} → Updates g e m l old new → Reads g e m l old
reads_old u = record { event = u.event; is = u.is; reads = ap read_by u.updates }

abbrev pub writes_new : {g : Graph} {e : ℕ} {m : Mode} {l old new : ℤ} → Updates g e m l old new → Writes g e m l new
writes_new u = record { event = u.event; is = u.is; writes = ap written_by u.updates }

-- what a read-modify-write reads and writes: places k and k + 1 of one location, where k is that of its source
pub update_places : (g : Graph) → IsConsistent g → (w e k : ℕ) (m : Mode) (l old new : ℤ)
    → Updates g e m l old new → Rf g w e → Listed g l w k → Listed g l e (suc k)
update_places g c w e k m l old new u r h =
    let p = c.orders.every e m l new (writes_new u) in
    let i = u.is in
    let j = r.is in
    let same : u.event ≡ r.reader = cc in
    let from : u.event.from ≡ Some w = ap (λ (x : Event). x.from) same ∙ r.source in
    let n = c.atomic e k p.0 m l old new u
    (record { mode = m; value = old; reads = reads_old u; source = subst (λ (o : Option ℕ). SourceAt g l o k) (sym from) h })
    (record { mode = m; value = new; writes = writes_new u; listed = p.1 }) in
    subst (λ (n : ℕ). Listed g l e n) n p.1

-- the location of a source is that of its reads
pub source_written : (g : Graph) → IsConsistent g → (w e : ℕ) (m : Mode) (l v : ℤ) → Reads g e m l v → Rf g w e → (n : Mode) × Writes g w n l v
source_written g c w e m l v h r =
    let s = c.sources w e r in
    let p = s.reads.is in
    let q = s.reads.reads in
    let i = h.is in
    let j = h.reads in
    let same : s.reads.event ≡ h.event = cc in
    let at : s.loc ≡ l = cc in
    let value : s.value ≡ v = cc in
    (s.write_mode, subst₂ (λ (x y : ℤ). Writes g w s.write_mode x y) at value s.writes)

pub one_update : OneUpdate
one_update g c w a b m n l k i j p q u v r s =
    let x = source_written g c w a m l i (reads_old u) r in
    let y = source_written g c w b n k p (reads_old v) s in
    let d = x.1.is in
    let e = y.1.is in
    let f = x.1.writes in
    let h = y.1.writes in
    let same : l ≡ k = cc in
    let at = c.orders.every w x.0 l i x.1 in
    one_at g c.orders l a b (suc at.0)
    (update_places g c w a at.0 m l i j u r at.1)
    (subst (λ (z : ℤ). Listed g z b (suc at.0)) (sym same) (update_places g c w b at.0 n k p q v s (subst (λ (z : ℤ). Listed g z w at.0) same at.1)))
