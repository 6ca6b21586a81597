-- A read behind all writes of its location reads the last of them, by coherence.
use Rattle.std.proofs.Common.{◌≡◌, ◌<◌, ◌≤◌, ℕ, inl, inr, Option, Some, None, ℤ, subst, sym, refl, ap, ◌∙◌, arith}
use Rattle.fsl_core.specs.declared.mode.Mode.{Mode}
use Rattle.fsl_graph.specs.declared.event.Event.{Event}
use Rattle.fsl_graph.specs.declared.graph.Graph.{Graph}
use Rattle.fsl_graph.specs.Events.{Reads, Writes}
use Rattle.fsl_graph.specs.Sequenced.{Rf}
use Rattle.fsl_graph.specs.Sequenced.Edge.{by_rf}
use Rattle.fsl_graph.specs.Happens.{Hb}
use Rattle.fsl_graph.specs.Places.{Listed, WritesAt, ReadsAt, SourceAt}
use Rattle.fsl_graph.specs.Consistent.{IsConsistent}
use Rattle.fsl_graph.specs.Reading.{ReadHasSource, ReadSeesLast, WriteIsLast, LastStays, OneLast}
use Rattle.fsl_graph.proofs.Places.{one_at, source_written}

-- a write has a place
pub at_place : (g : Graph) → IsConsistent g → (e : ℕ) (m : Mode) (l v : ℤ) → Writes g e m l v → (k : ℕ) × WritesAt g e l k
at_place g c e m l v w = let p = c.orders.every e m l v w in (p.0, record { mode = m; value = v; writes = w; listed = p.1 })

-- a read without a source stands before all writes
source_behind : (g : Graph) → IsConsistent g → (w e k : ℕ) (n : Mode) (l v : ℤ) (r : Reads g e n l v) → WritesAt g w l k → Hb g w e
    → (o : Option ℕ) → r.event.from ≡ o → (s : ℕ) × Rf g s e
source_behind g c w e k n l v r at h (Some s) q = (s, record { reader = r.event; is = r.is; source = q })
source_behind g c w e k n l v r at h None q = absurd (
    let f = c.coherent.write_read w e k 0 l h at (record { mode = n; value = v; reads = r; source = subst (λ (o : Option ℕ). SourceAt g l o 0) (sym q) refl }) in
    let p = at.listed.place in
    omega arith)

pub read_has_source : ReadHasSource
read_has_source g c w e m n l u v x r h =
    let p = at_place g c w m l u x in
    source_behind g c w e p.0 n l v r p.1 h r.event.from refl

-- the place of a source is that of its read
pub reads_at : (g : Graph) → IsConsistent g → (s e k : ℕ) (m : Mode) (l v : ℤ) → Reads g e m l v → Rf g s e → Listed g l s k → ReadsAt g e l k
reads_at g c s e k m l v r f h =
    let i = r.is in
    let j = f.is in
    let same : r.event ≡ f.reader = cc in
    let from : r.event.from ≡ Some s = ap (λ (x : Event). x.from) same ∙ f.source in
    record { mode = m; value = v; reads = r; source = subst (λ (o : Option ℕ). SourceAt g l o k) (sym from) h }

pub read_sees_last : ReadSeesLast
read_sees_last g c done e x m l v comes r w all =
    let s = read_has_source g c w.write e w.mode m l w.value v w.writes r (all w.write w.mode w.value w.past w.writes) in
    let y = source_written g c s.0 e m l v r s.1 in
    let p = at_place g c s.0 y.0 l v y.1 in
    record {
      source = s.0;
      from = s.1;
      last = record {
        past = comes.before s.0 (by_rf s.1);
        place = p.0;
        writes = p.1;
        last = λ u k i z. c.coherent.write_read u e k p.0 l (all u z.mode z.value i z.writes) z (reads_at g c s.0 e p.0 m l v r s.1 p.1.listed);
      };
      mode = y.0;
      writes = y.1;
    }

pub write_is_last : WriteIsLast
write_is_last g c done e m l v w all =
    let p = at_place g c e m l v w in
    record {
      past = inl refl;
      place = p.0;
      writes = p.1;
      last = λ u k i z. elim i [
        | inl s ↦
            let q : k ≡ p.0 = c.orders.once e k p.0 l (subst (λ (n : ℕ). Listed g l n k) s z.listed) p.1.listed in
            omega arith
        | inr j ↦
            let b : k < p.0 = c.coherent.write_write u e k p.0 l (all u z.mode z.value j z.writes) z p.1 in
            omega arith
      ];
    }

pub last_stays : LastStays
last_stays g done e w l h n = record {
  past = inr h.past;
  place = h.place;
  writes = h.writes;
  last = λ u k i z. elim i [
    | inl s ↦ absurd (n z.mode z.value (subst (λ (a : ℕ). Writes g a z.mode l z.value) s z.writes))
    | inr j ↦ h.last u k j z
  ];
}

pub one_last : OneLast
one_last g c done l u w h k =
    let a : h.place ≤ k.place = k.last u h.place h.past h.writes in
    let b : k.place ≤ h.place = h.last w k.place k.past k.writes in
    let s : k.place ≡ h.place = omega arith in
    one_at g c.orders l u w h.place h.writes.listed (subst (λ (n : ℕ). Listed g l w n) s k.writes.listed)
