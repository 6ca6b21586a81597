-- What each kind of event tells, by what happens before it.
use Rattle.std.proofs.Common.{◌≡◌, ℕ, zero, suc, inl, inr, List, [], ◌∷◌, Some, None, slice_get, map, ℤ, subst, sym, refl, ap, ◌∙◌, arith}
use Rattle.std.proofs.lemmas.Bool.{cases_eq}
use Rattle.fsl_core.specs.declared.label.Ended.{Ended}
use Rattle.fsl_core.specs.declared.mode.Mode.{Mode}
use Rattle.fsl_graph.specs.declared.event.Event.{Event}
use Rattle.fsl_graph.specs.declared.graph.Graph.{Graph}
use Rattle.fsl_graph.specs.Events.{Reads, Writes, Fences, read_by, written_by, Touches}
use Rattle.fsl_graph.specs.Sequenced.{In, Rf, thread_of}
use Rattle.fsl_graph.specs.Sequenced.Path.{one}
use Rattle.fsl_graph.specs.Sequenced.SbEdge.{by_order, by_fork as fork_edge, by_join as join_edge}
use Rattle.fsl_graph.specs.Happens.{Hb, AcquirePoint}
use Rattle.fsl_graph.specs.Happens.HbEdge.{by_sb, by_sw}
use Rattle.fsl_graph.specs.Happens.InSequence.{head, next}
use Rattle.fsl_graph.specs.Happens.ReleasePoint.{at_write, at_fence as release_fence}
use Rattle.fsl_graph.specs.Happens.AcquirePoint.{at_read, at_fence as acquire_fence}
use Rattle.fsl_graph.specs.Ends.{IsEndOf}
use Rattle.fsl_graph.specs.Positions.{IsSent, Reaches, StandsFor}
use Rattle.fsl_graph.specs.Positions.StandsFor.{by_event, by_fork}
use Rattle.fsl_graph.proofs.Ended.{joined_ended}
use Rattle.fsl_graph.proofs.Paths.{path_behind}
use Rattle.fsl_own.specs.Knowledge.{ForkTells, JoinTells, AwaitTells, ReleaseWriteTells, AtomicWriteTells, UpdateTells, ReleaseFenceTells, AcquireFenceTells, AcquiringReadTells, AtomicReadTells}
use Rattle.fsl_own.proofs.Knowing.{po_before, known_at, known_after}

-- ---- threads

pub fork_tells : ForkTells
fork_tells g done e x children t c f i a s = record {
  last = e;
  past = inl refl;
  stands = by_fork (record { event = x; is = c.is; children = children; forks = f; child = i });
  reaches = known_at g done e x a c s;
}

-- what stands for a thread that has ended comes before its End, or is it
to_end : (g : Graph) (t a d : ℕ) (v : ℤ) → IsEndOf g t d v → StandsFor g t a → Reaches g a d
to_end g t a d v n (by_event y p q) =
    let l = n.last a y p q in
    elim (cases_eq a d) [
      | inl s ↦ inl s
      | inr s ↦ inr (one (by_sb (by_order (record { earlier = y; later = n.event; is_earlier = p; is_later = n.is; thread = q ∙ sym n.thread; before = omega arith }))))
    ]
to_end g t a d v n (by_fork f) = inr (one (by_sb (fork_edge (record {
  fork = f.event;
  event = n.event;
  children = f.children;
  is_fork = f.is;
  is_event = n.is;
  forks = f.forks;
  child = rw n.thread f.child;
}))))

pub join_tells : JoinTells
join_tells g done e x results t d v c j i n a s =
    known_after g done e x a c (inr (path_behind s.reaches (path_behind (to_end g t s.last d v n s.stands) (one (by_sb (join_edge (record {
      last = n.event;
      join = x;
      value = v;
      results = results;
      is_last = n.is;
      is_join = c.is;
      ends = n.ends;
      joins = j;
      child = rw n.thread i;
    })))))))

-- a result is one of a thread that is waited for, and each such thread has one
pub awaited : (results : List Ended) (k : ℕ) (r : Ended) → slice_get results k ≡ Some r → In r.thread (map thread_of results)
awaited [] k r h = absurd (let f : None ≡ Some r = h in cc)
awaited (q ∷ qs) zero r h = let f : Some q ≡ Some r = h in let e : r ≡ q = cc in inl (ap thread_of e)
awaited (q ∷ qs) (suc k) r h = inr (awaited qs k r h)

pub result_of : (results : List Ended) (t : ℕ) → In t (map thread_of results) → (k : ℕ) × (r : Ended) × (slice_get results k ≡ Some r) × (r.thread ≡ t)
result_of [] t i = elim i [ ]
result_of (q ∷ qs) t (inl e) = (0, q, refl, sym e)
result_of (q ∷ qs) t (inr i) = let h = result_of qs t i in (suc h.0, h.1, h.2, h.3)

pub await_tells : AwaitTells
await_tells p g last ex done e x t v c w =
    let n = joined_ended p g last ex e t v w in
    let i = c.is in
    let j = w.is in
    let same : w.event ≡ x = cc in
    join_tells g done e x w.results t n.0 v c (sym (ap (λ (y : Event). y.label) same) ∙ w.joins)
    (subst (λ (s : ℕ). In s (map thread_of w.results)) w.thread (awaited w.results w.entry w.ended w.among)) n.1

-- ---- writes

pub release_write_tells : ReleaseWriteTells
release_write_tells g done e x m l v part c w r a s =
    record { head = e; point = e; sequence = head; release = at_write w r refl; reaches = known_at g done e x a c s }

-- a fence doesn't write, nor read
fence_writes : (g : Graph) (e : ℕ) (m k : Mode) (l v : ℤ) → Writes g e m l v → Fences g e k → ⊥
fence_writes g e m k l v w f =
    let p = w.is in
    let q = f.is in
    let same : f.event ≡ w.event = cc in
    let h : None ≡ Some (Touches m l v) = ap written_by (sym f.fences ∙ ap (λ (y : Event). y.label) same) ∙ w.writes in
    absurd (cc)

fence_reads : (g : Graph) (e : ℕ) (m k : Mode) (l v : ℤ) → Reads g e m l v → Fences g e k → ⊥
fence_reads g e m k l v r f =
    let p = r.is in
    let q = f.is in
    let same : f.event ≡ r.event = cc in
    let h : None ≡ Some (Touches m l v) = ap read_by (sym f.fences ∙ ap (λ (y : Event). y.label) same) ∙ r.reads in
    absurd (cc)

pub atomic_write_tells : AtomicWriteTells
atomic_write_tells g done e x m l v part c w r a s = elim s.past [
  | inl q ↦ absurd (fence_writes g e m s.mode l v w (subst (λ (n : ℕ). Fences g n s.mode) q s.fences))
  | inr i ↦ record {
    head = e;
    point = s.fence;
    sequence = head;
    release = release_fence w r s.fences s.releases (po_before g done s.fence e x s.event c i s.is s.thread);
    reaches = s.reaches;
  }
]

pub update_tells : UpdateTells
update_tells g done w e m l old new part other u r a s =
    record { head = s.head; point = s.point; sequence = next s.sequence r u; release = s.release; reaches = s.reaches }

-- ---- reads

-- where a message is acquired, what it knows of happened before
acquired : (g : Graph) (w r p a : ℕ) → Rf g w r → AcquirePoint g r p → IsSent g w a → Hb g a p
acquired g w r p a f q s = path_behind s.reaches (one (by_sw (record {
  write = s.head;
  source = w;
  read = r;
  release = s.release;
  sequence = s.sequence;
  reads = f;
  acquire = q;
})))

pub acquiring_read_tells : AcquiringReadTells
acquiring_read_tells g done w e x m l v part c r q f a s = known_after g done e x a c (inr (acquired g w e e a f (at_read r q refl) s))

pub atomic_read_tells : AtomicReadTells
atomic_read_tells g done w e x m l v part c r q f a s =
    let p = c.is in
    let i = r.is in
    let same : r.event ≡ x = cc in
    record {
      read = e;
      past = inl refl;
      mode = m;
      loc = l;
      value = v;
      reads = r;
      thread = ap (λ (y : Event). y.thread) same;
      atomic = q;
      source = w;
      from = f;
      sent = s;
    }

-- ---- fences

pub release_fence_tells : ReleaseFenceTells
release_fence_tells g done e x m c f r a s = record {
  fence = e;
  past = inl refl;
  event = x;
  is = c.is;
  thread = refl;
  mode = m;
  fences = f;
  releases = r;
  reaches = known_at g done e x a c s;
}

pub acquire_fence_tells : AcquireFenceTells
acquire_fence_tells g done e x m c f q a s = elim s.past [
  | inl n ↦ absurd (fence_reads g e s.mode m s.loc s.value (subst (λ (n : ℕ). Reads g n s.mode s.loc s.value) n s.reads) f)
  | inr i ↦ known_after g done e x a c (inr (acquired g s.source s.read e a s.from
      (acquire_fence s.reads s.atomic f q (po_before g done s.read e x s.reads.event c i s.reads.is s.thread)) s.sent))
]
