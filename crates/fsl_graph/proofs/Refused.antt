-- Each small graph with a fault is refused by its rule.
use Rattle.std.proofs.Common.{ℕ, zero, suc, ◌≡◌, ◌<◌, Bool, true, false, slice_get, List, [], ◌∷◌, Option, Some, None, ℤ, pos, refl, sym, ap, ◌∙◌, ⊎_elim, inl, not, arith}
use Rattle.fsl_core.specs.declared.label.Ended.{Ended}
use Rattle.fsl_core.specs.declared.label.Label.{Label}
use Rattle.fsl_core.specs.declared.label.Label.TheVariants as label
use Rattle.fsl_core.specs.declared.mode.AllocKind.{AllocKind}
use Rattle.fsl_core.specs.declared.mode.Mode.{Mode}
use Rattle.fsl_core.specs.declared.mode.Mode.TheVariants as mode
use Rattle.fsl_core.specs.Moves.{Config}
use Rattle.fsl_graph.specs.declared.event.Event.{Event}
use Rattle.fsl_graph.specs.declared.graph.Graph.{Graph}
use Rattle.fsl_graph.specs.declared.graph.Order.{Order}
use Rattle.fsl_graph.specs.Events.{Is, Touches, releases, written_by}
use Rattle.fsl_graph.specs.Sequenced.{one, more, Po, by_order, by_fork, by_join, Rf, by_sb, by_rf, IsAcyclic}
use Rattle.fsl_graph.specs.Happens.{ReleasePoint, at_write, at_fence, Hb, HbEdge, by_sb as hb_by_sb, by_sw as hb_by_sw}
use Rattle.fsl_graph.specs.Places.{WritesAt, ReadsAt}
use Rattle.fsl_graph.specs.Consistent.{HasSources, HasOrders, HasNoLoop, IsCoherent, IsAtomic}
use Rattle.fsl_graph.specs.Safe.{IsSafe}
use Rattle.fsl_graph.specs.Refused.{store, load, update, other, order, another_value, lost_write, own_child, write_write, read_write, write_read, read_read, lost_update, load_buffering, race, uninitialised, wild, freed, EachIsRefused}

-- ---- events of a small graph

reads_from : (g : Graph) (a b : ℕ) (y : Event) → Is g b y → y.from ≡ Some a → Rf g a b
reads_from g a b y is from = record { reader = y; is = is; source = from }

in_order : (g : Graph) (a b : ℕ) (x y : Event) → Is g a x → Is g b y → x.thread ≡ y.thread → a < b → Hb g a b
in_order g a b x y first second thread less =
    one (hb_by_sb (by_order (record { earlier = x; later = y; is_earlier = first; is_later = second; thread = thread; before = less })))

-- the second write stands at place k of the one order
stored : (g : Graph) (e : ℕ) (t : ℕ) (m : Mode) (v : ℤ) (k : ℕ) (writes : List ℕ) → Is g e (store t m (pos 1) v) → slice_get g.mo 0 ≡ Some (order (pos 1) writes) → slice_get writes k ≡ Some e → WritesAt g e (pos 1) (suc k)
stored g e t m v k writes is entry there =
    record {
      mode = m;
      value = v;
      writes = record { event = store t m (pos 1) v; is = is; writes = refl };
      listed = record { entry = 0; order = order (pos 1) writes; is = entry; loc = refl; index = k; there = there; place = refl };
    }

loaded : (g : Graph) (e s : ℕ) (t : ℕ) (m : Mode) (v : ℤ) (k : ℕ) (writes : List ℕ) → Is g e (load t m (pos 1) v (Some s)) → slice_get g.mo 0 ≡ Some (order (pos 1) writes) → slice_get writes k ≡ Some s → ReadsAt g e (pos 1) (suc k)
loaded g e s t m v k writes is entry there =
    record {
      mode = m;
      value = v;
      reads = record { event = load t m (pos 1) v (Some s); is = is; reads = refl };
      source = record { entry = 0; order = order (pos 1) writes; is = entry; loc = refl; index = k; there = there; place = refl };
    }

-- ---- consistent

another_value_refused : HasSources another_value → ⊥
another_value_refused sources =
    let s = sources 0 1 (reads_from another_value 0 1 _ refl refl) in
    let w = s.writes in let r = s.reads in let wi = w.is in let ri = r.is in let ww = w.writes in let rr = r.reads in
    absurd cc

-- event 1 stands in no order
not_listed : (g : Graph) (k : ℕ) (l : ℤ) (i j : ℕ) (o : Order) → slice_get (order (pos 1) (0 ∷ []) ∷ []) i ≡ Some o → slice_get o.writes j ≡ Some 1 → ⊥
not_listed g k l zero zero o is there = absurd cc
not_listed g k l zero (suc j) o is there = absurd cc
not_listed g k l (suc i) j o is there = absurd cc

lost_write_refused : HasOrders lost_write → ⊥
lost_write_refused orders =
    let place = orders.every 1 mode.Rlx (pos 1) (pos 8) (record { event = store 1 mode.Rlx (pos 1) (pos 8); is = refl; writes = refl }) in
    let at = place.1 in not_listed lost_write place.0 (pos 1) at.entry at.index at.order at.is at.there

own_child_refused : HasNoLoop own_child → ⊥
own_child_refused no_loop = no_loop 0 (more {b = 1} (hb_by_sb (by_order (record {
  earlier = other 0 (label.Print (pos 1));
  later = other 0 (label.Fork (0 ∷ []));
  is_earlier = refl;
  is_later = refl;
  thread = refl;
  before = omega arith;
})))
    (one (hb_by_sb (by_fork (record { fork = other 0 (label.Fork (0 ∷ [])); event = other 0 (label.Print (pos 1)); children = 0 ∷ []; is_fork = refl; is_event = refl; forks = refl; child = inl refl })))))

write_write_refused : IsCoherent write_write → ⊥
write_write_refused coherent =
    let less = coherent.write_write 0 1 2 1 (pos 1) (in_order write_write 0 1 _ _ refl refl refl (omega arith))
    (stored write_write 0 0 mode.Rlx (pos 7) 1 (1 ∷ 0 ∷ []) refl refl refl) (stored write_write 1 0 mode.Rlx (pos 8) 0 (1 ∷ 0 ∷ []) refl refl refl) in
    omega (arith, less)

read_write_refused : IsCoherent read_write → ⊥
read_write_refused coherent =
    let less = coherent.read_write 1 2 2 1 (pos 1) (in_order read_write 1 2 _ _ refl refl refl (omega arith))
    (loaded read_write 1 0 0 mode.Rlx (pos 7) 1 (2 ∷ 0 ∷ []) refl refl refl) (stored read_write 2 0 mode.Rlx (pos 8) 0 (2 ∷ 0 ∷ []) refl refl refl) in
    omega (arith, less)

write_read_refused : IsCoherent write_read → ⊥
write_read_refused coherent =
    let most = coherent.write_read 1 2 2 1 (pos 1) (in_order write_read 1 2 _ _ refl refl refl (omega arith))
    (stored write_read 1 0 mode.Rlx (pos 8) 1 (0 ∷ 1 ∷ []) refl refl refl) (loaded write_read 2 0 0 mode.Rlx (pos 7) 0 (0 ∷ 1 ∷ []) refl refl refl) in
    omega (arith, most)

read_read_refused : IsCoherent read_read → ⊥
read_read_refused coherent =
    let most = coherent.read_read 2 3 2 1 (pos 1) (in_order read_read 2 3 _ _ refl refl refl (omega arith))
    (loaded read_read 2 1 0 mode.Rlx (pos 8) 1 (0 ∷ 1 ∷ []) refl refl refl) (loaded read_read 3 0 0 mode.Rlx (pos 7) 0 (0 ∷ 1 ∷ []) refl refl refl) in
    omega (arith, most)

-- the second increment, which stands at place 3 and reads from place 1
lost_update_refused : IsAtomic lost_update → ⊥
lost_update_refused atomic =
    let second : Event = update 2 mode.Rlx (pos 1) (pos 0) (pos 1) (Some 0) in
    let entry : Order = order (pos 1) (0 ∷ 1 ∷ 2 ∷ []) in
    let next = atomic 2 1 3 mode.Rlx (pos 1) (pos 0) (pos 1) (record { event = second; is = refl; updates = refl })
    (record {
      mode = mode.Rlx;
      value = pos 0;
      reads = record { event = second; is = refl; reads = refl };
      source = record { entry = 0; order = entry; is = refl; loc = refl; index = 0; there = refl; place = refl };
    })
    (record {
      mode = mode.Rlx;
      value = pos 1;
      writes = record { event = second; is = refl; writes = refl };
      listed = record { entry = 0; order = entry; is = refl; loc = refl; index = 2; there = refl; place = refl };
    }) in
    omega (arith, next)

load_buffering_refused : IsAcyclic load_buffering → ⊥
load_buffering_refused acyclic = acyclic 0
    (more {b = 1} (by_sb (by_order (record { earlier = load 0 mode.Rlx (pos 1) (pos 7) (Some 3); later = store 0 mode.Rlx (pos 2) (pos 7); is_earlier = refl; is_later = refl; thread = refl; before = omega arith })))
    (more {b = 2} (by_rf (reads_from load_buffering 1 2 _ refl refl))
    (more {b = 3} (by_sb (by_order (record { earlier = load 1 mode.Rlx (pos 2) (pos 7) (Some 1); later = store 1 mode.Rlx (pos 1) (pos 7); is_earlier = refl; is_later = refl; thread = refl; before = omega arith })))
    (one (by_rf (reads_from load_buffering 3 0 _ refl refl))))))

-- ---- safe

uninitialised_refused : (last : ℕ → Config) → IsSafe uninitialised last → ⊥
uninitialised_refused last safe =
    let source = safe.initialised 1 (load 0 mode.Na (pos 1) (pos 0) None) (Touches mode.Na (pos 1) (pos 0)) refl refl in
    let from = source.1 in absurd cc

no_alloc : (e : ℕ) (x : Event) (k : AllocKind) (l : ℤ) → slice_get wild.events e ≡ Some x → x.label ≡ label.Alloc k l → ⊥
no_alloc zero x k l is allocates = absurd cc
no_alloc (suc e) x k l is allocates = absurd cc

wild_refused : (last : ℕ → Config) → IsSafe wild last → ⊥
wild_refused last safe =
    let made = safe.allocated 0 (store 0 mode.Na (pos 1) (pos 7)) (pos 1) false true (record { is = refl; accesses = refl }) in
    let allocates = made.allocates in no_alloc made.alloc allocates.event made.kind (pos 1) allocates.is allocates.allocates

-- what starts and awaits no thread, is no fence, and doesn't release
is_quiet : Label → Bool
is_quiet (label.Store m l v) = not (releases m)
is_quiet (label.Rmw m l old new) = not (releases m)
is_quiet (label.Fence m) = false
is_quiet (label.Fork ts) = false
is_quiet (label.Join rs) = false
is_quiet (label.Alloc k l) = true
is_quiet (label.Free l) = true
is_quiet (label.Load m l v) = true
is_quiet (label.Print v) = true
is_quiet (label.End v) = true

is_quiet_of : Option Event → Bool
is_quiet_of None = true
is_quiet_of (Some x) = is_quiet x.label

abbrev IsQuiet : Graph → Type 0
IsQuiet g = (e : ℕ) (x : Event) → Is g e x → is_quiet x.label ≡ true

no_fork : (x : Label) (ts : List ℕ) → is_quiet x ≡ true → x ≡ label.Fork ts → ⊥
unfolding is_quiet
no_fork x ts quiet is = cc

no_join : (x : Label) (rs : List Ended) → is_quiet x ≡ true → x ≡ label.Join rs → ⊥
unfolding is_quiet
no_join x rs quiet is = cc

no_fence : (x : Label) (m : Mode) → is_quiet x ≡ true → x ≡ label.Fence m → ⊥
unfolding is_quiet
no_fence x m quiet is = cc

no_releasing_write : (x : Label) (m : Mode) (l v : ℤ) → is_quiet x ≡ true → written_by x ≡ Some (Touches m l v) → releases m ≡ true → ⊥
unfolding is_quiet
no_releasing_write (label.Store n k u) m l v quiet writes releasing = cc
no_releasing_write (label.Rmw n k u w) m l v quiet writes releasing = cc
no_releasing_write (label.Load n k u) m l v quiet writes releasing = cc
no_releasing_write (label.Alloc k u) m l v quiet writes releasing = cc
no_releasing_write (label.Free k) m l v quiet writes releasing = cc
no_releasing_write (label.Fence n) m l v quiet writes releasing = cc
no_releasing_write (label.Fork ts) m l v quiet writes releasing = cc
no_releasing_write (label.Join rs) m l v quiet writes releasing = cc
no_releasing_write (label.Print u) m l v quiet writes releasing = cc
no_releasing_write (label.End u) m l v quiet writes releasing = cc

no_release : (g : Graph) → IsQuiet g → (p w : ℕ) → ReleasePoint g p w → ⊥
no_release g quiet p w (at_write {m} {l} {v} writes releasing at) = no_releasing_write writes.event.label m l v (quiet w writes.event writes.is) writes.writes releasing
no_release g quiet p w (at_fence {k = k} writes atomic fence releasing before) = no_fence fence.event.label k (quiet p fence.event fence.is) fence.fences

ordered : (g : Graph) → IsQuiet g → (a b : ℕ) → HbEdge g a b → Po g a b
ordered g quiet a b (hb_by_sb (by_order o)) = o
ordered g quiet a b (hb_by_sb (by_fork f)) = absurd (no_fork f.fork.label f.children (quiet a f.fork f.is_fork) f.forks)
ordered g quiet a b (hb_by_sb (by_join j)) = absurd (no_join j.join.label j.results (quiet b j.join j.is_join) j.joins)
ordered g quiet a b (hb_by_sw s) = absurd (no_release g quiet a s.write s.release)

one_event : (g : Graph) (e : ℕ) (x y : Event) → Is g e x → Is g e y → x ≡ y
one_event g e x y first second = cc

po_then : (g : Graph) (a b c : ℕ) → Po g a b → Po g b c → Po g a c
po_then g a b c first second = record {
  earlier = first.earlier;
  later = second.later;
  is_earlier = first.is_earlier;
  is_later = second.is_later;
  thread = first.thread ∙ ap (λ (x : Event). x.thread) (one_event g b first.later second.earlier first.is_later second.is_earlier) ∙ second.thread;
  before = (let p = first.before in let q = second.before in omega (arith, p, q));
}

-- in a quiet graph, what happens before is before in program order
in_program_order : (g : Graph) → IsQuiet g → (a b : ℕ) → Hb g a b → Po g a b
in_program_order g quiet a b (one e) = ordered g quiet a b e
in_program_order g quiet a b (more {b = c} e path) = po_then g a c b (ordered g quiet a c e) (in_program_order g quiet c b path)

freed_quiet : IsQuiet freed
unfolding is_quiet is_quiet_of
freed_quiet zero x is = sym (ap (λ (o : Option Event). is_quiet_of o) is)
freed_quiet (suc zero) x is = sym (ap (λ (o : Option Event). is_quiet_of o) is)
freed_quiet (suc (suc zero)) x is = sym (ap (λ (o : Option Event). is_quiet_of o) is)
freed_quiet (suc (suc (suc e))) x is = absurd cc

race_quiet : IsQuiet race
unfolding is_quiet is_quiet_of
race_quiet zero x is = sym (ap (λ (o : Option Event). is_quiet_of o) is)
race_quiet (suc zero) x is = sym (ap (λ (o : Option Event). is_quiet_of o) is)
race_quiet (suc (suc e)) x is = absurd cc

freed_refused : (last : ℕ → Config) → IsSafe freed last → ⊥
freed_refused last safe =
    ⊎_elim (λ (same : 2 ≡ 1). omega (arith, same)) (λ (before : Hb freed 2 1). let less = (in_program_order freed freed_quiet 2 1 before).before in omega (arith, less))
    (safe.freed 2 1 (store 0 mode.Na (pos 1) (pos 7)) (pos 1) false true (record { event = other 0 (label.Free (pos 1)); is = refl; frees = refl }) (record { is = refl; accesses = refl }))

race_apart : (x y : Event) → Is race 0 x → Is race 1 y → x.thread ≡ y.thread → ⊥
race_apart x y first second same = cc

race_unordered : Hb race 0 1 → ⊥
race_unordered before = let o = in_program_order race race_quiet 0 1 before in race_apart o.earlier o.later o.is_earlier o.is_later o.thread

race_unordered_back : Hb race 1 0 → ⊥
race_unordered_back before = let less = (in_program_order race race_quiet 1 0 before).before in omega (arith, less)

race_refused : (last : ℕ → Config) → IsSafe race last → ⊥
race_refused last safe = safe.no_race 0 1 (record {
  x = store 0 mode.Na (pos 1) (pos 7);
  y = store 1 mode.Na (pos 1) (pos 8);
  loc = pos 1;
  a_atomic = false;
  b_atomic = false;
  a_changes = true;
  b_changes = true;
  accesses = record { is = refl; accesses = refl };
  other = record { is = refl; accesses = refl };
  threads = λ same. omega (arith, same);
  changes = inl refl;
  plain = inl refl;
  unordered = race_unordered;
  unordered_back = race_unordered_back;
})

pub each_is_refused : EachIsRefused
each_is_refused = record {
  sources = another_value_refused;
  orders = lost_write_refused;
  no_loop = own_child_refused;
  write_before_write = write_write_refused;
  read_before_write = read_write_refused;
  write_before_read = write_read_refused;
  read_before_read = read_read_refused;
  atomic = lost_update_refused;
  acyclic = load_buffering_refused;
  data_race = race_refused;
  no_source = uninitialised_refused;
  not_allocated = wild_refused;
  used_after_free = freed_refused;
}
