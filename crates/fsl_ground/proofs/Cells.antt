-- Cells through their events: allocated, loaded, stored to and freed.
use Rattle.std.proofs.Common.{◌≡◌, ◌≤◌, ◌+◌, ℕ, Bool, true, false, ◌⊎◌, inl, inr, List, [], ◌∷◌, Option, Some, None, ℤ, refl, sym, ap, subst, ◌∙◌, arith}
use Rattle.fsl_core.specs.declared.label.Label.{Label}
use Rattle.fsl_core.specs.declared.label.Label.TheVariants as label
use Rattle.fsl_core.specs.declared.mode.AllocKind.{AllocKind}
use Rattle.fsl_core.specs.declared.mode.AllocKind.TheVariants as kind
use Rattle.fsl_core.specs.declared.mode.Mode.{Mode}
use Rattle.fsl_core.specs.declared.mode.Mode.TheVariants as mode
use Rattle.fsl_graph.specs.declared.event.Event.{Event}
use Rattle.fsl_graph.specs.declared.graph.Graph.{Graph}
use Rattle.fsl_graph.specs.Events.{Is, Reads, Writes, Touch, Touches, read_by, written_by, is_atomic}
use Rattle.fsl_graph.specs.Sequenced.{In, Rf}
use Rattle.fsl_graph.specs.Consistent.{IsConsistent}
use Rattle.fsl_graph.specs.Execution.{Allocates, IsDistinct}
use Rattle.fsl_graph.specs.Safe.{Access, Accesses, access_by, IsAccess, IsFreed}
use Rattle.fsl_graph.specs.Orders.{Comes}
use Rattle.fsl_graph.specs.Positions.{Holder}
use Rattle.fsl_graph.specs.Positions.{Holder as holder}
use Rattle.fsl_graph.specs.Reading.{IsLast, ReadsLast}
use Rattle.fsl_graph.proofs.Reading.{one_last}
use Rattle.fsl_graph.proofs.Threads.{one_event, one_write, one_access}
use Rattle.fsl_own.specs.Reading.{KnowsWrites}
use Rattle.fsl_own.specs.Kept.{UsesOwn}
use Rattle.fsl_own.specs.Owning.{Resource, Cell, Permission, Tokens, Bank, Heap, World, full, only, Deal, Known, limit, IsAlive, IsThere, UsesCell, Owned, Adds, Agree}
use Rattle.fsl_own.proofs.Knowing.{positions_grow}
use Rattle.fsl_own.proofs.Reading.{known_is_read, known_is_overwritten}
use Rattle.fsl_own.proofs.Totals.{only_here, only_elsewhere, only_some, same_resource}
use Rattle.fsl_own.proofs.Owning.{alone, kept_by_gaining, kept_by_free}
use Rattle.fsl_ground.specs.Ground.{Meaning, IsDue, Sends, IsValue, IsMade, IsAllocatedIn, Ground}
use Rattle.fsl_ground.specs.Changes.{with_value}
use Rattle.fsl_ground.proofs.Ground.{messages_kept, ground_changed, ground_by_knowing, ground_by_quiet, due_earlier, safe_next, value_stays, same_agrees}
use Rattle.fsl_ground.proofs.Safety.{quiet_is_safe, plain_is_safe, alive_not_made}
use Rattle.fsl_ground.proofs.Tables.{int_here, int_elsewhere, int_or}

cell_same : (a b : ℤ) → Cell a ≡ Cell b → a ≡ b
cell_same a b e = cc

pub message_not_plain : (m part t : ℕ) → holder.Message m part ≡ holder.Plain t → ⊥
message_not_plain m part t e = absurd (cc)

-- ---- labels

-- what an event of another label doesn't do
pub frees_not : (g : Graph) (e : ℕ) (x : Event) (c : ℤ) → Is g e x → (x.label ≡ label.Free c → ⊥) → IsFreed g e c → ⊥
frees_not g e x c is n f = n (ap (λ (z : Event). z.label) (one_event g e x f.event is f.is) ∙ f.frees)

pub writes_not : (g : Graph) (e : ℕ) (x : Event) (m : Mode) (c v : ℤ) → Is g e x → written_by x.label ≡ None → Writes g e m c v → ⊥
writes_not g e x m c v is n w =
    let q : None ≡ Some (Touches m c v) = sym n ∙ ap (λ (z : Event). written_by z.label) (one_event g e x w.event is w.is) ∙ w.writes in
    absurd (cc)

pub uses_not : (g : Graph) (e : ℕ) (x : Event) (c : ℤ) → Is g e x → access_by x.label ≡ None → UsesCell g e c → ⊥
uses_not g e x c is n u =
    let q : None ≡ Some (Accesses c false u.changes) = sym n ∙ ap (λ (z : Event). access_by z.label) (one_event g e x u.event is u.access.is) ∙ u.access.accesses in
    absurd (cc)

-- an event that accesses nothing uses nothing, of whatever world
pub quiet_uses_own : (g : Graph) (w : World) (e : ℕ) (x : Event) → Is g e x → access_by x.label ≡ None → written_by x.label ≡ None → UsesOwn g w e x
quiet_uses_own g w e x is accesses writes = record {
  frees_none = λ c f. frees_not g e x c is (λ q. absurd (let z : None ≡ Some (Accesses c false true) = sym accesses ∙ ap access_by q in cc)) f;
  uses = λ c u. absurd (uses_not g e x c is accesses u);
  writes = λ c v m y h l. absurd (writes_not g e x m c v is writes y);
}

-- events that access nothing leave the ground as it is
pub quiet_keeps : (asks : Meaning) (g : Graph) (done but : List ℕ) (k : Known) (w : World) (e : ℕ) (x : Event) → Ground asks g done but k w → Comes g done e x
    → access_by x.label ≡ None → read_by x.label ≡ None → written_by x.label ≡ None → Ground asks g (e ∷ done) but k w
quiet_keeps asks g done but k w e x ground comes accesses reads writes =
    ground_by_quiet asks g done but k w e x ground comes (quiet_uses_own g w e x comes.is accesses writes) (quiet_is_safe g done e x comes.is accesses reads)
    (λ c u v m q y. writes_not g e x m c u comes.is writes y) (λ d l v s. writes_not g e x s.mode l v comes.is writes s.writes)

-- ---- a new location

-- nothing that was done has to do with a location that is allocated only now
pub new_location : (asks : Meaning) (g : Graph) (done but : List ℕ) (k : Known) (w : World) (e : ℕ) (x : Event) (l : ℤ) (j : AllocKind) → IsDistinct g → Ground asks g done but k w → Comes g done e x
    → x.label ≡ label.Alloc j l → (i : AllocKind) (a : ℕ) → In a done → Allocates g a i l → ⊥
new_location asks g done but k w e x l j distinct ground comes is i a past made =
    comes.fresh (subst (λ (z : ℕ). In z done) (distinct a e i j l made (record { event = x; is = comes.is; allocates = is })) past)

pub unaccessed : (asks : Meaning) (g : Graph) (done but : List ℕ) (k : Known) (w : World) (l : ℤ) → Ground asks g done but k w → ((i : AllocKind) (a : ℕ) → In a done → Allocates g a i l → ⊥)
    → (b : ℕ) (y : Event) (atomic changes : Bool) → In b done → IsAccess g b y l atomic changes → ⊥
unaccessed asks g done but k w l ground new b y atomic changes i acc =
    let a = ground.safe.allocated b y l atomic changes i acc in new a.kind a.alloc a.past a.allocates

write_access : (x : Label) (m : Mode) (l v : ℤ) → written_by x ≡ Some (Touches m l v) → access_by x ≡ Some (Accesses l (is_atomic m) true)
write_access (label.Store n k u) m l v h = let e : Some (Touches n k u) ≡ Some (Touches m l v) = h in let p : n ≡ m = cc in let q : k ≡ l = cc in cc
write_access (label.Rmw n k o u) m l v h = let e : Some (Touches n k u) ≡ Some (Touches m l v) = h in let p : n ≡ m = cc in let q : k ≡ l = cc in cc
write_access (label.Free k) m l v h = absurd (let e : None ≡ Some (Touches m l v) = h in cc)
write_access (label.Load n k u) m l v h = absurd (let e : None ≡ Some (Touches m l v) = h in cc)
write_access (label.Alloc j k) m l v h = absurd (let e : None ≡ Some (Touches m l v) = h in cc)
write_access (label.Fence n) m l v h = absurd (let e : None ≡ Some (Touches m l v) = h in cc)
write_access (label.Fork ts) m l v h = absurd (let e : None ≡ Some (Touches m l v) = h in cc)
write_access (label.Join rs) m l v h = absurd (let e : None ≡ Some (Touches m l v) = h in cc)
write_access (label.Print u) m l v h = absurd (let e : None ≡ Some (Touches m l v) = h in cc)
write_access (label.End u) m l v h = absurd (let e : None ≡ Some (Touches m l v) = h in cc)

pub unwritten : (asks : Meaning) (g : Graph) (done but : List ℕ) (k : Known) (w : World) (l : ℤ) → Ground asks g done but k w → ((i : AllocKind) (a : ℕ) → In a done → Allocates g a i l → ⊥)
    → (b : ℕ) (m : Mode) (v : ℤ) → In b done → Writes g b m l v → ⊥
unwritten asks g done but k w l ground new b m v i u =
    unaccessed asks g done but k w l ground new b u.event (is_atomic m) true i (record { is = u.is; accesses = write_access u.event.label m l v u.writes })

-- ---- allocation of a cell

pub alloc_cell : (asks : Meaning) (g : Graph) (done but : List ℕ) (k : Known) (w v : World) (e : ℕ) (x : Event) (c : ℤ) → IsDistinct g → Ground asks g done but k w → Comes g done e x
    → x.label ≡ label.Alloc kind.Na c → Adds w v (holder.Plain x.thread) (only (Cell c) full) → Ground asks g (e ∷ done) but k v
alloc_cell asks g done but k w v e x c distinct ground comes is a =
    let after = quiet_keeps asks g done but k w e x ground comes (ap access_by is) (ap read_by is) (ap written_by is) in
    let new = new_location asks g done but k w e x c kind.Na distinct ground comes is in
    let alive : IsAlive g (e ∷ done) c = record {
      alloc = e;
      past = inl refl;
      made = record { event = x; is = comes.is; allocates = is };
      unfreed = λ f i r. elim i [
        | inl q ↦ frees_not g e x c comes.is (λ z. absurd (let y : label.Alloc kind.Na c ≡ label.Free c = sym is ∙ z in cc)) (subst (λ (n : ℕ). IsFreed g n c) q r)
        | inr j ↦ unaccessed asks g done but k w c ground new f r.event false true j (record { is = r.is; accesses = ap access_by r.frees })
      ];
    } in
    ground_changed asks g (e ∷ done) but k k w v after
    (kept_by_gaining g (e ∷ done) k k w v (holder.Plain x.thread) (only (Cell c) full) after.owned a (λ r h. h)
    (λ r l. subst (λ (z : Resource). IsThere g (e ∷ done) k z) (only_some (Cell c) r full l) alive)
    (λ r n l none. elim (same_resource (Cell c) r) [
      | inl q ↦
          let no = none (λ h o. let there : IsAlive g done c = ground.owned.there h (Cell c) (subst (λ (z : Resource). 1 ≤ w h z) (sym q) o) in new kind.Na there.alloc there.past there.made) in
          let most : limit k r ≡ full = subst (λ (z : Resource). limit k z ≡ full) q refl in
          let here : only (Cell c) full r ≡ full = subst (λ (z : Resource). only (Cell c) full z ≡ full) q (only_here (Cell c) full) in
          omega arith
      | inr f ↦ let z = only_elsewhere (Cell c) r full f in omega arith
    ])
    (λ d l b m u i y. elim i [
      | inl q ↦ absurd (writes_not g e x m d u comes.is (ap written_by is) (subst (λ (n : ℕ). Writes g n m d u) q y))
      | inr j ↦ absurd (unwritten asks g done but k w c ground new b m u j (subst (λ (z : ℤ). Writes g b m z u) (sym (cell_same c d (only_some (Cell c) (Cell d) full l))) y))
    ]))
    after.right (λ l d q. after.made l d q) (λ l d q. q) (λ m d l u i s. s) (λ m d l u part s q. q)
    (λ m part r. let s = a.others (holder.Message m part) r (message_not_plain m part x.thread) in omega arith)
    (λ m part r o. same_agrees k r)

-- ---- a store

same_there : (g : Graph) (done : List ℕ) (k : Known) (c : ℤ) (o : Option ℤ) (r : Resource) → IsThere g done k r → IsThere g done (with_value k c o) r
same_there g done k c o (Cell d) h = h
same_there g done k c o (Permission a b) h = h
same_there g done k c o (Tokens b) h = h
same_there g done k c o (Bank b) h = h

same_limit : (k : Known) (c : ℤ) (o : Option ℤ) (r : Resource) → limit k r ≤ limit (with_value k c o) r
same_limit k c o (Cell d) = omega arith
same_limit k c o (Permission a b) = omega arith
same_limit k c o (Tokens b) = omega arith
same_limit k c o (Bank b) = omega arith

pub store_cell : (asks : Meaning) (g : Graph) (done but : List ℕ) (k : Known) (w : World) (e : ℕ) (x : Event) (c v : ℤ) → IsConsistent g → IsDistinct g → Ground asks g done but k w → Comes g done e x
    → x.label ≡ label.Store mode.Na c v → full ≤ w (holder.Plain x.thread) (Cell c) → Ground asks g (e ∷ done) but (with_value k c (Some v)) w
store_cell asks g done but k w e x c v consistent distinct ground comes is all =
    let some : 1 ≤ w (holder.Plain x.thread) (Cell c) = omega (arith, all) in
    let alive : IsAlive g done c = ground.owned.there (holder.Plain x.thread) (Cell c) some in
    let writes : Writes g e mode.Na c v = record { event = x; is = comes.is; writes = ap written_by is } in
    let forgotten : Ground asks g done but (with_value k c None) w =
    ground_by_knowing asks g done but k (with_value k c None) w ground (λ r h. same_there g done k c None r h) (λ r. same_limit k c None r) (λ d u q. forget d u q) refl (λ l u part h. h)
    (λ m part r o. agrees None m part r o) in
    let after : Ground asks g (e ∷ done) but (with_value k c None) w =
    ground_by_quiet asks g done but (with_value k c None) w e x forgotten comes (record {
      frees_none = λ d f. frees_not g e x d comes.is (λ q. absurd (let y : label.Store mode.Na c v ≡ label.Free d = sym is ∙ q in cc)) f;
      uses = λ d u. subst (λ (z : ℤ). 1 ≤ w (holder.Plain x.thread) (Cell z)) (used d u) some;
      writes = λ d u m y h l.
          let same = (one_write g e mode.Na m c d v u writes y).1 in
          sym (alone g done k w ground.owned (holder.Plain x.thread) h (Cell c) all (subst (λ (z : ℤ). 1 ≤ w h (Cell z)) (sym same) l));
    })
    (plain_is_safe asks g done but (with_value k c None) w e x c true distinct forgotten comes (ap access_by is) some (λ q. all)
    (λ t q. absurd (let y : None ≡ Some t = sym (ap read_by is) ∙ q in cc)))
    (λ d u b m q y. absurd (let same = (one_write g e mode.Na m c d v u writes y).1 in
    let none = subst (λ (z : ℤ). (with_value k c None).values z ≡ None) same (int_here c None (k.values c)) in
    let f : None ≡ Some b = sym none ∙ q in cc))
    (λ d l u s. alive_not_made g done c d distinct alive (ground.made c d (subst (λ (z : ℤ). k.deals z ≡ Some d) (sym (one_write g e mode.Na s.mode c l v u writes s.writes).1) s.made))) in
    let last = known_is_overwritten g consistent done e x mode.Na c v comes writes (ground.owned.knows (holder.Plain x.thread) c some) in
    ground_by_knowing asks g (e ∷ done) but (with_value k c None) (with_value k c (Some v)) w after (λ r h. there_again r h) (λ r. limit_again r)
    (λ d u q. elim (int_or d c) [
      | inl p ↦
          let known = subst (λ (z : ℤ). (with_value k c (Some v)).values z ≡ Some v) (sym p) (int_here c (Some v) (k.values c)) in
          let f : Some v ≡ Some u = sym known ∙ q in
          let same : v ≡ u = cc in
          subst (λ (z : ℤ). IsValue g (e ∷ done) z u) (sym p) (subst (λ (z : ℤ). IsValue g (e ∷ done) c z) same
          (record { alloc = alive.alloc; allocated = inr alive.past; made = alive.made; write = e; last = last.0; mode = mode.Na; writes = writes }))
      | inr n ↦
          let before : (with_value k c None).values d ≡ Some u = int_elsewhere d c None (k.values d) n ∙ sym (int_elsewhere d c (Some v) (k.values d) n) ∙ q in
          after.right d u before
    ])
    refl (λ l u part h. h)
    (λ m part r o. again m part r o)
  where
    used : (d : ℤ) → UsesCell g e d → c ≡ d
    used d u = (one_access g e x u.event c d false false true u.changes (record { is = comes.is; accesses = ap access_by is }) u.access).0

    forget : (d u : ℤ) → (with_value k c None).values d ≡ Some u → IsValue g done d u
    forget d u q = elim (int_or d c) [
      | inl p ↦ absurd (let none = subst (λ (z : ℤ). (with_value k c None).values z ≡ None) (sym p) (int_here c None (k.values c)) in let f : None ≡ Some u = sym none ∙ q in cc)
      | inr n ↦ ground.right d u (sym (int_elsewhere d c None (k.values d) n) ∙ q)
    ]

    nobody : (m part : ℕ) → 1 ≤ w (holder.Message m part) (Cell c) → ⊥
    nobody m part l = absurd (let s = alone g done k w ground.owned (holder.Plain x.thread) (holder.Message m part) (Cell c) all l in cc)

    agrees : (o : Option ℤ) (m part : ℕ) (r : Resource) → 1 ≤ w (holder.Message m part) r → Agree k (with_value k c o) r
    agrees o m part (Cell d) l = elim (int_or d c) [
      | inl p ↦ absurd (nobody m part (subst (λ (z : ℤ). 1 ≤ w (holder.Message m part) (Cell z)) p l))
      | inr n ↦ int_elsewhere d c o (k.values d) n
    ]
    agrees o m part (Permission a b) l = refl
    agrees o m part (Tokens b) l = tt
    agrees o m part (Bank b) l = refl

    again : (m part : ℕ) (r : Resource) → 1 ≤ w (holder.Message m part) r → Agree (with_value k c None) (with_value k c (Some v)) r
    again m part (Cell d) l = agrees (Some v) m part (Cell d) l ∙ sym (agrees None m part (Cell d) l)
    again m part (Permission a b) l = refl
    again m part (Tokens b) l = tt
    again m part (Bank b) l = refl

    there_again : (r : Resource) → IsThere g (e ∷ done) (with_value k c None) r → IsThere g (e ∷ done) (with_value k c (Some v)) r
    there_again (Cell d) h = h
    there_again (Permission a b) h = h
    there_again (Tokens b) h = h
    there_again (Bank b) h = h

    limit_again : (r : Resource) → limit (with_value k c None) r ≤ limit (with_value k c (Some v)) r
    limit_again (Cell d) = omega arith
    limit_again (Permission a b) = omega arith
    limit_again (Tokens b) = omega arith
    limit_again (Bank b) = omega arith

-- ---- a load

pub source_of : (g : Graph) (e : ℕ) (x : Event) (s : ℕ) → Is g e x → Rf g s e → x.from ≡ Some s
source_of g e x s is r = ap (λ (z : Event). z.from) (one_event g e x r.reader is r.is) ∙ r.source

-- a load of a cell with a known value reads it
pub load_cell : (asks : Meaning) (g : Graph) (done but : List ℕ) (k : Known) (w : World) (e : ℕ) (x : Event) (c v u : ℤ) → IsConsistent g → IsDistinct g → Ground asks g done but k w → Comes g done e x
    → x.label ≡ label.Load mode.Na c v → 1 ≤ w (holder.Plain x.thread) (Cell c) → k.values c ≡ Some u → Ground asks g (e ∷ done) but k w × (v ≡ u)
load_cell asks g done but k w e x c v u consistent distinct ground comes is some known =
    let value = ground.right c u known in
    let reads : Reads g e mode.Na c v = record { event = x; is = comes.is; reads = ap read_by is } in
    let from = known_is_read g consistent done e x mode.Na c v comes reads
    (record { write = value.write; past = value.last.past; mode = value.mode; value = u; writes = value.writes }) (ground.owned.knows (holder.Plain x.thread) c some) in
    let one = one_last g consistent done c from.source value.write from.last value.last in
    let same = (one_write g value.write from.mode value.mode c c v u (subst (λ (z : ℕ). Writes g z from.mode c v) one from.writes) value.writes).2 in (
      ground_by_quiet asks g done but k w e x ground comes (record {
        frees_none = λ d f. frees_not g e x d comes.is (λ q. absurd (let y : label.Load mode.Na c v ≡ label.Free d = sym is ∙ q in cc)) f;
        uses = λ d y. subst (λ (z : ℤ). 1 ≤ w (holder.Plain x.thread) (Cell z))
            (one_access g e x y.event c d false false false y.changes (record { is = comes.is; accesses = ap access_by is }) y.access).0 some;
        writes = λ d b m y h l. absurd (writes_not g e x m d b comes.is (ap written_by is) y);
      })
          (plain_is_safe asks g done but k w e x c false distinct ground comes (ap access_by is) some (λ q. absurd (cc))
          (λ t q. (from.source, source_of g e x from.source comes.is from.from)))
          (λ d b y m q z. writes_not g e x m d b comes.is (ap written_by is) z)
          (λ d l b s. writes_not g e x s.mode l b comes.is (ap written_by is) s.writes),
      same,
    )

-- ---- a free

pub free_cell : (asks : Meaning) (g : Graph) (done but : List ℕ) (k : Known) (w u : World) (e : ℕ) (x : Event) (c : ℤ) → IsDistinct g → Ground asks g done but k w → Comes g done e x
    → x.label ≡ label.Free c → full ≤ w (holder.Plain x.thread) (Cell c) → Adds u w (holder.Plain x.thread) (only (Cell c) full) → Ground asks g (e ∷ done) but k u
free_cell asks g done but k w u e x c distinct ground comes is all a = record {
  owned = kept_by_free g done k w u e x c ground.owned comes is all a;
  right = λ d v q. value_stays g done e d v (ground.right d v q) (λ m y z. writes_not g e x m d y comes.is (ap written_by is) z);
  made = λ l d q. let h = ground.made l d q in record { alloc = h.alloc; past = inr h.past; made = h.made };
  messages = messages_kept asks g done (e ∷ done) but but k k w u ground.messages (λ b i. inr i) (λ h b p. positions_grow g done e h b p) (λ l d q. q)
      (λ m d l v part i n s due. (
        (elim i [ inl q ↦ absurd (writes_not g e x s.mode l v comes.is (ap written_by is) (subst (λ (z : ℕ). Writes g z s.mode l v) q s.writes)) | inr j ↦ j ]),
        n,
        s,
        due_earlier g done e k m l v part d.rmw due,
        (λ r. let y = a.others (holder.Message m part) r (message_not_plain m part x.thread) in omega arith),
        (λ r o. same_agrees k r),
      ));
  safe = safe_next g done e x ground.safe comes.is
      (plain_is_safe asks g done but k w e x c true distinct ground comes (ap access_by is) (omega (arith, all)) (λ q. all)
      (λ t q. absurd (let y : None ≡ Some t = sym (ap read_by is) ∙ q in cc)));
}
