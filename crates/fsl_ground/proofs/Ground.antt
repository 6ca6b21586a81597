-- The ground through gifts, through what becomes known, and through events.
use Rattle.std.proofs.Common.{◌≡◌, ◌≢◌, ◌≤◌, ◌+◌, ℕ, Bool, true, false, ◌⊎◌, inl, inr, List, [], ◌∷◌, Option, Some, None, ℤ, refl, sym, ap, subst, ◌∙◌, arith}
use Rattle.std.proofs.lemmas.Bool.{cases_eq}
use Rattle.fsl_core.specs.declared.mode.Mode.{Mode}
use Rattle.fsl_graph.specs.declared.event.Event.{Event}
use Rattle.fsl_graph.specs.declared.graph.Graph.{Graph}
use Rattle.fsl_graph.specs.Events.{Is, Writes, Updates, read_by, Touch}
use Rattle.fsl_graph.specs.Sequenced.{In, Rf}
use Rattle.fsl_graph.specs.Happens.{Hb}
use Rattle.fsl_graph.specs.Safe.{IsAccess, IsRace, IsFreed, access_by, Accesses}
use Rattle.fsl_graph.specs.Orders.{Comes}
use Rattle.fsl_graph.specs.Positions.{Holder, Position}
use Rattle.fsl_graph.specs.Positions.{Holder as holder}
use Rattle.fsl_graph.specs.Reading.{IsLast}
use Rattle.fsl_graph.proofs.Reading.{last_stays}
use Rattle.fsl_graph.proofs.Threads.{one_event}
use Rattle.fsl_own.specs.Knowledge.{Tells}
use Rattle.fsl_own.specs.Kept.{UsesOwn}
use Rattle.fsl_own.specs.Owning.{Resource, Cell, Permission, Tokens, Bank, Heap, World, Deal, Known, limit, IsThere, Owned, Adds, Gives, TellsOf, KeepsDeals, Agree}
use Rattle.fsl_own.specs.Atoms.{Atom, Has, Holds}
use Rattle.fsl_own.proofs.Knowing.{positions_grow}
use Rattle.fsl_own.proofs.Totals.{same_holder}
use Rattle.fsl_own.proofs.Owning.{kept_by_giving, kept_by_joining, kept_by_knowing, kept_by_event}
use Rattle.fsl_own.proofs.Atoms.{still_holds}
use Rattle.fsl_ground.specs.Laws.{SafeNext}
use Rattle.fsl_ground.specs.Ground.{Meaning, IsUnread, IsDue, Sends, HasPart, Messages, IsValue, IsMade, IsAllocatedIn, IsSafeSoFar, Ground, IsFree, IsSafeNext}

-- ---- messages

-- amounts that a message has don't shrink by a gift of another holder
others_grow : (w v : World) (a b : Holder) (d : Heap) (h : Holder) (r : Resource) → Gives w v a b d → (h ≡ a → ⊥) → w h r ≤ v h r
others_grow w v a b d h r g n =
    let lost = g.loses.others h r n in
    elim (same_holder h b) [
      | inl e ↦ subst (λ (x : Holder). w x r ≤ v x r) (sym e) (let won = g.gains.here r in let was : w b r ≡ g.mid b r = subst (λ (x : Holder). w x r ≡ g.mid x r) e lost in omega arith)
      | inr f ↦ let won = g.gains.others h r f in omega arith
    ]

-- messages keep what they hold, where due is less than before
pub messages_kept : (asks : Meaning) (g : Graph) (done more but less : List ℕ) (k k' : Known) (w w' : World) → Messages asks g done but k w
    → ((e : ℕ) → In e done → In e more) → ((h : Holder) (e : ℕ) → Position g done h e → Position g more h e) → KeepsDeals k k'
    → ((m : ℕ) (d : Deal) (l v : ℤ) (part : ℕ) → In m more → (In m less → ⊥) → Sends g k' m d l v → IsDue g more k' m l v part d.rmw
    → In m done × (In m but → ⊥) × Sends g k m d l v × IsDue g done k m l v part d.rmw
    × ((r : Resource) → w (holder.Message m part) r ≤ w' (holder.Message m part) r) × ((r : Resource) → 1 ≤ w (holder.Message m part) r → Agree k k' r))
    → Messages asks g more less k' w'
messages_kept asks g done more but less k k' w w' messages past known deals due m d l v part i n s u =
    let q = due m d l v part i n s u in
    let h = messages m d l v part q.0 q.1 q.2 q.3 in
    record { atoms = h.atoms; asked = h.asked; holds = still_holds g done more k k' w w' (holder.Message m part) h.atoms past (known (holder.Message m part)) deals q.4 q.5 h.holds }

pub same_agrees : (k : Known) (r : Resource) → Agree k k r
same_agrees k (Cell c) = refl
same_agrees k (Permission l part) = refl
same_agrees k (Tokens b) = tt
same_agrees k (Bank b) = refl

messages_given : (asks : Meaning) (g : Graph) (done but : List ℕ) (k : Known) (w v : World) (a b : Holder) (d : Heap) → Messages asks g done but k w → Gives w v a b d → IsFree g done but k a
    → Messages asks g done but k v
messages_given asks g done but k w v a b d messages gift free = messages_kept asks g done done but but k k w v messages (λ e i. i) (λ h e p. p) (λ l x q. q)
    (λ m x l u part i n s due. (
      i,
      n,
      s,
      due,
      (λ r. others_grow w v a b d (holder.Message m part) r gift (λ e. free m part x l u (sym e) i n s due)),
      (λ r o. same_agrees k r),
    ))

-- ---- gifts

pub ground_by_giving : (asks : Meaning) (g : Graph) (done but : List ℕ) (k : Known) (w v : World) (a b : Holder) (d : Heap) → Ground asks g done but k w → Gives w v a b d
    → TellsOf g done a b d → IsFree g done but k a → Ground asks g done but k v
ground_by_giving asks g done but k w v a b d x gift tells free = record {
  owned = kept_by_giving g done k w v a b d x.owned gift tells;
  right = x.right;
  made = x.made;
  messages = messages_given asks g done but k w v a b d x.messages gift free;
  safe = x.safe;
}

pub ground_by_joining : (asks : Meaning) (g : Graph) (done but : List ℕ) (k : Known) (w v : World) (a b : Holder) (d : Heap) → Ground asks g done but k w → Gives w v a b d
    → ((c : ℤ) → 1 ≤ d (Cell c) → 1 ≤ w b (Cell c))
    → ((c : ℤ) → 1 ≤ d (Cell c) → (h : Holder) × (1 ≤ v h (Cell c)) × Tells g done a h) → IsFree g done but k a → Ground asks g done but k v
ground_by_joining asks g done but k w v a b d x gift joins keeps free = record {
  owned = kept_by_joining g done k w v a b d x.owned gift joins keeps;
  right = x.right;
  made = x.made;
  messages = messages_given asks g done but k w v a b d x.messages gift free;
  safe = x.safe;
}

-- the message of e holds what is due of it
pub ground_filled : (asks : Meaning) (g : Graph) (done but : List ℕ) (k : Known) (w : World) (e : ℕ) → Ground asks g done (e ∷ but) k w
    → ((d : Deal) (l v : ℤ) (part : ℕ) → Sends g k e d l v → IsDue g done k e l v part d.rmw → HasPart asks g done k w e d part v) → Ground asks g done but k w
ground_filled asks g done but k w e x fill = record {
  owned = x.owned;
  right = x.right;
  made = x.made;
  messages = λ m d l v part i n s due. fill_in m d l v part i n s due (cases_eq m e);
  safe = x.safe;
}
  where
    fill_in : (m : ℕ) (d : Deal) (l v : ℤ) (part : ℕ) → In m done → (In m but → ⊥) → Sends g k m d l v → IsDue g done k m l v part d.rmw → (m ≡ e) ⊎ (m ≢ e)
        → HasPart asks g done k w m d part v
    fill_in m d l v part i n s due (inl q) =
        subst (λ (z : ℕ). Sends g k z d l v → IsDue g done k z l v part d.rmw → HasPart asks g done k w z d part v) (sym q) (fill d l v part) s due
    fill_in m d l v part i n s due (inr f) = x.messages m d l v part i (λ j. elim j [ inl q ↦ absurd (f q) | inr o ↦ n o ]) s due

-- ---- what becomes known

pub due_before : (g : Graph) (done : List ℕ) (k k' : Known) (m : ℕ) (l v : ℤ) (part : ℕ) (rmw : Bool) → (Has v (k.out l part) → Has v (k'.out l part)) → IsDue g done k' m l v part rmw → IsDue g done k m l v part rmw
due_before g done k k' m l v part true outs due = due
due_before g done k k' m l v part false outs due = λ i. due (outs i)

-- the ground where what is known and owned has changed, and no message has less or is owed more
pub ground_changed : (asks : Meaning) (g : Graph) (done but : List ℕ) (k k' : Known) (w v : World) → Ground asks g done but k w → Owned g done k' v
    → ((c u : ℤ) → k'.values c ≡ Some u → IsValue g done c u) → ((l : ℤ) (d : Deal) → k'.deals l ≡ Some d → IsMade g done l d) → KeepsDeals k k'
    → ((m : ℕ) (d : Deal) (l u : ℤ) → In m done → Sends g k' m d l u → Sends g k m d l u)
    → ((m : ℕ) (d : Deal) (l u : ℤ) (part : ℕ) → Sends g k m d l u → IsDue g done k' m l u part d.rmw → IsDue g done k m l u part d.rmw)
    → ((m part : ℕ) (r : Resource) → w (holder.Message m part) r ≤ v (holder.Message m part) r)
    → ((m part : ℕ) (r : Resource) → 1 ≤ w (holder.Message m part) r → Agree k k' r)
    → Ground asks g done but k' v
ground_changed asks g done but k k' w v x owned values made deals sends due grows agree = record {
  owned = owned;
  right = values;
  made = made;
  messages = messages_kept asks g done done but but k k' w v x.messages (λ e i. i) (λ h e p. p) deals
      (λ m d l u part i n s q. (i, n, sends m d l u i s, due m d l u part (sends m d l u i s) q, grows m part, agree m part));
  safe = x.safe;
}

-- the ground where something more is known, and nothing is owned otherwise
pub ground_by_knowing : (asks : Meaning) (g : Graph) (done but : List ℕ) (k k' : Known) (w : World) → Ground asks g done but k w
    → ((r : Resource) → IsThere g done k r → IsThere g done k' r) → ((r : Resource) → limit k r ≤ limit k' r)
    → ((c v : ℤ) → k'.values c ≡ Some v → IsValue g done c v)
    → k'.deals ≡ k.deals
    → ((l v : ℤ) (part : ℕ) → Has v (k.out l part) → Has v (k'.out l part))
    → ((m part : ℕ) (r : Resource) → 1 ≤ w (holder.Message m part) r → Agree k k' r)
    → Ground asks g done but k' w
ground_by_knowing asks g done but k k' w x there limits values deals outs agree =
    ground_changed asks g done but k k' w w x (kept_by_knowing g done k k' w x.owned there limits) values
    (λ l d e. x.made l d (subst (λ (f : ℤ → Option Deal). f l ≡ Some d) deals e))
    (λ l d e. subst (λ (f : ℤ → Option Deal). f l ≡ Some d) (sym deals) e)
    (λ m d l u i s. record { mode = s.mode; writes = s.writes; made = subst (λ (f : ℤ → Option Deal). f l ≡ Some d) deals s.made })
    (λ m d l u part s due. due_before g done k k' m l u part d.rmw (outs l u part) due)
    (λ m part r. omega arith)
    agree

-- ---- events

pub due_earlier : (g : Graph) (done : List ℕ) (e : ℕ) (k : Known) (m : ℕ) (l v : ℤ) (part : ℕ) (rmw : Bool) → IsDue g (e ∷ done) k m l v part rmw → IsDue g done k m l v part rmw
due_earlier g done e k m l v part true due = (due.0, λ a mode l old new i u r. due.1 a mode l old new (inr i) u r)
due_earlier g done e k m l v part false due = due

race_back : (g : Graph) (a b : ℕ) → IsRace g a b → IsRace g b a
race_back g a b r = record {
  x = r.y;
  y = r.x;
  loc = r.loc;
  a_atomic = r.b_atomic;
  b_atomic = r.a_atomic;
  a_changes = r.b_changes;
  b_changes = r.a_changes;
  accesses = r.other;
  other = r.accesses;
  threads = λ e. r.threads (sym e);
  changes = elim r.changes [ inl c ↦ inr c | inr c ↦ inl c ];
  plain = elim r.plain [ inl c ↦ inr c | inr c ↦ inl c ];
  unordered = r.unordered_back;
  unordered_back = r.unordered;
}

later : (g : Graph) (done : List ℕ) (e : ℕ) (l : ℤ) (atomic : Bool) → IsAllocatedIn g done l atomic → IsAllocatedIn g (e ∷ done) l atomic
later g done e l atomic a = record { alloc = a.alloc; past = inr a.past; kind = a.kind; allocates = a.allocates; fits = a.fits }

-- a safe event more
pub safe_next : SafeNext
safe_next g done e x s is n = record {
  no_race = λ a b i j r. elim i [
    | inl p ↦ elim j [
      | inl q ↦ r.threads (ap (λ (z : Event). z.thread) (one_event g e r.x r.y (subst (λ (o : ℕ). Is g o r.x) p r.accesses.is) (subst (λ (o : ℕ). Is g o r.y) q r.other.is)))
      | inr q ↦ n.no_race b q (subst (λ (o : ℕ). IsRace g b o) p (race_back g a b r))
    ]
    | inr p ↦ elim j [
      | inl q ↦ n.no_race a p (subst (λ (o : ℕ). IsRace g a o) q r)
      | inr q ↦ s.no_race a b p q r
    ]
  ];
  initialised = λ a y t i at reads. elim i [
    | inl p ↦
        let same : x ≡ y = one_event g e x y is (subst (λ (o : ℕ). Is g o y) p at) in
        let r = n.initialised t (subst (λ (z : Event). read_by z.label ≡ Some t) (sym same) reads) in
        (r.0, subst (λ (z : Event). z.from ≡ Some r.0) same r.1)
    | inr p ↦ s.initialised a y t p at reads
  ];
  allocated = λ a y l atomic changes i acc. elim i [
    | inl p ↦ later g done e l atomic (n.allocated l atomic changes (to_event a y l atomic changes p acc))
    | inr p ↦ later g done e l atomic (s.allocated a y l atomic changes p acc)
  ];
  freed = λ a f y l atomic changes i j free acc. elim i [
    | inl p ↦ elim j [
      | inl q ↦ inl (p ∙ sym q)
      | inr q ↦ absurd (n.unfreed f l atomic changes q free (to_event a y l atomic changes p acc))
    ]
    | inr p ↦ elim j [
      | inl q ↦ inr (subst (λ (o : ℕ). Hb g a o) (sym q) (n.frees l (subst (λ (o : ℕ). IsFreed g o l) q free) a y atomic changes p acc))
      | inr q ↦ s.freed a f y l atomic changes p q free acc
    ]
  ];
}
  where
    to_event : (a : ℕ) (y : Event) (l : ℤ) (atomic changes : Bool) → a ≡ e → IsAccess g a y l atomic changes → IsAccess g e x l atomic changes
    to_event a y l atomic changes p acc =
        let same : y ≡ x = one_event g e y x (subst (λ (o : ℕ). Is g o y) p acc.is) is in
        record { is = is; accesses = subst (λ (z : Event). access_by z.label ≡ Some (Accesses l atomic changes)) same acc.accesses }

-- a value stays known where the cell isn't written
pub value_stays : (g : Graph) (done : List ℕ) (e : ℕ) (c v : ℤ) → IsValue g done c v → ((m : Mode) (u : ℤ) → Writes g e m c u → ⊥) → IsValue g (e ∷ done) c v
value_stays g done e c v x n = record {
  alloc = x.alloc;
  allocated = inr x.allocated;
  made = x.made;
  write = x.write;
  last = last_stays g done e x.write c x.last n;
  mode = x.mode;
  writes = x.writes;
}

-- an event that uses the thread's own cells, and writes none of which a value is known; its message has still to be filled
pub ground_by_event : (asks : Meaning) (g : Graph) (done but : List ℕ) (k : Known) (w : World) (e : ℕ) (x : Event) → Ground asks g done but k w → Comes g done e x → UsesOwn g w e x
    → IsSafeNext g done e x → ((c u v : ℤ) (m : Mode) → k.values c ≡ Some v → Writes g e m c u → ⊥) → Ground asks g (e ∷ done) (e ∷ but) k w
ground_by_event asks g done but k w e x ground comes own safe unwritten = record {
  owned = kept_by_event g done k w e x ground.owned comes own;
  right = λ c v q. value_stays g done e c v (ground.right c v q) (λ m u y. unwritten c u v m q y);
  made = λ l d q. let h = ground.made l d q in record { alloc = h.alloc; past = inr h.past; made = h.made };
  messages = messages_kept asks g done (e ∷ done) but (e ∷ but) k k w w ground.messages (λ a i. inr i) (λ h a p. positions_grow g done e h a p) (λ l d q. q)
      (λ m d l v part i n s due. (
        (elim i [ inl q ↦ absurd (n (inl q)) | inr j ↦ j ]),
        (λ j. n (inr j)),
        s,
        due_earlier g done e k m l v part d.rmw due,
        (λ r. omega arith),
        (λ r o. same_agrees k r),
      ));
  safe = safe_next g done e x ground.safe comes.is safe;
}

-- one that doesn't write at an atomic location
pub ground_by_quiet : (asks : Meaning) (g : Graph) (done but : List ℕ) (k : Known) (w : World) (e : ℕ) (x : Event) → Ground asks g done but k w → Comes g done e x → UsesOwn g w e x
    → IsSafeNext g done e x → ((c u v : ℤ) (m : Mode) → k.values c ≡ Some v → Writes g e m c u → ⊥) → ((d : Deal) (l v : ℤ) → Sends g k e d l v → ⊥) → Ground asks g (e ∷ done) but k w
ground_by_quiet asks g done but k w e x ground comes own safe unwritten silent =
    ground_filled asks g (e ∷ done) but k w e (ground_by_event asks g done but k w e x ground comes own safe unwritten) (λ d l v part s due. absurd (silent d l v s))
