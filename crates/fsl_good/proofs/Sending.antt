-- Atomic stores: the parts of an invariant are given to the message one by one.
use Rattle.std.proofs.Common.{◌≡◌, ◌≤◌, ◌+◌, ℕ, zero, suc, Bool, true, false, ◌⊎◌, inl, inr, List, [], ◌∷◌, ◌++◌, get_or, Option, Some, None, ℤ, refl, sym, ap, subst, ◌∙◌, arith, if◌then◌else◌}
use Rattle.fsl_core.specs.declared.label.Label.TheVariants as label
use Rattle.fsl_core.specs.declared.mode.AllocKind.TheVariants as kind
use Rattle.fsl_core.specs.declared.mode.Mode.{Mode}
use Rattle.fsl_core.specs.Modes.{is_atomic, releases}
use Rattle.fsl_core.specs.Moves.{kind_at}
use Rattle.fsl_graph.specs.declared.event.Event.{Event}
use Rattle.fsl_graph.specs.declared.graph.Graph.{Graph}
use Rattle.fsl_graph.specs.Events.{Writes, Touch, read_by, written_by}
use Rattle.fsl_graph.specs.Sequenced.{In}
use Rattle.fsl_graph.specs.Execution.{IsDistinct}
use Rattle.fsl_graph.specs.Safe.{Accesses, access_by}
use Rattle.fsl_graph.specs.Orders.{Comes}
use Rattle.fsl_graph.specs.Positions.{Holder, Position}
use Rattle.fsl_graph.specs.Positions.{Holder as holder}
use Rattle.fsl_graph.proofs.Threads.{one_access, one_write, one_kind}
use Rattle.fsl_own.specs.Knowledge.{Tells}
use Rattle.fsl_own.specs.Kept.{UsesOwn}
use Rattle.fsl_own.specs.Owning.{Resource, Cell, Permission, Tokens, Bank, Heap, World, Deal, Known, Owned, Adds, Gives, KeepsDeals}
use Rattle.fsl_own.specs.Atoms.{Atom, Init, Rel, demand, IsFor, IsInit, AreRight, Holds}
use Rattle.fsl_own.proofs.Knowing.{own_event_known}
use Rattle.fsl_own.proofs.Telling.{release_write_tells, atomic_write_tells}
use Rattle.fsl_own.proofs.Totals.{give_to}
use Rattle.fsl_own.proofs.Atoms.{stay_right}
use Rattle.fsl_ground.specs.Ground.{Meaning, Sends, IsDue, HasPart, IsValue, IsMade, Ground}
use Rattle.fsl_ground.proofs.Ground.{same_agrees, ground_by_event, ground_by_giving, ground_filled}
use Rattle.fsl_ground.proofs.Safety.{atomic_is_safe, alive_not_made}
use Rattle.fsl_ground.proofs.Cells.{frees_not}
use Rattle.fsl_ground.proofs.Gaining.{cells_of, else_of, in_two, grows}
use Rattle.fsl_good.specs.Pieces.{together, Level, AtPlain, AtUp, AtDown, same_level, holder_of, Piece, placed, all_placed, plain, asked_at, demand_at, RightPieces, Fits, Entails}
use Rattle.fsl_good.specs.Good.{Puts, giving, deal}
use Rattle.fsl_good.specs.Keeping.{Keeps, Acted}
use Rattle.fsl_good.proofs.Pieces.{demand_more, right_more, right_first, right_last, right_placed, fits_entailed}
use Rattle.fsl_good.proofs.Shifting.{keeps_then}
use Rattle.fsl_good.proofs.Acting.{fits_later}
use Rattle.fsl_good.proofs.Fencing.{thread_free, other_level}
use Rattle.fsl_good.proofs.Gaining.{cells_placed, else_placed, if_none, level_no_message}

-- ---- one part

-- atoms that a thread has at a level go to a message
pub record SentOne (asks : Meaning) (g : Graph) (done but : List ℕ) (k : Known) (w : World) (t e part : ℕ) (l : Level) (ys : List Atom) (rest : List Piece) : Type 0 where
  pub mid : World
  pub world : World
  pub cells : Gives w mid (holder_of t l) (holder.Message e part) (cells_of ys)
  pub others : Gives mid world (holder.Plain t) (holder.Message e part) (else_of ys)
  pub ground : Ground asks g done but k world
  pub fits : Fits g done k world t rest
  pub holds : Holds g done k world (holder.Message e part) ys

message_not_level : (t : ℕ) (a : Level) (e part : ℕ) → holder.Message e part ≡ holder_of t a → ⊥
message_not_level t a e part q = level_no_message t e part a (sym q)

pub both_placed : (l a : Level) (ys : List Atom) (r : Resource) → demand_at a (all_placed l ys) r ≡ (if same_level l a then cells_of ys r else 0) + (if same_level AtPlain a then else_of ys r else 0)
both_placed l a ys (Cell c) = let e = cells_placed l a ys c in let z = if_none (same_level AtPlain a) in omega (arith, e, z)
both_placed l a ys (Permission p o) = let e = else_placed l a ys (Permission p o) tt in let z = if_none (same_level l a) in omega (arith, e, z)
both_placed l a ys (Tokens b) = let e = else_placed l a ys (Tokens b) tt in let z = if_none (same_level l a) in omega (arith, e, z)
both_placed l a ys (Bank b) = let e = else_placed l a ys (Bank b) tt in let z = if_none (same_level l a) in omega (arith, e, z)

-- what a holder of the thread has before a gift of one level: what it has after it, and the gift, if it is of its level
gave_from : (t e part : ℕ) (l a : Level) (u v : World) (d : Heap) (r : Resource) → Gives u v (holder_of t l) (holder.Message e part) d → u (holder_of t a) r ≡ v (holder_of t a) r + (if same_level l a then d r else 0)
gave_from t e part AtPlain AtPlain u v d r g = let lost = g.loses.here r in let won = g.gains.others (holder.Plain t) r (level_no_message t e part AtPlain) in omega arith
gave_from t e part AtUp AtUp u v d r g = let lost = g.loses.here r in let won = g.gains.others (holder.Up t) r (level_no_message t e part AtUp) in omega arith
gave_from t e part AtDown AtDown u v d r g = let lost = g.loses.here r in let won = g.gains.others (holder.Down t) r (level_no_message t e part AtDown) in omega arith
gave_from t e part AtPlain AtUp u v d r g = let lost = g.loses.others (holder.Up t) r (λ q. absurd (cc)) in let won = g.gains.others (holder.Up t) r (level_no_message t e part AtUp) in omega arith
gave_from t e part AtPlain AtDown u v d r g = let lost = g.loses.others (holder.Down t) r (λ q. absurd (cc)) in let won = g.gains.others (holder.Down t) r (level_no_message t e part AtDown) in omega arith
gave_from t e part AtUp AtPlain u v d r g = let lost = g.loses.others (holder.Plain t) r (λ q. absurd (cc)) in let won = g.gains.others (holder.Plain t) r (level_no_message t e part AtPlain) in omega arith
gave_from t e part AtUp AtDown u v d r g = let lost = g.loses.others (holder.Down t) r (λ q. absurd (cc)) in let won = g.gains.others (holder.Down t) r (level_no_message t e part AtDown) in omega arith
gave_from t e part AtDown AtPlain u v d r g = let lost = g.loses.others (holder.Plain t) r (λ q. absurd (cc)) in let won = g.gains.others (holder.Plain t) r (level_no_message t e part AtPlain) in omega arith
gave_from t e part AtDown AtUp u v d r g = let lost = g.loses.others (holder.Up t) r (λ q. absurd (cc)) in let won = g.gains.others (holder.Up t) r (level_no_message t e part AtUp) in omega arith

level_self : (l : Level) → same_level l l ≡ true
level_self AtPlain = refl
level_self AtUp = refl
level_self AtDown = refl

-- cells are no more than what is asked for at the level, and all else no more than at plain
cells_within : (l : Level) (ys : List Atom) (r : Resource) → cells_of ys r ≤ demand_at l (all_placed l ys) r
cells_within l ys r = let e = both_placed l l ys r in let s = level_self l in let c : (if same_level l l then cells_of ys r else 0) ≡ cells_of ys r = rw s refl in omega arith

else_within : (l : Level) (ys : List Atom) (r : Resource) → (if same_level l AtPlain then cells_of ys r else 0) + else_of ys r ≤ demand_at AtPlain (all_placed l ys) r
else_within l ys r = let e = both_placed l AtPlain ys r in omega arith

pub send_one : (asks : Meaning) (g : Graph) (done but : List ℕ) (k : Known) (w : World) (t e part : ℕ) (l : Level) (ys : List Atom) (rest : List Piece) → Ground asks g done but k w
    → Fits g done k w t (all_placed l ys ++ rest) → Tells g done (holder_of t l) (holder.Message e part) → SentOne asks g done but k w t e part l ys rest
send_one asks g done but k w t e part l ys rest x f tells =
    let one = give_to w (holder_of t l) (holder.Message e part) (cells_of ys)
    (λ r. let m = f.enough l r in let s = demand_more l (all_placed l ys) rest r in let c = cells_within l ys r in omega arith) in
    let ground = ground_by_giving asks g done but k w one.0 (holder_of t l) (holder.Message e part) (cells_of ys) x one.1 (λ c o. tells) (thread_free g done but k t l) in
    let two = give_to one.0 (holder.Plain t) (holder.Message e part) (else_of ys)
    (λ r. let m = f.enough AtPlain r in let s = demand_more AtPlain (all_placed l ys) rest r in let c = else_within l ys r in let q = gave_from t e part l AtPlain w one.0 (cells_of ys) r one.1 in omega arith) in
    record {
      mid = one.0;
      world = two.0;
      cells = one.1;
      others = two.1;
      ground = ground_by_giving asks g done but k one.0 two.0 (holder.Plain t) (holder.Message e part) (else_of ys) ground two.1
          (λ c o. absurd (let z : else_of ys (Cell c) ≡ 0 = refl in omega arith)) (thread_free g done but k t AtPlain);
      fits = record {
        enough = λ a r.
            let m = f.enough a r in
            let s = demand_more a (all_placed l ys) rest r in
            let b = both_placed l a ys r in
            let p = gave_from t e part l a w one.0 (cells_of ys) r one.1 in
            let q = gave_from t e part AtPlain a one.0 two.0 (else_of ys) r two.1 in
            omega arith;
        right = right_last g done k t (all_placed l ys) rest f.right;
      };
      holds = record {
        enough = λ r.
            let a = one.1.gains.here r in
            let b = two.1.gains.here r in
            let c = two.1.loses.others (holder.Message e part) r (message_not_level t AtPlain e part) in
            let s = in_two ys r in
            omega arith;
        right = stay_right g done done k k (λ h r. demand ys r) (holder_of t l) (holder.Message e part) ys (λ i p. p) tells (λ j d q. q) (λ r o. same_agrees k r) (λ r. omega arith)
            (right_placed g done k t l ys (right_first g done k t (all_placed l ys) rest f.right));
      };
    }

-- other threads are as they were, and no message has less
pub sent_keeps : (asks : Meaning) (g : Graph) (done but : List ℕ) (k : Known) (w : World) (t e part : ℕ) (l : Level) (ys : List Atom) (rest : List Piece) (x : SentOne asks g done but k w t e part l ys rest)
    → (u : ℕ) (a : Level) → (u ≡ t → ⊥) → Keeps k k w x.world (holder_of u a)
sent_keeps asks g done but k w t e part l ys rest x u a n = record {
  grows = λ r.
      let p = x.cells.loses.others (holder_of u a) r (other_level u t a l n) in
      let q = x.cells.gains.others (holder_of u a) r (level_no_message u e part a) in
      let y = x.others.loses.others (holder_of u a) r (other_level u t a AtPlain n) in
      let z = x.others.gains.others (holder_of u a) r (level_no_message u e part a) in
      omega arith;
  agree = λ r o. same_agrees k r;
}

pub messages_grow : (asks : Meaning) (g : Graph) (done but : List ℕ) (k : Known) (w : World) (t e part : ℕ) (l : Level) (ys : List Atom) (rest : List Piece) (x : SentOne asks g done but k w t e part l ys rest)
    → (m q : ℕ) (r : Resource) → w (holder.Message m q) r ≤ x.world (holder.Message m q) r
messages_grow asks g done but k w t e part l ys rest x m q r =
    let a = x.cells.loses.others (holder.Message m q) r (message_not_level t l m q) in
    let b = grows x.cells.mid x.mid (holder.Message e part) (cells_of ys) (holder.Message m q) r x.cells.gains in
    let c = x.others.loses.others (holder.Message m q) r (message_not_level t AtPlain m q) in
    let d = grows x.others.mid x.world (holder.Message e part) (else_of ys) (holder.Message m q) r x.others.gains in
    omega arith

-- ---- all parts

pub record SentAll (asks : Meaning) (g : Graph) (done but : List ℕ) (k : Known) (w : World) (t e first : ℕ) (parts : List (List Atom)) (rest : List Piece) : Type 0 where
  pub world : World
  pub ground : Ground asks g done but k world
  pub fits : Fits g done k world t rest
  pub holds : (j : ℕ) → Holds g done k world (holder.Message e (first + j)) (get_or parts j [])
  pub others : (u : ℕ) (a : Level) → (u ≡ t → ⊥) → Keeps k k w world (holder_of u a)
  pub messages : (m q : ℕ) (r : Resource) → w (holder.Message m q) r ≤ world (holder.Message m q) r

append_assoc_pieces : (xs ys zs : List Piece) → (xs ++ ys) ++ zs ≡ xs ++ (ys ++ zs)
append_assoc_pieces [] ys zs = refl
append_assoc_pieces (x ∷ xs) ys zs = ap (λ (p : List Piece). x ∷ p) (append_assoc_pieces xs ys zs)

pub placed_more : (l : Level) (xs ys : List Atom) → all_placed l (xs ++ ys) ≡ all_placed l xs ++ all_placed l ys
placed_more l [] ys = refl
placed_more l (x ∷ xs) ys = ap (λ (p : List Piece). placed l x ∷ p) (placed_more l xs ys)

still_held : (g : Graph) (done : List ℕ) (k : Known) (w v : World) (h : Holder) (ys : List Atom) → ((r : Resource) → w h r ≤ v h r) → Holds g done k w h ys → Holds g done k v h ys
still_held g done k w v h ys more x = record { enough = λ r. let a = x.enough r in let b = more r in omega arith; right = x.right }

pub send_all : (asks : Meaning) (g : Graph) (done but : List ℕ) (k : Known) (t e : ℕ) (l : Level) (rest : List Piece) (parts : List (List Atom)) (first : ℕ) (w : World) → Ground asks g done but k w
    → Fits g done k w t (all_placed l (together parts) ++ rest) → ((part : ℕ) → Tells g done (holder_of t l) (holder.Message e part)) → SentAll asks g done but k w t e first parts rest
send_all asks g done but k t e l rest [] first w x f tells = record {
  world = w;
  ground = x;
  fits = f;
  holds = λ j. record { enough = λ r. omega arith; right = tt };
  others = λ u a n. record { grows = λ r. omega arith; agree = λ r o. same_agrees k r };
  messages = λ m q r. omega arith;
}
send_all asks g done but k t e l rest (ys ∷ parts) first w x f tells =
    let split : all_placed l (ys ++ together parts) ++ rest ≡ all_placed l ys ++ (all_placed l (together parts) ++ rest) =
    ap (λ (p : List Piece). p ++ rest) (placed_more l ys (together parts)) ∙ append_assoc_pieces (all_placed l ys) (all_placed l (together parts)) rest in
    let one = send_one asks g done but k w t e first l ys (all_placed l (together parts) ++ rest) x (subst (λ (p : List Piece). Fits g done k w t p) split f) (tells first) in
    let more = send_all asks g done but k t e l rest parts (suc first) one.world one.ground one.fits tells in
    record {
      world = more.world;
      ground = more.ground;
      fits = more.fits;
      holds = each one more.world more.messages more.holds;
      others = λ u a n. keeps_then k k k w one.world more.world (holder_of u a) (sent_keeps asks g done but k w t e first l ys (all_placed l (together parts) ++ rest) one u a n) (more.others u a n);
      messages = λ m q r.
          let a = messages_grow asks g done but k w t e first l ys (all_placed l (together parts) ++ rest) one m q r in
          let b = more.messages m q r in
          omega arith;
    }
  where
    each : (one : SentOne asks g done but k w t e first l ys (all_placed l (together parts) ++ rest)) (v : World) → ((m q : ℕ) (r : Resource) → one.world (holder.Message m q) r ≤ v (holder.Message m q) r)
        → ((j : ℕ) → Holds g done k v (holder.Message e (suc first + j)) (get_or parts j [])) → (j : ℕ) → Holds g done k v (holder.Message e (first + j)) (get_or (ys ∷ parts) j [])
    each one v grow others zero =
        let n : first ≡ first + 0 = omega arith in
        subst (λ (q : ℕ). Holds g done k v (holder.Message e q) ys) n (still_held g done k one.world v (holder.Message e first) ys (λ r. grow e first r) one.holds)
    each one v grow others (suc j) =
        let n : suc first + j ≡ first + suc j = omega arith in
        subst (λ (q : ℕ). Holds g done k v (holder.Message e q) (get_or parts j [])) n (others j)

-- ---- the store

-- what a write gives away is told to its message
pub write_tells : (g : Graph) (done : List ℕ) (e : ℕ) (x : Event) (m : Mode) (c v : ℤ) → Comes g done e x → Writes g e m c v → is_atomic m ≡ true → (part : ℕ)
    → Tells g (e ∷ done) (holder_of x.thread (giving m)) (holder.Message e part)
write_tells g done e x m c v comes writes atomic part = by_mode (releases m) refl
  where
    by_mode : (b : Bool) → releases m ≡ b → Tells g (e ∷ done) (holder_of x.thread (if b then AtPlain else AtUp)) (holder.Message e part)
    by_mode true h = release_write_tells g done e x m c v part comes writes h
    by_mode false h = atomic_write_tells g done e x m c v part comes writes atomic

-- an atomic write of a location that has a deal keeps the ground; its message has still to be filled
pub write_ground : (asks : Meaning) (g : Graph) (done : List ℕ) (e : ℕ) (x : Event) (k : Known) (w : World) (m : Mode) (c v : ℤ) (d : Deal) → IsDistinct g → Ground asks g done [] k w → Comes g done e x
    → Writes g e m c v → access_by x.label ≡ Some (Accesses c true true) → ((t : Touch) → read_by x.label ≡ Some t → (s : ℕ) × (x.from ≡ Some s)) → ((z : ℤ) → x.label ≡ label.Free z → ⊥)
    → k.deals c ≡ Some d → Ground asks g (e ∷ done) (e ∷ []) k w
write_ground asks g done e x k w m c v d distinct ground comes writes accesses sourced free deals =
    ground_by_event asks g done [] k w e x ground comes (record {
      frees_none = λ z h. frees_not g e x z comes.is (free z) h;
      uses = λ z h. absurd (let q = (one_access g e x h.event c z true false true h.changes (record { is = comes.is; accesses = accesses }) h.access).1 in cc);
      writes = λ z u n y h l. absurd (alive_not_made g done c d distinct
          (ground.owned.there h (Cell c) (subst (λ (p : ℤ). 1 ≤ w h (Cell p)) (sym (one_write g e m n c z v u writes y).1) l)) (ground.made c d deals));
    })
    (atomic_is_safe asks g done [] k w e x c true d distinct ground comes.is accesses deals sourced)
    (λ z u b n q y.
    let value = subst (λ (p : ℤ). IsValue g done p b) (sym (one_write g e m n c z v u writes y).1) (ground.right z b q) in
    let made = ground.made c d deals in
    kinds d.rmw (one_kind g distinct value.alloc made.alloc kind.Na (kind_at d.rmw) c value.made made.made))
  where
    kinds : (b : Bool) → kind.Na ≡ kind_at b → ⊥
    kinds true h = absurd (cc)
    kinds false h = absurd (cc)

-- a location that the thread has just written
just_written : (g : Graph) (done : List ℕ) (k : Known) (e : ℕ) (x : Event) (m : Mode) (c v : ℤ) (d : Deal) → Comes g done e x → Writes g e m c v → k.deals c ≡ Some d → IsInit g (e ∷ done) k (holder.Plain x.thread) c
just_written g done k e x m c v d comes writes deals =
    record { deal = d; made = deals; write = e; past = inl refl; mode = m; value = v; writes = writes; known = own_event_known g done e x comes }

-- what the new message sends is what was written, under the deal
pub sends_this : (g : Graph) (k : Known) (e : ℕ) (m : Mode) (c v : ℤ) (d f : Deal) (l u : ℤ) → Writes g e m c v → k.deals c ≡ Some d → Sends g k e f l u → (d ≡ f) × (v ≡ u)
sends_this g k e m c v d f l u writes deals s =
    let same = one_write g e m s.mode c l v u writes s.writes in
    let q : Some d ≡ Some f = sym deals ∙ subst (λ (z : ℤ). k.deals z ≡ Some f) (sym same.1) s.made in
    (cc, same.2)

-- of a location for read-modify-writes, part 0 alone is due
pub part_zero : (g : Graph) (done : List ℕ) (k : Known) (e : ℕ) (rmw : Bool) (l u : ℤ) (part : ℕ) → rmw ≡ true → IsDue g done k e l u part rmw → part ≡ 0
part_zero g done k e true l u part h due = due.0
part_zero g done k e false l u part h due = absurd (cc)

-- what was written asks for nothing
with_init : (a : Level) (c : ℤ) (r : Resource) (n m : ℕ) → n ≤ m → asked_at a (plain (Init c)) r + n ≤ m
with_init AtPlain c r n m h = omega (arith, h)
with_init AtUp c r n m h = omega (arith, h)
with_init AtDown c r n m h = omega (arith, h)

zero_plus : (n : ℕ) → ◌≡◌ {A = ℕ} (0 + n) n
zero_plus n = omega arith

pub put_acts : (asks : Meaning) (g : Graph) (done : List ℕ) (e : ℕ) (x : Event) (k : Known) (w : World) (m : Mode) (c v : ℤ) (K : List Piece → Type 0) (xs : List Piece) → IsDistinct g
    → Ground asks g done [] k w → Comes g done e x → x.label ≡ label.Store m c v → is_atomic m ≡ true → Fits g done k w x.thread xs → Puts asks c v (giving m) K xs → Acted asks g (e ∷ done) k w x.thread K
put_acts asks g done e x k w m c v K xs distinct ground comes is atomic f puts =
    let leave = fits_entailed g done k w x.thread xs (plain (Rel c puts.inv puts.args) ∷ []) f puts.leave in
    by_kind leave.right.0.0 leave.right.0.1
  where
    writes : Writes g e m c v
    writes = record { event = x; is = comes.is; writes = ap written_by is }

    own : Fits g (e ∷ done) k w x.thread (all_placed (giving m) (together puts.parts) ++ puts.rest)
    own = fits_later g done e k w x.thread (all_placed (giving m) (together puts.parts) ++ puts.rest)
        (fits_entailed g done k w x.thread xs (all_placed (giving m) (together puts.parts) ++ puts.rest) f puts.gives)

    begun : (d : Deal) → k.deals c ≡ Some d → Ground asks g (e ∷ done) (e ∷ []) k w
    begun d deals = write_ground asks g done e x k w m c v d distinct ground comes writes (ap access_by is ∙ ap (λ (b : Bool). Some (Accesses c b true)) atomic)
        (λ t q. absurd (let y : None ≡ Some t = sym (ap read_by is) ∙ q in cc)) (λ z q. absurd (let y : label.Store m c v ≡ label.Free z = sym is ∙ q in cc)) deals

    by_kind : (rmw : Bool) → IsFor k c rmw puts.inv puts.args → Acted asks g (e ∷ done) k w x.thread K
    by_kind false deals =
        let sent = send_all asks g (e ∷ done) (e ∷ []) k x.thread e (giving m) puts.rest puts.parts 0 w (begun (deal false puts.inv puts.args) deals) own (write_tells g done e x m c v comes writes atomic) in
        record {
          known = k;
          world = sent.world;
          ground = ground_filled asks g (e ∷ done) [] k sent.world e sent.ground (λ d l u part s due.
              let same = sends_this g k e m c v (deal false puts.inv puts.args) d l u writes deals s in
              subst (λ (z : Deal). HasPart asks g (e ∷ done) k sent.world e z part u) same.0
              (subst (λ (z : ℤ). HasPart asks g (e ∷ done) k sent.world e (deal false puts.inv puts.args) part z) same.1
              (record { atoms = get_or puts.parts part []; asked = puts.each part; holds = subst (λ (q : ℕ). Holds g (e ∷ done) k sent.world (holder.Message e q) (get_or puts.parts part [])) (zero_plus part) (sent.holds part) })));
          pieces = plain (Init c) ∷ puts.rest;
          fits = record { enough = λ a r. with_init a c r (demand_at a puts.rest r) (sent.world (holder_of x.thread a) r) (sent.fits.enough a r); right = (just_written g done k e x m c v (deal false puts.inv puts.args) comes writes deals, sent.fits.right) };
          next = puts.next;
          deals = λ j d q. q;
          others = sent.others;
        }
    by_kind true deals =
        let sent = send_one asks g (e ∷ done) (e ∷ []) k w x.thread e 0 (giving m) (together puts.parts) puts.rest (begun (deal true puts.inv puts.args) deals) own (write_tells g done e x m c v comes writes atomic 0) in
        record {
          known = k;
          world = sent.world;
          ground = ground_filled asks g (e ∷ done) [] k sent.world e sent.ground (λ d l u part s due.
              let same = sends_this g k e m c v (deal true puts.inv puts.args) d l u writes deals s in
              let zeroth : part ≡ 0 = part_zero g (e ∷ done) k e d.rmw l u part (subst (λ (z : Deal). z.rmw ≡ true) same.0 refl) due in
              subst (λ (z : Deal). HasPart asks g (e ∷ done) k sent.world e z part u) same.0
              (subst (λ (z : ℤ). HasPart asks g (e ∷ done) k sent.world e (deal true puts.inv puts.args) part z) same.1
              (subst (λ (z : ℕ). HasPart asks g (e ∷ done) k sent.world e (deal true puts.inv puts.args) z v) (sym zeroth)
              (record { atoms = together puts.parts; asked = puts.all; holds = sent.holds }))));
          pieces = plain (Init c) ∷ puts.rest;
          fits = record { enough = λ a r. with_init a c r (demand_at a puts.rest r) (sent.world (holder_of x.thread a) r) (sent.fits.enough a r); right = (just_written g done k e x m c v (deal true puts.inv puts.args) comes writes deals, sent.fits.right) };
          next = puts.next;
          deals = λ j d q. q;
          others = sent_keeps asks g (e ∷ done) (e ∷ []) k w x.thread e 0 (giving m) (together puts.parts) puts.rest sent;
        }
