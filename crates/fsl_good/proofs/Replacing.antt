-- Read-modify-writes: the message that is read, what of it is the thread's at once, tokens, and the passing on.
use Rattle.std.proofs.Common.{◌≡◌, ◌≤◌, ◌+◌, ℕ, Bool, true, false, ◌⊎◌, inl, inr, List, [], ◌∷◌, ◌++◌, Option, Some, None, ℤ, refl, sym, ap, subst, ◌∙◌, arith, if◌then◌else◌}
use Rattle.std.specs.List.{filter}
use Rattle.std.proofs.lemmas.Bool.{cases_Bool}
use Rattle.fsl_core.specs.declared.label.Label.TheVariants as label
use Rattle.fsl_core.specs.declared.mode.Mode.{Mode}
use Rattle.fsl_core.specs.Modes.{is_atomic}
use Rattle.fsl_graph.specs.declared.event.Event.{Event}
use Rattle.fsl_graph.specs.declared.graph.Graph.{Graph}
use Rattle.fsl_graph.specs.Events.{Reads, Writes, Updates, Touch, read_by, written_by}
use Rattle.fsl_graph.specs.Sequenced.{In, Rf}
use Rattle.fsl_graph.specs.Consistent.{IsConsistent}
use Rattle.fsl_graph.specs.Execution.{IsDistinct}
use Rattle.fsl_graph.specs.Safe.{Accesses, access_by}
use Rattle.fsl_graph.specs.Orders.{Comes}
use Rattle.fsl_graph.specs.Positions.{Holder, Position}
use Rattle.fsl_graph.specs.Positions.{Holder as holder}
use Rattle.fsl_own.specs.Knowledge.{Tells}
use Rattle.fsl_own.specs.Owning.{Resource, Cell, Permission, Tokens, Bank, Heap, World, Deal, Known, limit, Owned, Gives, KeepsDeals}
use Rattle.fsl_own.specs.Atoms.{Atom, Points, Init, Rel, Acq, RmwAcq, Tok, Auth, asked, demand, IsInit, Says, IsRight, AreRight, Holds}
use Rattle.fsl_own.proofs.Knowing.{positions_grow}
use Rattle.fsl_own.proofs.Telling.{update_tells}
use Rattle.fsl_own.proofs.Totals.{give_to}
use Rattle.fsl_own.proofs.Atoms.{still_holds, stay_right}
use Rattle.fsl_ground.specs.Ground.{Meaning, Sends, IsDue, HasPart, IsUnread, Ground, IsFree}
use Rattle.fsl_ground.specs.Laws.{Got}
use Rattle.fsl_ground.proofs.Ground.{same_agrees, ground_by_giving, ground_filled}
use Rattle.fsl_ground.proofs.Gaining.{cells_of, else_of, in_two}
use Rattle.fsl_ground.proofs.Sources.{init_is_read, update_takes, read_free}
use Rattle.fsl_ground.proofs.Cells.{source_of}
use Rattle.fsl_good.specs.Pieces.{Level, AtPlain, AtUp, AtDown, same_level, holder_of, Piece, all_placed, plain, demand_at, RightPieces, Fits, Entails, Yields, AllSay, IsPossible}
use Rattle.fsl_good.specs.Good.{of_message, of_thread, Passes, Replaces, giving, gaining, deal}
use Rattle.fsl_good.specs.Keeping.{Keeps, Changed, Acted}
use Rattle.fsl_good.proofs.Pieces.{demand_more, right_more, placed_right, right_says, all_say, fits_entailed, fits_possible, four_at_most}
use Rattle.fsl_good.proofs.Shifting.{shifts_keep, keeps_then}
use Rattle.fsl_good.proofs.Acting.{fits_later}
use Rattle.fsl_good.proofs.Fencing.{other_level}
use Rattle.fsl_good.proofs.Gaining.{came_to, level_no_message, cells_placed, else_placed, read_tells}
use Rattle.fsl_good.proofs.Sending.{both_placed, write_ground, write_tells, sends_this, part_zero}
use Rattle.fsl_good.proofs.Passing.{Both, Passed, pass_on}

-- ---- atoms of the message and of the thread

-- together they ask for what all atoms ask for
split_demand : (ys : List Atom) (r : Resource) → demand (filter of_message ys) r + demand (filter of_thread ys) r ≡ demand ys r
split_demand [] r = refl
split_demand (y ∷ ys) r = let e = split_demand ys r in one y e
  where
    one : (y : Atom) → demand (filter of_message ys) r + demand (filter of_thread ys) r ≡ demand ys r → demand (filter of_message (y ∷ ys)) r + demand (filter of_thread (y ∷ ys)) r ≡ demand (y ∷ ys) r
    one (Points c n v) e = omega (arith, e)
    one (Init c) e = omega (arith, e)
    one (Rel c i xs) e = omega (arith, e)
    one (Acq c i xs p o) e = omega (arith, e)
    one (RmwAcq c i xs) e = omega (arith, e)
    one (Tok b n) e = omega (arith, e)
    one (Auth b n) e = omega (arith, e)

-- the thread's part asks for no cell
loose_cells : (ys : List Atom) (c : ℤ) → demand (filter of_thread ys) (Cell c) ≡ 0
loose_cells [] c = refl
loose_cells (y ∷ ys) c = let e = loose_cells ys c in one y e
  where
    one : (y : Atom) → demand (filter of_thread ys) (Cell c) ≡ 0 → demand (filter of_thread (y ∷ ys)) (Cell c) ≡ 0
    one (Points d n v) e = e
    one (Init d) e = e
    one (Rel d i xs) e = omega (arith, e)
    one (Acq d i xs p o) e = omega (arith, e)
    one (RmwAcq d i xs) e = omega (arith, e)
    one (Tok b n) e = omega (arith, e)
    one (Auth b n) e = omega (arith, e)

right_split : (g : Graph) (done : List ℕ) (k : Known) (h h' : Holder) (ys : List Atom) → AreRight g done k h ys → AreRight g done k h (filter of_message ys) × AreRight g done k h' (filter of_thread ys)
right_split g done k h h' [] p = (tt, tt)
right_split g done k h h' (y ∷ ys) p = let e = right_split g done k h h' ys p.1 in one y p.0 e
  where
    one : (y : Atom) → IsRight g done k h y → AreRight g done k h (filter of_message ys) × AreRight g done k h' (filter of_thread ys)
        → AreRight g done k h (filter of_message (y ∷ ys)) × AreRight g done k h' (filter of_thread (y ∷ ys))
    one (Points c n v) q e = ((q, e.0), e.1)
    one (Init c) q e = ((q, e.0), e.1)
    one (Rel c i xs) q e = (e.0, (q, e.1))
    one (Acq c i xs p o) q e = (e.0, (q, e.1))
    one (RmwAcq c i xs) q e = (e.0, (q, e.1))
    one (Tok b n) q e = (e.0, (q, e.1))
    one (Auth b n) q e = (e.0, (q, e.1))

-- ---- what is possible beside a message

-- pieces at all levels, with atoms in front
placed_whole : (ys : List Atom) (xs : List Piece) (r : Resource) → demand_at AtPlain (all_placed AtPlain ys ++ xs) r + (demand_at AtUp (all_placed AtPlain ys ++ xs) r + demand_at AtDown (all_placed AtPlain ys ++ xs) r)
    ≡ demand ys r + (demand_at AtPlain xs r + (demand_at AtUp xs r + demand_at AtDown xs r))
placed_whole ys xs r =
    let a = demand_more AtPlain (all_placed AtPlain ys) xs r in
    let b = demand_more AtUp (all_placed AtPlain ys) xs r in
    let c = demand_more AtDown (all_placed AtPlain ys) xs r in
    let d = both_placed AtPlain AtPlain ys r in
    let e = both_placed AtPlain AtUp ys r in
    let f = both_placed AtPlain AtDown ys r in
    let n = in_two ys r in
    omega arith

say_more : (k : Known) (xs ys : List Piece) → AllSay k xs → AllSay k ys → AllSay k (xs ++ ys)
say_more k [] ys p q = q
say_more k (x ∷ xs) ys p q = (p.0, say_more k xs ys p.1 q)

say_placed : (g : Graph) (done : List ℕ) (k : Known) (h : Holder) (ys : List Atom) → AreRight g done k h ys → AllSay k (all_placed AtPlain ys)
say_placed g done k h [] p = tt
say_placed g done k h (y ∷ ys) p = (right_says g done k h y p.0, say_placed g done k h ys p.1)

-- what a message holds and what a thread has are possible together
pool_possible : (g : Graph) (done : List ℕ) (k : Known) (w : World) (t s : ℕ) (pool : List Atom) (xs : List Piece) → Owned g done k w → Holds g done k w (holder.Message s 0) pool → Fits g done k w t xs
    → IsPossible (all_placed AtPlain pool ++ xs)
pool_possible g done k w t s pool xs o held f = record {
  known = k;
  within = λ r.
      let all = four_at_most g done k w o (holder.Message s 0) (holder.Plain t) (holder.Up t) (holder.Down t) r (λ e. absurd (cc)) (λ e. absurd (cc)) (λ e. absurd (cc)) (λ e. absurd (cc)) (λ e. absurd (cc)) (λ e. absurd (cc)) in
      let p = held.enough r in
      let a = f.enough AtPlain r in
      let b = f.enough AtUp r in
      let c = f.enough AtDown r in
      let e = placed_whole pool xs r in
      omega arith;
  agree = say_more k (all_placed AtPlain pool) xs (say_placed g done k (holder.Message s 0) pool held.right) (all_say g done k t xs f.right);
}

-- ---- the turn

-- what the thread takes of the message at once
record Taken (asks : Meaning) (g : Graph) (done : List ℕ) (k : Known) (w : World) (t e s : ℕ) (ys : List Atom) (xs : List Piece) : Type 0 where
  world : World
  ground : Ground asks g done (e ∷ []) k world
  fits : Fits g done k world t (all_placed AtPlain (filter of_thread ys) ++ xs)
  holds : Holds g done k world (holder.Message s 0) (filter of_message ys)
  others : (u : ℕ) (a : Level) → (u ≡ t → ⊥) → Keeps k k w world (holder_of u a)

-- atoms at plain ask for what they ask for
at_plain : (a : Level) (cells rest all : ℕ) → cells + rest ≡ all → (if same_level AtPlain a then cells else 0) + (if same_level AtPlain a then rest else 0) ≡ (if same_level AtPlain a then all else 0)
at_plain AtPlain cells rest all e = e
at_plain AtUp cells rest all e = omega arith
at_plain AtDown cells rest all e = omega arith

take : (asks : Meaning) (g : Graph) (done : List ℕ) (k : Known) (w : World) (t e s : ℕ) (ys : List Atom) (xs : List Piece) → Ground asks g done (e ∷ []) k w → Fits g done k w t xs
    → Holds g done k w (holder.Message s 0) ys → IsFree g done (e ∷ []) k (holder.Message s 0) → Taken asks g done k w t e s ys xs
take asks g done k w t e s ys xs x f held free =
    let loose = filter of_thread ys in
    let right = right_split g done k (holder.Message s 0) (holder.Plain t) ys held.right in
    let v = give_to w (holder.Message s 0) (holder.Plain t) (demand loose) (λ r. let a = held.enough r in let b = split_demand ys r in omega arith) in
    record {
      world = v.0;
      ground = ground_by_giving asks g done (e ∷ []) k w v.0 (holder.Message s 0) (holder.Plain t) (demand loose) x v.1 (λ c o. absurd (let z = loose_cells ys c in omega arith)) free;
      fits = record {
        enough = λ a r.
            let b = came_to t s 0 AtPlain a w v.0 (demand loose) r v.1 in
            let c = demand_more a (all_placed AtPlain loose) xs r in
            let d = both_placed AtPlain a loose r in
            let n = in_two loose r in
            let m = f.enough a r in
            let q = at_plain a (cells_of loose r) (else_of loose r) (demand loose r) n in
            omega arith;
        right = right_more g done k t (all_placed AtPlain loose) xs (placed_right g done k t AtPlain loose right.1) f.right;
      };
      holds = record {
        enough = λ r.
            let a = held.enough r in
            let b = split_demand ys r in
            let c = v.1.loses.here r in
            let d = v.1.gains.others (holder.Message s 0) r (λ q. absurd (cc)) in
            omega arith;
        right = right.0;
      };
      others = λ u a n. record {
        grows = λ r.
            let p = v.1.loses.others (holder_of u a) r (level_no_message u s 0 a) in
            let q = v.1.gains.others (holder_of u a) r (other_level u t a AtPlain n) in
            omega arith;
        agree = λ r o. same_agrees k r;
      };
    }

-- what is known when the event is done: the message that was read, and the two messages
record Turn (asks : Meaning) (g : Graph) (done : List ℕ) (k : Known) (w : World) (t e : ℕ) (m : Mode) (c old new : ℤ) (d : Deal) (xs : List Piece) : Type 0 where
  source : ℕ
  atoms : List Atom
  asked : asks d 0 old atoms
  holds : Holds g (e ∷ done) k w (holder.Message source 0) atoms
  fits : Fits g (e ∷ done) k w t xs
  ground : Ground asks g (e ∷ done) (e ∷ []) k w
  writes : Writes g e m c new
  both : (j : Known) → j.deals c ≡ Some d → Both g (e ∷ done) j t e source m

turn : (asks : Meaning) (g : Graph) (done : List ℕ) (e : ℕ) (x : Event) (k : Known) (w : World) (m : Mode) (c old new : ℤ) (d : Deal) (xs : List Piece) → IsConsistent g → IsDistinct g
    → Ground asks g done [] k w → Comes g done e x → x.label ≡ label.Rmw m c old new → is_atomic m ≡ true → Fits g done k w x.thread xs → IsInit g done k (holder.Plain x.thread) c → k.deals c ≡ Some d → d.rmw ≡ true
    → Turn asks g done k w x.thread e m c old new d xs
turn asks g done e x k w m c old new d xs consistent distinct ground comes is atomic f init deals kind =
    from (init_is_read g consistent done k e x m c old comes reads init)
  where
    updates : Updates g e m c old new
    updates = record { event = x; is = comes.is; updates = is }

    reads : Reads g e m c old
    reads = record { event = x; is = comes.is; reads = ap read_by is }

    writes : Writes g e m c new
    writes = record { event = x; is = comes.is; writes = ap written_by is }

    is_due : (s : ℕ) (rmw : Bool) → rmw ≡ true → IsUnread g done s → IsDue g done k s c old 0 rmw
    is_due s true h u = (refl, u)
    is_due s false h u = absurd (cc)

    taking : (got : Got g done e c old) → HasPart asks g done k w got.source d 0 old → Turn asks g done k w x.thread e m c old new d xs
    taking got held = record {
      source = got.source;
      atoms = held.atoms;
      asked = held.asked;
      holds = still_holds g done (e ∷ done) k k w w (holder.Message got.source 0) held.atoms (λ a i. inr i) (λ a p. positions_grow g done e (holder.Message got.source 0) a p) (λ l q y. y) (λ r. omega arith)
          (λ r o. same_agrees k r) held.holds;
      fits = fits_later g done e k w x.thread xs f;
      ground = write_ground asks g done e x k w m c new d distinct ground comes writes (ap access_by is ∙ ap (λ (b : Bool). Some (Accesses c b true)) atomic)
          (λ q y. (got.source, source_of g e x got.source comes.is got.from)) (λ z q. absurd (let y : label.Rmw m c old new ≡ label.Free z = sym is ∙ q in cc)) deals;
      writes = writes;
      both = λ j known. record {
        apart = λ q. comes.fresh (subst (λ (n : ℕ). In n done) q got.past);
        free = read_free g done (e ∷ []) j e got.source 0 m got.mode c old old new d updates got.from got.writes known kind;
        on = update_tells g done got.source e m c old new 0 0 updates got.from;
        writes = write_tells g done e x m c new comes writes atomic 0;
        reads = read_tells g done e got.source x m c old comes reads atomic got.from 0;
      };
    }

    from : Got g done e c old → Turn asks g done k w x.thread e m c old new d xs
    from got = taking got (ground.messages got.source d c old 0 got.past (λ i. i) (record { mode = got.mode; writes = got.writes; made = deals })
        (is_due got.source d.rmw kind (update_takes g consistent done e got.source x m c old new comes updates got.from)))

-- the thread has taken what is its own at once, and shifted tokens: the message is passed on
passes_on : (asks : Meaning) (g : Graph) (done : List ℕ) (k : Known) (w : World) (t e : ℕ) (m : Mode) (c old new : ℤ) (inv : ℕ) (args : List ℤ) (K : List Piece → Type 0) (xs : List Piece) → k.deals c ≡ Some (deal true inv args)
    → (h : Turn asks g done k w t e m c old new (deal true inv args) xs) → (taken : Taken asks g (e ∷ done) k w t e h.source h.atoms xs)
    → Changed asks g (e ∷ done) (e ∷ []) k taken.world t (λ zs. IsPossible (all_placed AtPlain (filter of_message h.atoms) ++ zs) → Passes asks m new inv args K (filter of_message h.atoms) zs)
    → Acted asks g (e ∷ done) k w t K
passes_on asks g done k w t e m c old new inv args K xs deals h taken changed = with_pool pooled
  where
    known : changed.known.deals c ≡ Some (deal true inv args)
    known = changed.deals c (deal true inv args) deals

    pooled : Holds g (e ∷ done) changed.known changed.world (holder.Message h.source 0) (filter of_message h.atoms)
    pooled =
        let message = changed.others (holder.Message h.source 0) (λ q. absurd (cc)) in
        still_holds g (e ∷ done) (e ∷ done) k changed.known taken.world changed.world (holder.Message h.source 0) (filter of_message h.atoms) (λ a i. i) (λ a p. p) changed.deals message.grows message.agree taken.holds

    done_with : (p : Passes asks m new inv args K (filter of_message h.atoms) changed.pieces)
        → Passed asks g (e ∷ done) changed.known changed.world t e (all_placed (gaining m) p.kept ++ (all_placed AtPlain p.joins ++ p.rest)) p.atoms → Acted asks g (e ∷ done) k w t K
    done_with p passed = record {
      known = changed.known;
      world = passed.world;
      ground = ground_filled asks g (e ∷ done) [] changed.known passed.world e passed.ground (λ f l u part y due.
          let same = sends_this g changed.known e m c new (deal true inv args) f l u h.writes known y in
          let zeroth : part ≡ 0 = part_zero g (e ∷ done) changed.known e f.rmw l u part (subst (λ (z : Deal). z.rmw ≡ true) same.0 refl) due in
          subst (λ (z : Deal). HasPart asks g (e ∷ done) changed.known passed.world e z part u) same.0
          (subst (λ (z : ℤ). HasPart asks g (e ∷ done) changed.known passed.world e (deal true inv args) part z) same.1
          (subst (λ (z : ℕ). HasPart asks g (e ∷ done) changed.known passed.world e (deal true inv args) z new) (sym zeroth)
          (record { atoms = p.atoms; asked = p.asked; holds = passed.holds }))));
      pieces = all_placed (gaining m) p.kept ++ (all_placed AtPlain p.joins ++ p.rest);
      fits = passed.fits;
      next = p.next;
      deals = changed.deals;
      others = λ u a n. keeps_then k changed.known changed.known w changed.world passed.world (holder_of u a)
          (keeps_then k k changed.known w taken.world changed.world (holder_of u a) (taken.others u a n) (changed.others (holder_of u a) (other_level u t a AtPlain n)))
          (passed.others u a n);
    }

    with_passes : Holds g (e ∷ done) changed.known changed.world (holder.Message h.source 0) (filter of_message h.atoms) → Passes asks m new inv args K (filter of_message h.atoms) changed.pieces → Acted asks g (e ∷ done) k w t K
    with_passes held p = done_with p (pass_on asks g (e ∷ done) changed.known changed.world t e h.source m new inv args K (filter of_message h.atoms) changed.pieces (h.both changed.known known) changed.ground changed.fits held p)

    with_pool : Holds g (e ∷ done) changed.known changed.world (holder.Message h.source 0) (filter of_message h.atoms) → Acted asks g (e ∷ done) k w t K
    with_pool held = with_passes held (changed.next (pool_possible g (e ∷ done) changed.known changed.world t h.source (filter of_message h.atoms) changed.pieces changed.ground.owned held changed.fits))

pub replace_acts : (asks : Meaning) (g : Graph) (done : List ℕ) (e : ℕ) (x : Event) (k : Known) (w : World) (m : Mode) (c old new : ℤ) (K : List Piece → Type 0) (xs : List Piece) → IsConsistent g → IsDistinct g
    → Ground asks g done [] k w → Comes g done e x → x.label ≡ label.Rmw m c old new → is_atomic m ≡ true → Fits g done k w x.thread xs → Replaces asks m c old new K xs
    → Acted asks g (e ∷ done) k w x.thread K
replace_acts asks g done e x k w m c old new K xs consistent distinct ground comes is atomic f rep =
    with_turn (turn asks g done e x k w m c old new (deal true rep.inv rep.args) xs consistent distinct ground comes is atomic f (fits_entailed g done k w x.thread xs (plain (Init c) ∷ []) f rep.init).right.0 deals refl)
  where
    deals : k.deals c ≡ Some (deal true rep.inv rep.args)
    deals = (fits_entailed g done k w x.thread xs (plain (RmwAcq c rep.inv rep.args) ∷ []) f rep.leave).right.0

    with_taken : (h : Turn asks g done k w x.thread e m c old new (deal true rep.inv rep.args) xs) → Taken asks g (e ∷ done) k w x.thread e h.source h.atoms xs → Acted asks g (e ∷ done) k w x.thread K
    with_taken h taken = passes_on asks g done k w x.thread e m c old new rep.inv rep.args K xs deals h taken
        (shifts_keep asks g (e ∷ done) (e ∷ []) x.thread (λ zs. IsPossible (all_placed AtPlain (filter of_message h.atoms) ++ zs) → Passes asks m new rep.inv rep.args K (filter of_message h.atoms) zs) k taken.world
        (all_placed AtPlain (filter of_thread h.atoms) ++ xs)
        (rep.takes h.atoms h.asked (pool_possible g (e ∷ done) k taken.world x.thread h.source (filter of_message h.atoms) (all_placed AtPlain (filter of_thread h.atoms) ++ xs) taken.ground.owned taken.holds taken.fits))
        taken.ground taken.fits)

    with_turn : Turn asks g done k w x.thread e m c old new (deal true rep.inv rep.args) xs → Acted asks g (e ∷ done) k w x.thread K
    with_turn h = with_taken h (take asks g (e ∷ done) k w x.thread e h.source h.atoms xs h.ground h.fits h.holds (h.both k deals).free)
