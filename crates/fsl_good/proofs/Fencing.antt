-- Fences: what was gained by relaxed reads becomes plain, and something plain is set apart.
use Rattle.std.proofs.Common.{◌≡◌, ◌≤◌, ◌+◌, ℕ, Bool, true, false, ◌⊎◌, inl, inr, List, [], ◌∷◌, ◌++◌, Option, Some, None, ℤ, refl, sym, ap, subst, ◌∙◌, arith, if◌then◌else◌}
use Rattle.std.proofs.lemmas.Bool.{cases_Bool}
use Rattle.fsl_core.specs.declared.label.Label.TheVariants as label
use Rattle.fsl_core.specs.declared.mode.Mode.{Mode}
use Rattle.fsl_core.specs.Modes.{acquires, releases}
use Rattle.fsl_graph.specs.declared.event.Event.{Event}
use Rattle.fsl_graph.specs.declared.graph.Graph.{Graph}
use Rattle.fsl_graph.specs.Events.{Fences, read_by, written_by}
use Rattle.fsl_graph.specs.Safe.{access_by}
use Rattle.fsl_graph.specs.Orders.{Comes}
use Rattle.fsl_graph.specs.Positions.{Holder, Position}
use Rattle.fsl_graph.specs.Positions.{Holder as holder}
use Rattle.fsl_own.specs.Knowledge.{Tells}
use Rattle.fsl_own.specs.Owning.{Resource, Heap, World, Known, Owned, Gives, KeepsDeals}
use Rattle.fsl_own.specs.Atoms.{Atom, Points, Init, Rel, Acq, RmwAcq, Tok, Auth, asked, IsRight}
use Rattle.fsl_own.proofs.Telling.{release_fence_tells, acquire_fence_tells}
use Rattle.fsl_own.proofs.Totals.{give_to}
use Rattle.fsl_own.proofs.Atoms.{stays_right}
use Rattle.fsl_ground.specs.Ground.{Meaning, Ground, IsFree}
use Rattle.fsl_ground.proofs.Ground.{same_agrees, ground_by_giving}
use Rattle.fsl_ground.proofs.Cells.{quiet_keeps}
use Rattle.fsl_good.specs.Pieces.{Level, AtPlain, AtUp, AtDown, same_level, holder_of, Piece, level_at, placed, all_placed, plain, asked_at, demand_at, RightPieces, Fits, Entails}
use Rattle.fsl_good.specs.Good.{raised_level, raised, raised_if, Releases, ReleasesIf, Fenced}
use Rattle.fsl_good.specs.Keeping.{Keeps, Acted}
use Rattle.fsl_good.proofs.Pieces.{demand_more, right_more, right_first, right_last, right_placed, placed_right, fits_entailed}
use Rattle.fsl_good.proofs.Acting.{fits_later}
use Rattle.fsl_good.proofs.Shifting.{keeps_then}

-- a thread's holder is no message
pub thread_free : (g : Graph) (done but : List ℕ) (k : Known) (t : ℕ) (a : Level) → IsFree g done but k (holder_of t a)
thread_free g done but k t AtPlain m part d l v e i n s due = absurd (cc)
thread_free g done but k t AtUp m part d l v e i n s due = absurd (cc)
thread_free g done but k t AtDown m part d l v e i n s due = absurd (cc)

-- another thread's holder is neither of two of this one's
pub other_level : (u t : ℕ) (a b : Level) → (u ≡ t → ⊥) → holder_of u a ≡ holder_of t b → ⊥
other_level u t AtPlain AtPlain n e = n (cc)
other_level u t AtUp AtUp n e = n (cc)
other_level u t AtDown AtDown n e = n (cc)
other_level u t AtPlain AtUp n e = absurd (cc)
other_level u t AtPlain AtDown n e = absurd (cc)
other_level u t AtUp AtPlain n e = absurd (cc)
other_level u t AtUp AtDown n e = absurd (cc)
other_level u t AtDown AtPlain n e = absurd (cc)
other_level u t AtDown AtUp n e = absurd (cc)

-- a gift from one level of a thread to another one leaves other threads as they are
pub gift_keeps : (k : Known) (w v : World) (t : ℕ) (a b : Level) (d : Heap) → Gives w v (holder_of t a) (holder_of t b) d → (u : ℕ) (c : Level) → (u ≡ t → ⊥) → Keeps k k w v (holder_of u c)
gift_keeps k w v t a b d g u c n = record {
  grows = λ r. let e = g.loses.others (holder_of u c) r (other_level u t c a n) in let f = g.gains.others (holder_of u c) r (other_level u t c b n) in omega arith;
  agree = λ r o. same_agrees k r;
}

-- ---- raising

raised_plain : (xs : List Piece) (r : Resource) → demand_at AtPlain (raised xs) r ≡ demand_at AtPlain xs r + demand_at AtDown xs r
raised_plain [] r = refl
raised_plain (x ∷ xs) r = let e = raised_plain xs r in let f = one x.level (asked x.atom r) in omega arith
  where
    one : (a : Level) (n : ℕ) → (if same_level (raised_level a) AtPlain then n else 0) ≡ (if same_level a AtPlain then n else 0) + (if same_level a AtDown then n else 0)
    one AtPlain n = omega arith
    one AtUp n = refl
    one AtDown n = omega arith

raised_up : (xs : List Piece) (r : Resource) → demand_at AtUp (raised xs) r ≡ demand_at AtUp xs r
raised_up [] r = refl
raised_up (x ∷ xs) r = let e = raised_up xs r in let f = one x.level (asked x.atom r) in omega arith
  where
    one : (a : Level) (n : ℕ) → (if same_level (raised_level a) AtUp then n else 0) ≡ (if same_level a AtUp then n else 0)
    one AtPlain n = refl
    one AtUp n = refl
    one AtDown n = refl

raised_down : (xs : List Piece) (r : Resource) → demand_at AtDown (raised xs) r ≡ 0
raised_down [] r = refl
raised_down (x ∷ xs) r = let e = raised_down xs r in let f = one x.level (asked x.atom r) in omega arith
  where
    one : (a : Level) (n : ℕ) → (if same_level (raised_level a) AtDown then n else 0) ≡ 0
    one AtPlain n = refl
    one AtUp n = refl
    one AtDown n = refl

raised_right : (g : Graph) (done : List ℕ) (k : Known) (t : ℕ) (xs : List Piece) → Tells g done (holder.Down t) (holder.Plain t) → RightPieces g done k t xs → RightPieces g done k t (raised xs)
raised_right g done k t [] tells p = tt
raised_right g done k t (x ∷ xs) tells p = (one x.level p.0, raised_right g done k t xs tells p.1)
  where
    one : (a : Level) → IsRight g done k (holder_of t a) x.atom → IsRight g done k (holder_of t (raised_level a)) x.atom
    one AtPlain q = q
    one AtUp q = q
    one AtDown q = stays_right g done done k k (holder.Down t) (holder.Plain t) x.atom (λ e i. i) tells (λ l d e. e) (λ r o. same_agrees k r) q

-- what a thread has after a part of it was raised, or set apart, while nothing is done
pub record Turned (asks : Meaning) (g : Graph) (done : List ℕ) (k : Known) (w : World) (t : ℕ) (xs : List Piece) : Type 0 where
  pub world : World
  pub ground : Ground asks g done [] k world
  pub fits : Fits g done k world t xs
  pub others : (u : ℕ) (a : Level) → (u ≡ t → ⊥) → Keeps k k w world (holder_of u a)

raise : (asks : Meaning) (g : Graph) (done : List ℕ) (k : Known) (w : World) (t : ℕ) (kept turned : List Piece) → Ground asks g done [] k w → Tells g done (holder.Down t) (holder.Plain t)
    → Fits g done k w t (kept ++ turned) → Turned asks g done k w t (kept ++ raised turned)
raise asks g done k w t kept turned x tells f =
    let v = give_to w (holder.Down t) (holder.Plain t) (demand_at AtDown turned) (λ r. let m = f.enough AtDown r in let s = demand_more AtDown kept turned r in omega arith) in
    record {
      world = v.0;
      ground = ground_by_giving asks g done [] k w v.0 (holder.Down t) (holder.Plain t) (demand_at AtDown turned) x v.1 (λ c o. tells) (thread_free g done [] k t AtDown);
      fits = record {
        enough = enough v.0 v.1;
        right = right_more g done k t kept (raised turned) (right_first g done k t kept turned f.right) (raised_right g done k t turned tells (right_last g done k t kept turned f.right));
      };
      others = gift_keeps k w v.0 t AtDown AtPlain (demand_at AtDown turned) v.1;
    }
  where
    enough : (v : World) → Gives w v (holder.Down t) (holder.Plain t) (demand_at AtDown turned) → (a : Level) (r : Resource) → demand_at a (kept ++ raised turned) r ≤ v (holder_of t a) r
    enough v g AtPlain r =
        let s = demand_more AtPlain kept (raised turned) r in let q = raised_plain turned r in let m = f.enough AtPlain r in let o = demand_more AtPlain kept turned r in
        let e = g.loses.others (holder.Plain t) r (λ e. absurd (cc)) in let h = g.gains.here r in omega arith
    enough v g AtUp r =
        let s = demand_more AtUp kept (raised turned) r in let q = raised_up turned r in let m = f.enough AtUp r in let o = demand_more AtUp kept turned r in
        let e = g.loses.others (holder.Up t) r (λ e. absurd (cc)) in let h = g.gains.others (holder.Up t) r (λ e. absurd (cc)) in omega arith
    enough v g AtDown r =
        let s = demand_more AtDown kept (raised turned) r in let q = raised_down turned r in let m = f.enough AtDown r in let o = demand_more AtDown kept turned r in
        let e = g.loses.here r in let h = g.gains.others (holder.Down t) r (λ e. absurd (cc)) in omega arith

raise_if : (asks : Meaning) (g : Graph) (done : List ℕ) (k : Known) (w : World) (t : ℕ) (b : Bool) (kept turned : List Piece) → Ground asks g done [] k w
    → (b ≡ true → Tells g done (holder.Down t) (holder.Plain t)) → Fits g done k w t (kept ++ turned) → Turned asks g done k w t (kept ++ raised_if b turned)
raise_if asks g done k w t true kept turned x tells f = raise asks g done k w t kept turned x (tells refl) f
raise_if asks g done k w t false kept turned x tells f =
    record { world = w; ground = x; fits = f; others = λ u a n. record { grows = λ r. omega arith; agree = λ r o. same_agrees k r } }

-- ---- setting apart

-- atoms that are moved from plain to up: what each level asks for
apart_plain : (xs : List Atom) (r : Resource) → demand_at AtPlain (all_placed AtPlain xs) r ≡ demand_at AtPlain (all_placed AtUp xs) r + demand_at AtUp (all_placed AtUp xs) r
apart_plain [] r = refl
apart_plain (x ∷ xs) r = let e = apart_plain xs r in let f = one x in omega arith
  where
    one : (x : Atom) → asked_at AtPlain (placed AtPlain x) r ≡ asked_at AtPlain (placed AtUp x) r + asked_at AtUp (placed AtUp x) r
    one (Points c n v) = omega arith
    one (Init l) = omega arith
    one (Rel l i ys) = omega arith
    one (Acq l i ys p o) = omega arith
    one (RmwAcq l i ys) = omega arith
    one (Tok b n) = omega arith
    one (Auth b n) = omega arith

apart_up : (xs : List Atom) (r : Resource) → demand_at AtUp (all_placed AtPlain xs) r ≡ 0
apart_up [] r = refl
apart_up (x ∷ xs) r = let e = apart_up xs r in let f = one x in omega arith
  where
    one : (x : Atom) → asked_at AtUp (placed AtPlain x) r ≡ 0
    one (Points c n v) = refl
    one (Init l) = refl
    one (Rel l i ys) = refl
    one (Acq l i ys p o) = refl
    one (RmwAcq l i ys) = refl
    one (Tok b n) = refl
    one (Auth b n) = refl

apart_down : (xs : List Atom) (r : Resource) → (demand_at AtDown (all_placed AtPlain xs) r ≡ 0) × (demand_at AtDown (all_placed AtUp xs) r ≡ 0)
apart_down [] r = (refl, refl)
apart_down (x ∷ xs) r = let e = apart_down xs r in let f = one x in let a = e.0 in let b = e.1 in let c = f.0 in let d = f.1 in (omega arith, omega arith)
  where
    one : (x : Atom) → (asked_at AtDown (placed AtPlain x) r ≡ 0) × (asked_at AtDown (placed AtUp x) r ≡ 0)
    one (Points c n v) = (refl, refl)
    one (Init l) = (refl, refl)
    one (Rel l i ys) = (refl, refl)
    one (Acq l i ys p o) = (refl, refl)
    one (RmwAcq l i ys) = (refl, refl)
    one (Tok b n) = (refl, refl)
    one (Auth b n) = (refl, refl)

apart_right : (g : Graph) (done : List ℕ) (k : Known) (t : ℕ) (xs : List Atom) → Tells g done (holder.Plain t) (holder.Up t) → RightPieces g done k t (all_placed AtPlain xs) → RightPieces g done k t (all_placed AtUp xs)
apart_right g done k t [] tells p = tt
apart_right g done k t (x ∷ xs) tells p = (one x p.0, apart_right g done k t xs tells p.1)
  where
    one : (x : Atom) → IsRight g done k (holder_of t (level_at AtPlain x)) x → IsRight g done k (holder_of t (level_at AtUp x)) x
    one (Points c n None) q = q
    one (Points c n (Some v)) q = q
    one (Init l) q = stays_right g done done k k (holder.Plain t) (holder.Up t) (Init l) (λ e i. i) tells (λ l d e. e) (λ r o. same_agrees k r) q
    one (Rel l i ys) q = q
    one (Acq l i ys p o) q = q
    one (RmwAcq l i ys) q = q
    one (Tok b n) q = q
    one (Auth b n) q = q

set_apart : (asks : Meaning) (g : Graph) (done : List ℕ) (k : Known) (w : World) (t : ℕ) (apart : List Atom) (rest : List Piece) → Ground asks g done [] k w → Tells g done (holder.Plain t) (holder.Up t)
    → Fits g done k w t (all_placed AtPlain apart ++ rest) → Turned asks g done k w t (all_placed AtUp apart ++ rest)
set_apart asks g done k w t apart rest x tells f =
    let d : Heap = demand_at AtUp (all_placed AtUp apart) in
    let v = give_to w (holder.Plain t) (holder.Up t) d
    (λ r. let m = f.enough AtPlain r in let s = demand_more AtPlain (all_placed AtPlain apart) rest r in let e = apart_plain apart r in omega arith) in
    record {
      world = v.0;
      ground = ground_by_giving asks g done [] k w v.0 (holder.Plain t) (holder.Up t) d x v.1 (λ c o. tells) (thread_free g done [] k t AtPlain);
      fits = record {
        enough = enough v.0 v.1;
        right = right_more g done k t (all_placed AtUp apart) rest (apart_right g done k t apart tells (right_first g done k t (all_placed AtPlain apart) rest f.right))
            (right_last g done k t (all_placed AtPlain apart) rest f.right);
      };
      others = gift_keeps k w v.0 t AtPlain AtUp d v.1;
    }
  where
    enough : (v : World) → Gives w v (holder.Plain t) (holder.Up t) (demand_at AtUp (all_placed AtUp apart)) → (a : Level) (r : Resource) → demand_at a (all_placed AtUp apart ++ rest) r ≤ v (holder_of t a) r
    enough v g AtPlain r =
        let s = demand_more AtPlain (all_placed AtUp apart) rest r in let m = f.enough AtPlain r in let o = demand_more AtPlain (all_placed AtPlain apart) rest r in let q = apart_plain apart r in
        let e = g.loses.here r in let h = g.gains.others (holder.Plain t) r (λ e. absurd (cc)) in omega arith
    enough v g AtUp r =
        let s = demand_more AtUp (all_placed AtUp apart) rest r in let m = f.enough AtUp r in let o = demand_more AtUp (all_placed AtPlain apart) rest r in let q = apart_up apart r in
        let e = g.loses.others (holder.Up t) r (λ e. absurd (cc)) in let h = g.gains.here r in omega arith
    enough v g AtDown r =
        let s = demand_more AtDown (all_placed AtUp apart) rest r in let m = f.enough AtDown r in let o = demand_more AtDown (all_placed AtPlain apart) rest r in
        let q = apart_down apart r in let y = q.0 in let z = q.1 in
        let e = g.loses.others (holder.Down t) r (λ e. absurd (cc)) in let h = g.gains.others (holder.Down t) r (λ e. absurd (cc)) in omega arith

-- ---- the fence

pub fence_acts : (asks : Meaning) (g : Graph) (done : List ℕ) (e : ℕ) (x : Event) (k : Known) (w : World) (m : Mode) (K : List Piece → Type 0) (xs : List Piece) → Ground asks g done [] k w → Comes g done e x
    → x.label ≡ label.Fence m → Fits g done k w x.thread xs → Fenced m K xs → Acted asks g (e ∷ done) k w x.thread K
fence_acts asks g done e x k w m K xs ground comes is f fenced =
    let after = quiet_keeps asks g done [] k w e x ground comes (ap access_by is) (ap read_by is) (ap written_by is) in
    let fence : Fences g e m = record { event = x; is = comes.is; fences = is } in
    let own = fits_later g done e k w x.thread (fenced.kept ++ fenced.turned) (fits_entailed g done k w x.thread xs (fenced.kept ++ fenced.turned) f fenced.gives) in
    let up = raise_if asks g (e ∷ done) k w x.thread (acquires m) fenced.kept fenced.turned after (λ q. acquire_fence_tells g done e x m comes fence q) own in
    released (releases m) (λ q. release_fence_tells g done e x m comes fence q) up fenced.next
  where
    released : (b : Bool) → (b ≡ true → Tells g (e ∷ done) (holder.Plain x.thread) (holder.Up x.thread)) → Turned asks g (e ∷ done) k w x.thread (fenced.kept ++ raised_if (acquires m) fenced.turned)
        → ReleasesIf b K (fenced.kept ++ raised_if (acquires m) fenced.turned) → Acted asks g (e ∷ done) k w x.thread K
    released false tells up next = record {
      known = k;
      world = up.world;
      ground = up.ground;
      pieces = fenced.kept ++ raised_if (acquires m) fenced.turned;
      fits = up.fits;
      next = next;
      deals = λ l d q. q;
      others = up.others;
    }
    released true tells up next =
        let own = fits_entailed g (e ∷ done) k up.world x.thread (fenced.kept ++ raised_if (acquires m) fenced.turned) (all_placed AtPlain next.apart ++ next.rest) up.fits next.gives in
        let apart = set_apart asks g (e ∷ done) k up.world x.thread next.apart next.rest up.ground (tells refl) own in
        record {
          known = k;
          world = apart.world;
          ground = apart.ground;
          pieces = all_placed AtUp next.apart ++ next.rest;
          fits = apart.fits;
          next = next.next;
          deals = λ l d q. q;
          others = λ u a n. keeps_then k k k w up.world apart.world (holder_of u a) (up.others u a n) (apart.others u a n);
        }
