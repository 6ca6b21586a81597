-- What a thread does by events that neither write nor read a message: prints, cells and fences.
use Rattle.std.proofs.Common.{◌≡◌, ◌≤◌, ◌<◌, ◌+◌, ℕ, Bool, true, false, ◌⊎◌, inl, inr, List, [], ◌∷◌, ◌++◌, Option, Some, None, ℤ, pos, ◌<ℤ◌, refl, sym, ap, subst, ◌∙◌, arith, if◌then◌else◌}
use Rattle.fsl_core.specs.declared.label.Label.TheVariants as label
use Rattle.fsl_core.specs.declared.mode.AllocKind.TheVariants as kind
use Rattle.fsl_core.specs.declared.mode.Mode.{Mode}
use Rattle.fsl_core.specs.declared.mode.Mode.TheVariants as mode
use Rattle.fsl_core.specs.Modes.{acquires, releases}
use Rattle.fsl_graph.specs.declared.event.Event.{Event}
use Rattle.fsl_graph.specs.declared.graph.Graph.{Graph}
use Rattle.fsl_graph.specs.Events.{Fences, read_by, written_by}
use Rattle.fsl_graph.specs.Sequenced.{In}
use Rattle.fsl_graph.specs.Consistent.{IsConsistent}
use Rattle.fsl_graph.specs.Execution.{IsDistinct}
use Rattle.fsl_graph.specs.Safe.{access_by}
use Rattle.fsl_graph.specs.Orders.{Comes}
use Rattle.fsl_graph.specs.Positions.{Holder, Position}
use Rattle.fsl_graph.specs.Positions.{Holder as holder}
use Rattle.fsl_own.specs.Owning.{Resource, Cell, Permission, Tokens, Bank, Heap, World, full, only, Known, limit, Owned, Adds, KeepsDeals, Agree}
use Rattle.fsl_own.specs.Atoms.{Atom, Points, asked, IsRight}
use Rattle.fsl_own.proofs.Knowing.{positions_grow}
use Rattle.fsl_own.proofs.Totals.{only_here, only_elsewhere, more_at, less_at, same_resource}
use Rattle.fsl_own.proofs.Owning.{alone, at_most}
use Rattle.fsl_ground.specs.Ground.{Meaning, Ground}
use Rattle.fsl_ground.specs.Changes.{with_value}
use Rattle.fsl_ground.proofs.Ground.{same_agrees}
use Rattle.fsl_ground.proofs.Cells.{quiet_keeps, alloc_cell, store_cell, load_cell, free_cell}
use Rattle.fsl_ground.proofs.Tables.{int_here, int_elsewhere, int_or}
use Rattle.fsl_good.specs.Pieces.{Level, AtPlain, AtUp, AtDown, same_level, holder_of, Piece, plain, demand_at, RightPieces, Fits, Entails}
use Rattle.fsl_good.specs.Good.{Gives, Knows}
use Rattle.fsl_good.specs.Keeping.{Keeps, Acted}
use Rattle.fsl_good.proofs.Pieces.{fits_entailed}
use Rattle.fsl_good.proofs.Shifting.{pieces_stay}

-- pieces fit after an event that leaves the world as it is
pub fits_later : (g : Graph) (done : List ℕ) (e : ℕ) (k : Known) (w : World) (t : ℕ) (xs : List Piece) → Fits g done k w t xs → Fits g (e ∷ done) k w t xs
fits_later g done e k w t xs f = record {
  enough = f.enough;
  right = pieces_stay g done (e ∷ done) k k t xs (λ a i. inr i) (λ a b p. positions_grow g done e (holder_of t a) b p) (λ l d q. q) (λ a r o. same_agrees k r) f.right;
}

nothing_changed : (k : Known) (w : World) (h : Holder) → Keeps k k w w h
nothing_changed k w h = record { grows = λ r. omega arith; agree = λ r o. same_agrees k r }

-- another thread's holder isn't this one's
pub other_holder : (u t : ℕ) (a : Level) → (u ≡ t → ⊥) → holder_of u a ≡ holder.Plain t → ⊥
other_holder u t AtPlain n e = n (cc)
other_holder u t AtUp n e = absurd (cc)
other_holder u t AtDown n e = absurd (cc)

-- ---- events that access nothing

pub quiet_acts : (asks : Meaning) (g : Graph) (done : List ℕ) (e : ℕ) (x : Event) (k : Known) (w : World) (K : List Piece → Type 0) (xs : List Piece) → Ground asks g done [] k w → Comes g done e x
    → access_by x.label ≡ None → read_by x.label ≡ None → written_by x.label ≡ None → Fits g done k w x.thread xs → K xs → Acted asks g (e ∷ done) k w x.thread K
quiet_acts asks g done e x k w K xs ground comes accesses reads writes f next = record {
  known = k;
  world = w;
  ground = quiet_keeps asks g done [] k w e x ground comes accesses reads writes;
  pieces = xs;
  fits = fits_later g done e k w x.thread xs f;
  next = next;
  deals = λ l d q. q;
  others = λ u a n. nothing_changed k w (holder_of u a);
}

-- ---- cells

-- a thread that asks for a plain share has one
has_share : (g : Graph) (done : List ℕ) (k : Known) (w : World) (t : ℕ) (c : ℤ) (n : ℕ) (v : Option ℤ) (rest : List Piece) → Fits g done k w t (plain (Points c n v) ∷ rest) → n ≤ w (holder.Plain t) (Cell c)
has_share g done k w t c n v rest f = let m = f.enough AtPlain (Cell c) in let one = only_here (Cell c) n in omega arith

share_some : (g : Graph) (done : List ℕ) (k : Known) (h : Holder) (c : ℤ) (n : ℕ) (v : Option ℤ) → IsRight g done k h (Points c n v) → 1 ≤ n
share_some g done k h c n None p = p
share_some g done k h c n (Some v) p = p.0

-- amounts of a holder of the thread, where one of its cells has grown
grown : (w v : World) (t : ℕ) (c : ℤ) (n : ℕ) (a : Level) (r : Resource) (more : ℕ) → Adds w v (holder.Plain t) (only (Cell c) n) → more ≤ w (holder_of t a) r
    → (if same_level AtPlain a then only (Cell c) n r else 0) + more ≤ v (holder_of t a) r
grown w v t c n AtPlain r more a h = let e = a.here r in omega arith
grown w v t c n AtUp r more a h = let e = a.others (holder.Up t) r (λ q. absurd (cc)) in omega arith
grown w v t c n AtDown r more a h = let e = a.others (holder.Down t) r (λ q. absurd (cc)) in omega arith

pub make_acts : (asks : Meaning) (g : Graph) (done : List ℕ) (e : ℕ) (x : Event) (k : Known) (w : World) (c : ℤ) (K : List Piece → Type 0) (xs : List Piece) → IsDistinct g → Ground asks g done [] k w
    → Comes g done e x → x.label ≡ label.Alloc kind.Na c → Fits g done k w x.thread xs → K (plain (Points c full None) ∷ xs) → Acted asks g (e ∷ done) k w x.thread K
make_acts asks g done e x k w c K xs distinct ground comes is f next =
    let v = more_at w (holder.Plain x.thread) (only (Cell c) full) in
    let later = fits_later g done e k w x.thread xs f in
    record {
      known = k;
      world = v.0;
      ground = alloc_cell asks g done [] k w v.0 e x c distinct ground comes is v.1;
      pieces = plain (Points c full None) ∷ xs;
      fits = record { enough = λ a r. grown w v.0 x.thread c full a r (demand_at a xs r) v.1 (f.enough a r); right = (omega arith, later.right) };
      next = next;
      deals = λ l d q. q;
      others = λ u a n. record { grows = λ r. let q = v.1.others (holder_of u a) r (other_holder u x.thread a n) in omega arith; agree = λ r o. same_agrees k r };
    }

pub load_acts : (asks : Meaning) (g : Graph) (done : List ℕ) (e : ℕ) (x : Event) (k : Known) (w : World) (c v : ℤ) (K : List Piece → Type 0) (xs : List Piece) → IsConsistent g → IsDistinct g
    → Ground asks g done [] k w → Comes g done e x → x.label ≡ label.Load mode.Na c v → Fits g done k w x.thread xs → Knows c v K xs → Acted asks g (e ∷ done) k w x.thread K
load_acts asks g done e x k w c v K xs consistent distinct ground comes is f knows =
    let own = fits_entailed g done k w x.thread xs (plain (Points c knows.share (Some knows.value)) ∷ []) f knows.owns in
    let some = share_some g done k (holder.Plain x.thread) c knows.share (Some knows.value) own.right.0 in
    let share = has_share g done k w x.thread c knows.share (Some knows.value) [] own in
    let after = load_cell asks g done [] k w e x c v knows.value consistent distinct ground comes is (omega arith) own.right.0.1 in
    record {
      known = k;
      world = w;
      ground = after.0;
      pieces = xs;
      fits = fits_later g done e k w x.thread xs f;
      next = knows.next after.1;
      deals = λ l d q. q;
      others = λ u a n. nothing_changed k w (holder_of u a);
    }

-- who has all of a cell in one piece asks for none of it elsewhere
rest_none : (asks : Meaning) (g : Graph) (done but : List ℕ) (k : Known) (w : World) (t : ℕ) (c : ℤ) (share : ℕ) (old : Option ℤ) (rest : List Piece) → Ground asks g done but k w
    → Fits g done k w t (plain (Points c share old) ∷ rest) → full ≤ share → (a : Level) → 1 ≤ demand_at a rest (Cell c) → ⊥
rest_none asks g done but k w t c share old rest x f whole AtPlain o =
    absurd (let m = f.enough AtPlain (Cell c) in let one = only_here (Cell c) share in let most = at_most g done k w x.owned (holder.Plain t) (Cell c) in omega arith)
rest_none asks g done but k w t c share old rest x f whole AtUp o =
    let m = f.enough AtPlain (Cell c) in let one = only_here (Cell c) share in let up = f.enough AtUp (Cell c) in
    absurd (let e = alone g done k w x.owned (holder.Plain t) (holder.Up t) (Cell c) (omega arith) (omega arith) in cc)
rest_none asks g done but k w t c share old rest x f whole AtDown o =
    let m = f.enough AtPlain (Cell c) in let one = only_here (Cell c) share in let down = f.enough AtDown (Cell c) in
    absurd (let e = alone g done k w x.owned (holder.Plain t) (holder.Down t) (Cell c) (omega arith) (omega arith) in cc)

value_agrees : (k : Known) (c : ℤ) (o : Option ℤ) (r : Resource) → (r ≡ Cell c → ⊥) → Agree k (with_value k c o) r
value_agrees k c o (Cell d) f = int_elsewhere d c o (k.values d) (λ e. f (ap Cell e))
value_agrees k c o (Permission l part) f = refl
value_agrees k c o (Tokens b) f = tt
value_agrees k c o (Bank b) f = refl

pub store_acts : (asks : Meaning) (g : Graph) (done : List ℕ) (e : ℕ) (x : Event) (k : Known) (w : World) (c v : ℤ) (K : List Piece → Type 0) (xs : List Piece) → IsConsistent g → IsDistinct g
    → Ground asks g done [] k w → Comes g done e x → x.label ≡ label.Store mode.Na c v → Fits g done k w x.thread xs
    → Gives c (λ share rest. K (plain (Points c share (Some v)) ∷ rest)) xs → Acted asks g (e ∷ done) k w x.thread K
store_acts asks g done e x k w c v K xs consistent distinct ground comes is f gives =
    let own = fits_entailed g done k w x.thread xs (plain (Points c gives.share gives.old) ∷ gives.rest) f gives.gives in
    let share = has_share g done k w x.thread c gives.share gives.old gives.rest own in
    let whole = gives.whole in
    record {
      known = with_value k c (Some v);
      world = w;
      ground = store_cell asks g done [] k w e x c v consistent distinct ground comes is (omega arith);
      pieces = plain (Points c gives.share (Some v)) ∷ gives.rest;
      fits = record {
        enough = own.enough;
        right = (
          (omega arith, int_here c (Some v) (k.values c)),
          pieces_stay g done (e ∷ done) k (with_value k c (Some v)) x.thread gives.rest (λ a i. inr i) (λ a b p. positions_grow g done e (holder_of x.thread a) b p) (λ l d q. q)
              (λ a r o. value_agrees k c (Some v) r (λ q. rest_none asks g done [] k w x.thread c gives.share gives.old gives.rest ground own whole a (subst (λ (y : Resource). 1 ≤ demand_at a gives.rest y) q o)))
              own.right.1,
        );
      };
      next = gives.next;
      deals = λ l d q. q;
      others = λ u a n. record {
        grows = λ r. omega arith;
        agree = λ r o. value_agrees k c (Some v) r (λ q. other_holder u x.thread a n
            (sym (alone g done k w ground.owned (holder.Plain x.thread) (holder_of u a) (Cell c) (omega arith) (subst (λ (y : Resource). 1 ≤ w (holder_of u a) y) q o))));
      };
    }

-- amounts that are left of a cell that goes
left_over : (w u : World) (t : ℕ) (c : ℤ) (n share : ℕ) (a : Level) (r : Resource) (rest : ℕ) → Adds u w (holder.Plain t) (only (Cell c) n) → n ≤ share
    → (if same_level AtPlain a then only (Cell c) share r else 0) + rest ≤ w (holder_of t a) r → rest ≤ u (holder_of t a) r
left_over w u t c n share AtPlain r rest a l h = elim (same_resource (Cell c) r) [
  | inl q ↦
      let e = a.here r in
      let one : only (Cell c) n r ≡ n = subst (λ (z : Resource). only (Cell c) n z ≡ n) q (only_here (Cell c) n) in
      let all : only (Cell c) share r ≡ share = subst (λ (z : Resource). only (Cell c) share z ≡ share) q (only_here (Cell c) share) in
      omega arith
  | inr f ↦ let e = a.here r in let z = only_elsewhere (Cell c) r n f in omega arith
]
left_over w u t c n share AtUp r rest a l h = let e = a.others (holder.Up t) r (λ q. absurd (cc)) in omega arith
left_over w u t c n share AtDown r rest a l h = let e = a.others (holder.Down t) r (λ q. absurd (cc)) in omega arith

only_most : (c : ℤ) (n : ℕ) (r : Resource) (m : ℕ) → (Cell c ≡ r → n ≤ m) → only (Cell c) n r ≤ m
only_most c n r m h = elim (same_resource (Cell c) r) [
  | inl q ↦ let one : only (Cell c) n r ≡ n = subst (λ (z : Resource). only (Cell c) n z ≡ n) q (only_here (Cell c) n) in let l = h q in omega arith
  | inr f ↦ let z = only_elsewhere (Cell c) r n f in omega arith
]

pub free_acts : (asks : Meaning) (g : Graph) (done : List ℕ) (e : ℕ) (x : Event) (k : Known) (w : World) (c : ℤ) (K : List Piece → Type 0) (xs : List Piece) → IsDistinct g
    → Ground asks g done [] k w → Comes g done e x → x.label ≡ label.Free c → Fits g done k w x.thread xs → Gives c (λ share rest. K rest) xs → Acted asks g (e ∷ done) k w x.thread K
free_acts asks g done e x k w c K xs distinct ground comes is f gives =
    let own = fits_entailed g done k w x.thread xs (plain (Points c gives.share gives.old) ∷ gives.rest) f gives.gives in
    let share = has_share g done k w x.thread c gives.share gives.old gives.rest own in
    let whole = gives.whole in
    let all : full ≤ w (holder.Plain x.thread) (Cell c) = omega arith in
    let u = less_at w (holder.Plain x.thread) (only (Cell c) full) (λ r. only_most c full r (w (holder.Plain x.thread) r) (λ q. subst (λ (y : Resource). full ≤ w (holder.Plain x.thread) y) q all)) in
    let later = fits_later g done e k w x.thread (plain (Points c gives.share gives.old) ∷ gives.rest) own in
    record {
      known = k;
      world = u.0;
      ground = free_cell asks g done [] k w u.0 e x c distinct ground comes is all u.1;
      pieces = gives.rest;
      fits = record {
        enough = λ a r. left_over w u.0 x.thread c full gives.share a r (demand_at a gives.rest r) u.1 whole (own.enough a r);
        right = later.right.1;
      };
      next = gives.next;
      deals = λ l d q. q;
      others = λ y a n. record { grows = λ r. let q = u.1.others (holder_of y a) r (other_holder y x.thread a n) in omega arith; agree = λ r o. same_agrees k r };
    }
