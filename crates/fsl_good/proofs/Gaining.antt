-- Atomic loads: parts of an invariant are gained one by one.
use Rattle.std.proofs.Common.{◌≡◌, ◌≤◌, ◌+◌, ℕ, Bool, true, false, ◌⊎◌, inl, inr, List, [], ◌∷◌, ◌++◌, Option, Some, None, ℤ, refl, sym, ap, subst, ◌∙◌, arith, if◌then◌else◌}
use Rattle.fsl_core.specs.declared.label.Label.TheVariants as label
use Rattle.fsl_core.specs.declared.mode.Mode.{Mode}
use Rattle.fsl_core.specs.Modes.{is_atomic, acquires}
use Rattle.fsl_graph.specs.declared.event.Event.{Event}
use Rattle.fsl_graph.specs.declared.graph.Graph.{Graph}
use Rattle.fsl_graph.specs.Events.{Reads, Writes, Touch, read_by, written_by}
use Rattle.fsl_graph.specs.Sequenced.{In, Rf}
use Rattle.fsl_graph.specs.Consistent.{IsConsistent}
use Rattle.fsl_graph.specs.Execution.{IsDistinct}
use Rattle.fsl_graph.specs.Safe.{Accesses, access_by}
use Rattle.fsl_graph.specs.Orders.{Comes}
use Rattle.fsl_graph.specs.Positions.{Holder, Position}
use Rattle.fsl_graph.specs.Positions.{Holder as holder}
use Rattle.fsl_graph.proofs.Threads.{one_access}
use Rattle.fsl_own.specs.Knowledge.{Tells}
use Rattle.fsl_own.specs.Owning.{Resource, Cell, Permission, Tokens, Bank, Heap, World, only, Deal, Known, limit, Owned, Gives, KeepsDeals, Agree}
use Rattle.fsl_own.specs.Atoms.{Atom, Points, Init, Rel, Acq, RmwAcq, Tok, Auth, asked, demand, Has, IsInit}
use Rattle.fsl_own.proofs.Telling.{acquiring_read_tells, atomic_read_tells}
use Rattle.fsl_own.proofs.Totals.{only_here}
use Rattle.fsl_own.proofs.Owning.{alone, at_most}
use Rattle.fsl_ground.specs.Ground.{Meaning, Ground}
use Rattle.fsl_ground.specs.Changes.{with_out}
use Rattle.fsl_ground.proofs.Ground.{same_agrees, ground_by_quiet}
use Rattle.fsl_ground.proofs.Safety.{atomic_is_safe}
use Rattle.fsl_ground.proofs.Sources.{init_is_read}
use Rattle.fsl_ground.proofs.Cells.{frees_not, writes_not, source_of}
use Rattle.fsl_ground.proofs.Gaining.{cells_of, else_of, Gained, gain_part, out_split, out_agrees}
use Rattle.fsl_good.specs.Pieces.{Level, AtPlain, AtUp, AtDown, same_level, holder_of, Piece, placed, all_placed, plain, asked_at, demand_at, RightPieces, Fits, Entails, IsPossible}
use Rattle.fsl_good.specs.Good.{Gains, enough, gains, gaining, deal}
use Rattle.fsl_good.specs.Keeping.{Keeps, Acted}
use Rattle.fsl_good.proofs.Pieces.{demand_more, right_more, placed_right, fits_entailed, fits_possible}
use Rattle.fsl_good.proofs.Shifting.{pieces_stay, keeps_then}
use Rattle.fsl_good.proofs.Acting.{fits_later}
use Rattle.fsl_good.proofs.Fencing.{other_level}

-- ---- what placed atoms ask for

pub if_none : (b : Bool) → ◌≡◌ {A = ℕ} 0 (if b then 0 else 0)
if_none true = refl
if_none false = refl

if_sum : (b : Bool) (p q : ℕ) → (if b then p + q else 0) ≡ (if b then p else 0) + (if b then q else 0)
if_sum true p q = refl
if_sum false p q = refl

pub cells_placed : (l a : Level) (xs : List Atom) (c : ℤ) → demand_at a (all_placed l xs) (Cell c) ≡ (if same_level l a then demand xs (Cell c) else 0)
cells_placed l a [] c = if_none (same_level l a)
cells_placed l a (x ∷ xs) c = let e = cells_placed l a xs c in let f = one x in let s = if_sum (same_level l a) (asked x (Cell c)) (demand xs (Cell c)) in omega arith
  where
    both : (b d : Bool) → ◌≡◌ {A = ℕ} (if b then 0 else 0) (if d then 0 else 0)
    both b d = sym (if_none b) ∙ if_none d

    one : (x : Atom) → asked_at a (placed l x) (Cell c) ≡ (if same_level l a then asked x (Cell c) else 0)
    one (Points d n v) = refl
    one (Init d) = refl
    one (Rel d i ys) = both (same_level AtPlain a) (same_level l a)
    one (Acq d i ys p o) = both (same_level AtPlain a) (same_level l a)
    one (RmwAcq d i ys) = both (same_level AtPlain a) (same_level l a)
    one (Tok b n) = both (same_level AtPlain a) (same_level l a)
    one (Auth b n) = both (same_level AtPlain a) (same_level l a)

-- what is no cell stands at plain
abbrev IsElse : Resource → Type 0
IsElse (Cell c) = ⊥
IsElse (Permission l part) = Unit {0}
IsElse (Tokens b) = Unit {0}
IsElse (Bank b) = Unit {0}

not_of_cell : (c : ℤ) (n : ℕ) (r : Resource) → IsElse r → only (Cell c) n r ≡ 0
not_of_cell c n (Cell d) h = elim h [ ]
not_of_cell c n (Permission l part) h = refl
not_of_cell c n (Tokens b) h = refl
not_of_cell c n (Bank b) h = refl

pub else_placed : (l a : Level) (xs : List Atom) (r : Resource) → IsElse r → demand_at a (all_placed l xs) r ≡ (if same_level AtPlain a then demand xs r else 0)
else_placed l a [] r h = if_none (same_level AtPlain a)
else_placed l a (x ∷ xs) r h = let e = else_placed l a xs r h in let f = one x in let s = if_sum (same_level AtPlain a) (asked x r) (demand xs r) in omega arith
  where
    both : (b d : Bool) → ◌≡◌ {A = ℕ} (if b then 0 else 0) (if d then 0 else 0)
    both b d = sym (if_none b) ∙ if_none d

    one : (x : Atom) → asked_at a (placed l x) r ≡ (if same_level AtPlain a then asked x r else 0)
    one (Points d n v) = let z = not_of_cell d n r h in rw z (both (same_level l a) (same_level AtPlain a))
    one (Init d) = both (same_level l a) (same_level AtPlain a)
    one (Rel d i ys) = refl
    one (Acq d i ys p o) = refl
    one (RmwAcq d i ys) = refl
    one (Tok b n) = refl
    one (Auth b n) = refl

-- ---- what a thread has after a gain

pub level_no_message : (t m q : ℕ) (a : Level) → holder_of t a ≡ holder.Message m q → ⊥
level_no_message t m q AtPlain e = absurd (cc)
level_no_message t m q AtUp e = absurd (cc)
level_no_message t m q AtDown e = absurd (cc)

-- what a message gives to a level of the thread comes there
pub came_to : (t m q : ℕ) (l a : Level) (u v : World) (d : Heap) (r : Resource) → Gives u v (holder.Message m q) (holder_of t l) d → v (holder_of t a) r ≡ u (holder_of t a) r + (if same_level l a then d r else 0)
came_to t m q AtPlain AtPlain u v d r g = let lost = g.loses.others (holder.Plain t) r (level_no_message t m q AtPlain) in let won = g.gains.here r in omega arith
came_to t m q AtPlain AtUp u v d r g = let lost = g.loses.others (holder.Up t) r (level_no_message t m q AtUp) in let won = g.gains.others (holder.Up t) r (λ e. absurd (cc)) in omega arith
came_to t m q AtPlain AtDown u v d r g = let lost = g.loses.others (holder.Down t) r (level_no_message t m q AtDown) in let won = g.gains.others (holder.Down t) r (λ e. absurd (cc)) in omega arith
came_to t m q AtUp AtPlain u v d r g = let lost = g.loses.others (holder.Plain t) r (level_no_message t m q AtPlain) in let won = g.gains.others (holder.Plain t) r (λ e. absurd (cc)) in omega arith
came_to t m q AtUp AtUp u v d r g = let lost = g.loses.others (holder.Up t) r (level_no_message t m q AtUp) in let won = g.gains.here r in omega arith
came_to t m q AtUp AtDown u v d r g = let lost = g.loses.others (holder.Down t) r (level_no_message t m q AtDown) in let won = g.gains.others (holder.Down t) r (λ e. absurd (cc)) in omega arith
came_to t m q AtDown AtPlain u v d r g = let lost = g.loses.others (holder.Plain t) r (level_no_message t m q AtPlain) in let won = g.gains.others (holder.Plain t) r (λ e. absurd (cc)) in omega arith
came_to t m q AtDown AtUp u v d r g = let lost = g.loses.others (holder.Up t) r (level_no_message t m q AtUp) in let won = g.gains.others (holder.Up t) r (λ e. absurd (cc)) in omega arith
came_to t m q AtDown AtDown u v d r g = let lost = g.loses.others (holder.Down t) r (level_no_message t m q AtDown) in let won = g.gains.here r in omega arith

-- a holder of the thread has what it had, and what comes to it
arrived : (asks : Meaning) (g : Graph) (done : List ℕ) (k : Known) (w : World) (m t : ℕ) (l : Level) (c : ℤ) (q : ℕ) (v : ℤ) (d : Deal) (x : Gained asks g done k w m t (holder_of t l) c q v d) (a : Level) (r : Resource)
    → demand_at a (all_placed l x.atoms) r + w (holder_of t a) r ≤ x.world (holder_of t a) r
arrived asks g done k w m t l c q v d x a r =
    let first : x.mid (holder_of t a) r ≡ w (holder_of t a) r + (if same_level l a then cells_of x.atoms r else 0) = to_level x.cells in
    let second : x.world (holder_of t a) r ≡ x.mid (holder_of t a) r + (if same_level AtPlain a then else_of x.atoms r else 0) = to_plain x.others in
    let all = both r in
    omega arith
  where
    to_level : {u v : World} {d : Heap} → Gives u v (holder.Message m q) (holder_of t l) d → v (holder_of t a) r ≡ u (holder_of t a) r + (if same_level l a then d r else 0)
    to_level {u = u} {v = v} {d = d} g = came_to t m q l a u v d r g

    to_plain : {u v : World} {d : Heap} → Gives u v (holder.Message m q) (holder.Plain t) d → v (holder_of t a) r ≡ u (holder_of t a) r + (if same_level AtPlain a then d r else 0)
    to_plain {u = u} {v = v} {d = d} g = came_to t m q AtPlain a u v d r g

    both : (r : Resource) → demand_at a (all_placed l x.atoms) r ≡ (if same_level l a then cells_of x.atoms r else 0) + (if same_level AtPlain a then else_of x.atoms r else 0)
    both (Cell c) = let e = cells_placed l a x.atoms c in let z = if_none (same_level AtPlain a) in omega arith
    both (Permission p o) = let e = else_placed l a x.atoms (Permission p o) tt in let z = if_none (same_level l a) in omega arith
    both (Tokens b) = let e = else_placed l a x.atoms (Tokens b) tt in let z = if_none (same_level l a) in omega arith
    both (Bank b) = let e = else_placed l a x.atoms (Bank b) tt in let z = if_none (same_level l a) in omega arith

-- who has a permission in one piece asks for it nowhere else
one_permission : (g : Graph) (done : List ℕ) (k : Known) (w : World) (t : ℕ) (c : ℤ) (inv : ℕ) (args : List ℤ) (q : ℕ) (out : List ℤ) (rest : List Piece) → Owned g done k w
    → Fits g done k w t (plain (Acq c inv args q out) ∷ rest) → (a : Level) → 1 ≤ demand_at a rest (Permission c q) → ⊥
one_permission g done k w t c inv args q out rest x f AtPlain o =
    absurd (let m = f.enough AtPlain (Permission c q) in let one = only_here (Permission c q) 1 in let most = at_most g done k w x (holder.Plain t) (Permission c q) in omega arith)
one_permission g done k w t c inv args q out rest x f AtUp o =
    let m = f.enough AtPlain (Permission c q) in let one = only_here (Permission c q) 1 in let up = f.enough AtUp (Permission c q) in
    absurd (let e = alone g done k w x (holder.Plain t) (holder.Up t) (Permission c q) (omega arith) (omega arith) in cc)
one_permission g done k w t c inv args q out rest x f AtDown o =
    let m = f.enough AtPlain (Permission c q) in let one = only_here (Permission c q) 1 in let down = f.enough AtDown (Permission c q) in
    absurd (let e = alone g done k w x (holder.Plain t) (holder.Down t) (Permission c q) (omega arith) (omega arith) in cc)

-- other threads are as they were
gain_keeps : (asks : Meaning) (g : Graph) (done : List ℕ) (k : Known) (w : World) (m t : ℕ) (l : Level) (c : ℤ) (q : ℕ) (v : ℤ) (d : Deal) → Owned g done k w → 1 ≤ w (holder.Plain t) (Permission c q)
    → (x : Gained asks g done k w m t (holder_of t l) c q v d) → (u : ℕ) (a : Level) → (u ≡ t → ⊥) → Keeps k (with_out k c q v) w x.world (holder_of u a)
gain_keeps asks g done k w m t l c q v d owned has x u a n = record {
  grows = λ r.
      let e = x.cells.loses.others (holder_of u a) r (not_message a) in
      let f = x.cells.gains.others (holder_of u a) r (not_level a l) in
      let h = x.others.loses.others (holder_of u a) r (not_message a) in
      let i = x.others.gains.others (holder_of u a) r (not_level a AtPlain) in
      omega arith;
  agree = λ r o. out_agrees k c q v r (λ e. not_level a AtPlain (sym (alone g done k w owned (holder.Plain t) (holder_of u a) (Permission c q) has (subst (λ (y : Resource). 1 ≤ w (holder_of u a) y) e o))));
}
  where
    not_message : (a : Level) → holder_of u a ≡ holder.Message m q → ⊥
    not_message AtPlain e = absurd (cc)
    not_message AtUp e = absurd (cc)
    not_message AtDown e = absurd (cc)

    not_level : (a b : Level) → holder_of u a ≡ holder_of t b → ⊥
    not_level a b e = other_level u t a b n e

gain_each : (asks : Meaning) (g : Graph) (done : List ℕ) (m t : ℕ) (n : Mode) (l : Level) (c v : ℤ) (K : List Piece → Type 0) (k : Known) (w : World) (xs : List Piece) → Gains asks c v l K xs
    → Ground asks g done [] k w → Fits g done k w t xs → In m done → Writes g m n c v → ((q : ℕ) → Tells g done (holder.Message m q) (holder_of t l)) → Acted asks g done k w t K
gain_each asks g done m t n l c v K k w xs (enough next) x f past writes tells = record {
  known = k;
  world = w;
  ground = x;
  pieces = xs;
  fits = f;
  next = next;
  deals = λ j d e. e;
  others = λ u a o. record { grows = λ r. omega arith; agree = λ r i. same_agrees k r };
}
gain_each asks g done m t n l c v K k w xs (gains {rest = rest} inv args q out entails new more) x f past writes tells =
    let own = fits_entailed g done k w t xs (plain (Acq c inv args q out) ∷ rest) f entails in
    let one = only_here (Permission c q) 1 in
    let has : 1 ≤ w (holder.Plain t) (Permission c q) = let o = own.enough AtPlain (Permission c q) in omega arith in
    let h = gain_part asks g done k w m t n (holder_of t l) c q v (deal false inv args) x past writes own.right.0.0 refl has (λ i. new (own.right.0.1 v i)) (tells q) in
    let k' = with_out k c q v in
    let ys = plain (Acq c inv args q (v ∷ out)) ∷ all_placed l h.atoms ++ rest in
    let fits : Fits g done k' h.world t ys = record {
      enough = λ a r.
          let a1 = own.enough a r in
          let a2 = arrived asks g done k w m t l c q v (deal false inv args) h a r in
          let a3 = demand_more a (all_placed l h.atoms) rest r in
          omega arith;
      right = (
        (own.right.0.0, λ u i. elim (out_split k c q v u i) [ inl e ↦ inl e | inr j ↦ inr (own.right.0.1 u j) ]),
        right_more g done k' t (all_placed l h.atoms) rest (placed_right g done k' t l h.atoms h.right)
            (pieces_stay g done done k k' t rest (λ e i. i) (λ a e p. p) (λ j d e. e)
            (λ a r o. out_agrees k c q v r (λ e. one_permission g done k w t c inv args q out rest x.owned own a (subst (λ (y : Resource). 1 ≤ demand_at a rest y) e o))) own.right.1),
      );
    } in
    let go = gain_each asks g done m t n l c v K k' h.world ys (more h.atoms h.asked (fits_possible g done k' h.world t ys h.ground.owned fits)) h.ground fits past writes tells in
    record {
      known = go.known;
      world = go.world;
      ground = go.ground;
      pieces = go.pieces;
      fits = go.fits;
      next = go.next;
      deals = go.deals;
      others = λ u a o. keeps_then k k' go.known w h.world go.world (holder_of u a) (gain_keeps asks g done k w m t l c q v (deal false inv args) x.owned has h u a o) (go.others u a o);
    }

-- ---- the load

-- an atomic read tells the level at which it gains
pub read_tells : (g : Graph) (done : List ℕ) (e s : ℕ) (x : Event) (m : Mode) (c v : ℤ) → Comes g done e x → Reads g e m c v → is_atomic m ≡ true → Rf g s e → (q : ℕ)
    → Tells g (e ∷ done) (holder.Message s q) (holder_of x.thread (gaining m))
read_tells g done e s x m c v comes reads atomic from q = by_mode (acquires m) refl
  where
    by_mode : (b : Bool) → acquires m ≡ b → Tells g (e ∷ done) (holder.Message s q) (holder_of x.thread (if b then AtPlain else AtDown))
    by_mode true h = acquiring_read_tells g done s e x m c v q comes reads h from
    by_mode false h = atomic_read_tells g done s e x m c v q comes reads atomic from

pub atomic_load_acts : (asks : Meaning) (g : Graph) (done : List ℕ) (e : ℕ) (x : Event) (k : Known) (w : World) (m : Mode) (c v : ℤ) (K : List Piece → Type 0) (xs : List Piece) → IsConsistent g → IsDistinct g
    → Ground asks g done [] k w → Comes g done e x → x.label ≡ label.Load m c v → is_atomic m ≡ true → Fits g done k w x.thread xs → Entails xs (plain (Init c) ∷ [])
    → Gains asks c v (gaining m) K xs → Acted asks g (e ∷ done) k w x.thread K
atomic_load_acts asks g done e x k w m c v K xs consistent distinct ground comes is atomic f entails how =
    let own = fits_entailed g done k w x.thread xs (plain (Init c) ∷ []) f entails in
    let init : IsInit g done k (holder.Plain x.thread) c = own.right.0 in
    let reads : Reads g e m c v = record { event = x; is = comes.is; reads = ap read_by is } in
    let got = init_is_read g consistent done k e x m c v comes reads init in
    let accesses = ap access_by is ∙ ap (λ (b : Bool). Some (Accesses c b false)) atomic in
    let after = ground_by_quiet asks g done [] k w e x ground comes (record {
      frees_none = λ d h. frees_not g e x d comes.is (λ q. absurd (let y : label.Load m c v ≡ label.Free d = sym is ∙ q in cc)) h;
      uses = λ d h. absurd (let q = (one_access g e x h.event c d true false false h.changes (record { is = comes.is; accesses = accesses }) h.access).1 in cc);
      writes = λ d u b y h l. absurd (writes_not g e x b d u comes.is (ap written_by is) y);
    })
    (atomic_is_safe asks g done [] k w e x c false init.deal distinct ground comes.is accesses init.made (λ t q. (got.source, source_of g e x got.source comes.is got.from)))
    (λ d u b y q z. writes_not g e x y d u comes.is (ap written_by is) z)
    (λ d j u s. writes_not g e x s.mode j u comes.is (ap written_by is) s.writes) in
    gain_each asks g (e ∷ done) got.source x.thread got.mode (gaining m) c v K k w xs how after (fits_later g done e k w x.thread xs f) (inr got.past) got.writes
    (read_tells g done e got.source x m c v comes reads atomic got.from)
