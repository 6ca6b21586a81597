-- Read-modify-writes: the message that was read is divided, and the new one is filled.
use Rattle.std.proofs.Common.{◌≡◌, ◌≤◌, ◌+◌, ℕ, Bool, true, false, ◌⊎◌, inl, inr, List, [], ◌∷◌, ◌++◌, Option, Some, None, ℤ, refl, sym, ap, subst, ◌∙◌, arith, if◌then◌else◌}
use Rattle.fsl_core.specs.declared.mode.Mode.{Mode}
use Rattle.fsl_graph.specs.declared.graph.Graph.{Graph}
use Rattle.fsl_graph.specs.Sequenced.{In}
use Rattle.fsl_graph.specs.Positions.{Holder}
use Rattle.fsl_graph.specs.Positions.{Holder as holder}
use Rattle.fsl_own.specs.Knowledge.{Tells}
use Rattle.fsl_own.specs.Owning.{Resource, Cell, Permission, Tokens, Bank, Heap, World, only, Known, Gives, TellsOf, KeepsDeals}
use Rattle.fsl_own.specs.Atoms.{Atom, Points, asked, demand, IsRight, AreRight, Holds}
use Rattle.fsl_own.proofs.Totals.{give_to}
use Rattle.fsl_own.proofs.Atoms.{demand_append, right_append, right_front, right_back, stay_right}
use Rattle.fsl_ground.specs.Ground.{Meaning, Ground, IsFree}
use Rattle.fsl_ground.proofs.Ground.{same_agrees, ground_by_giving, ground_by_joining}
use Rattle.fsl_ground.proofs.Gaining.{cells_of, else_of, in_two}
use Rattle.fsl_good.specs.Pieces.{Level, AtPlain, AtUp, AtDown, same_level, holder_of, Piece, all_placed, demand_at, RightPieces, Fits, Yields, Told}
use Rattle.fsl_good.specs.Good.{AllShares, Passes, giving, gaining}
use Rattle.fsl_good.specs.Keeping.{Keeps}
use Rattle.fsl_good.proofs.Pieces.{demand_more, right_more, placed_right, fits_entailed}
use Rattle.fsl_good.proofs.Shifting.{keeps_then}
use Rattle.fsl_good.proofs.Fencing.{other_level}
use Rattle.fsl_good.proofs.Gaining.{came_to, level_no_message}
use Rattle.fsl_good.proofs.Sending.{SentOne, send_one, sent_keeps, messages_grow, both_placed}

-- ---- gifts of a message

-- a message gives something to another holder
record Handed (asks : Meaning) (g : Graph) (done but : List ℕ) (k : Known) (w : World) (a b : Holder) (d : Heap) : Type 0 where
  world : World
  gift : Gives w world a b d
  ground : Ground asks g done but k world

hand : (asks : Meaning) (g : Graph) (done but : List ℕ) (k : Known) (w : World) (a b : Holder) (d : Heap) → Ground asks g done but k w → ((r : Resource) → d r ≤ w a r) → TellsOf g done a b d
    → IsFree g done but k a → Handed asks g done but k w a b d
hand asks g done but k w a b d x l tells free =
    let v = give_to w a b d l in record { world = v.0; gift = v.1; ground = ground_by_giving asks g done but k w v.0 a b d x v.1 tells free }

lost : (u v : World) (a b : Holder) (d : Heap) (r : Resource) → Gives u v a b d → (a ≡ b → ⊥) → u a r ≡ v a r + d r
lost u v a b d r g n = let p = g.loses.here r in let q = g.gains.others a r n in omega arith

won : (u v : World) (a b : Holder) (d : Heap) (r : Resource) → Gives u v a b d → (a ≡ b → ⊥) → v b r ≡ u b r + d r
won u v a b d r g n = let p = g.loses.others b r (λ e. n (sym e)) in let q = g.gains.here r in omega arith

apart : (u v : World) (a b h : Holder) (d : Heap) (r : Resource) → Gives u v a b d → (h ≡ a → ⊥) → (h ≡ b → ⊥) → v h r ≡ u h r
apart u v a b h d r g m n = let p = g.loses.others h r m in let q = g.gains.others h r n in omega arith

-- what is sent adds to the message
sent_adds : (asks : Meaning) (g : Graph) (done but : List ℕ) (k : Known) (w : World) (t e part : ℕ) (l : Level) (ys : List Atom) (rest : List Piece) (x : SentOne asks g done but k w t e part l ys rest) (r : Resource)
    → x.world (holder.Message e part) r ≡ w (holder.Message e part) r + demand ys r
sent_adds asks g done but k w t e part l ys rest x r =
    let a = won w x.mid (holder_of t l) (holder.Message e part) (cells_of ys) r x.cells (level_no_message t e part l) in
    let b = won x.mid x.world (holder.Plain t) (holder.Message e part) (else_of ys) r x.others (level_no_message t e part AtPlain) in
    let c = in_two ys r in
    omega arith

-- ---- shares

-- shares ask for cells alone
shares_else : (xs : List Atom) → AllShares xs → (r : Resource) → else_of xs r ≡ 0
shares_else xs s (Cell c) = refl
shares_else xs s (Permission l q) = none xs s
  where
    none : (xs : List Atom) → AllShares xs → demand xs (Permission l q) ≡ 0
    none [] s = refl
    none (x ∷ xs) s =
        let e = none xs s.4 in
        let z : asked x (Permission l q) ≡ 0 = subst (λ (y : Atom). asked y (Permission l q) ≡ 0) (sym s.3) refl in
        omega arith
shares_else xs s (Tokens b) = none xs s
  where
    none : (xs : List Atom) → AllShares xs → demand xs (Tokens b) ≡ 0
    none [] s = refl
    none (x ∷ xs) s =
        let e = none xs s.4 in
        let z : asked x (Tokens b) ≡ 0 = subst (λ (y : Atom). asked y (Tokens b) ≡ 0) (sym s.3) refl in
        omega arith
shares_else xs s (Bank b) = none xs s
  where
    none : (xs : List Atom) → AllShares xs → demand xs (Bank b) ≡ 0
    none [] s = refl
    none (x ∷ xs) s =
        let e = none xs s.4 in
        let z : asked x (Bank b) ≡ 0 = subst (λ (y : Atom). asked y (Bank b) ≡ 0) (sym s.3) refl in
        omega arith

-- and are as right for one holder as for another
share_right : (g : Graph) (done : List ℕ) (k : Known) (h h' : Holder) (c : ℤ) (n : ℕ) (v : Option ℤ) → IsRight g done k h (Points c n v) → IsRight g done k h' (Points c n v)
share_right g done k h h' c n None p = p
share_right g done k h h' c n (Some v) p = p

shares_right : (g : Graph) (done : List ℕ) (k : Known) (h h' : Holder) (xs : List Atom) → AllShares xs → AreRight g done k h xs → AreRight g done k h' xs
shares_right g done k h h' [] s p = tt
shares_right g done k h h' (x ∷ xs) s p = (
  subst (λ (y : Atom). IsRight g done k h' y) (sym s.3) (share_right g done k h h' s.0 s.1 s.2 (subst (λ (y : Atom). IsRight g done k h y) s.3 p.0)),
  shares_right g done k h h' xs s.4 p.1,
)

-- ---- the passing

-- the old message s and the new one e, where a thread reads the one and writes the other
pub record Both (g : Graph) (done : List ℕ) (k : Known) (t e s : ℕ) (m : Mode) : Type 0 where
  pub apart : s ≡ e → ⊥
  pub free : IsFree g done (e ∷ []) k (holder.Message s 0)
  pub on : Tells g done (holder.Message s 0) (holder.Message e 0)
  pub writes : Tells g done (holder_of t (giving m)) (holder.Message e 0)
  pub reads : Tells g done (holder.Message s 0) (holder_of t (gaining m))

pub record Passed (asks : Meaning) (g : Graph) (done : List ℕ) (k : Known) (w : World) (t e : ℕ) (xs : List Piece) (atoms : List Atom) : Type 0 where
  pub world : World
  pub ground : Ground asks g done (e ∷ []) k world
  pub fits : Fits g done k world t xs
  pub holds : Holds g done k world (holder.Message e 0) atoms
  pub others : (u : ℕ) (a : Level) → (u ≡ t → ⊥) → Keeps k k w world (holder_of u a)

message_same : (s e : ℕ) → holder.Message s 0 ≡ holder.Message e 0 → s ≡ e
message_same s e q = cc

-- pieces fit where the thread has what it had
same_fits : (g : Graph) (done : List ℕ) (k : Known) (w v : World) (t : ℕ) (xs : List Piece) → ((a : Level) (r : Resource) → v (holder_of t a) r ≡ w (holder_of t a) r) → Fits g done k w t xs → Fits g done k v t xs
same_fits g done k w v t xs same f = record { enough = λ a r. let p = same a r in let q = f.enough a r in omega arith; right = f.right }

same_keeps : (k : Known) (w v : World) (h : Holder) → ((r : Resource) → v h r ≡ w h r) → Keeps k k w v h
same_keeps k w v h same = record { grows = λ r. let p = same r in omega arith; agree = λ r o. same_agrees k r }

-- shares at plain ask for what they ask for
plain_cells : (a : Level) (cells rest all : ℕ) → rest ≡ 0 → cells + rest ≡ all → (if same_level AtPlain a then cells else 0) + (if same_level AtPlain a then rest else 0) ≡ (if same_level AtPlain a then all else 0)
plain_cells AtPlain cells rest all z e = e
plain_cells AtUp cells rest all z e = omega arith
plain_cells AtDown cells rest all z e = omega arith

-- the new message has what goes on to it
record OnGiven (asks : Meaning) (g : Graph) (done : List ℕ) (k : Known) (w : World) (e s : ℕ) (on kept joins : List Atom) : Type 0 where
  world : World
  ground : Ground asks g done (e ∷ []) k world
  filled : (r : Resource) → demand on r ≤ world (holder.Message e 0) r
  left : (r : Resource) → demand kept r + demand joins r ≤ world (holder.Message s 0) r
  levels : (u : ℕ) (a : Level) (r : Resource) → world (holder_of u a) r ≡ w (holder_of u a) r

give_on : (asks : Meaning) (g : Graph) (done : List ℕ) (k : Known) (w : World) (t e s : ℕ) (m : Mode) (on kept joins : List Atom) → Both g done k t e s m → Ground asks g done (e ∷ []) k w
    → ((r : Resource) → demand on r + (demand kept r + demand joins r) ≤ w (holder.Message s 0) r) → OnGiven asks g done k w e s on kept joins
give_on asks g done k w t e s m on kept joins both x all =
    from (hand asks g done (e ∷ []) k w (holder.Message s 0) (holder.Message e 0) (demand on) x (λ r. let a = all r in omega arith) (λ c o. both.on) both.free)
  where
    from : Handed asks g done (e ∷ []) k w (holder.Message s 0) (holder.Message e 0) (demand on) → OnGiven asks g done k w e s on kept joins
    from one = record {
      world = one.world;
      ground = one.ground;
      filled = λ r. let a = won w one.world (holder.Message s 0) (holder.Message e 0) (demand on) r one.gift (λ q. both.apart (message_same s e q)) in omega arith;
      left = λ r. let a = all r in let b = lost w one.world (holder.Message s 0) (holder.Message e 0) (demand on) r one.gift (λ q. both.apart (message_same s e q)) in omega arith;
      levels = λ u a r. apart w one.world (holder.Message s 0) (holder.Message e 0) (holder_of u a) (demand on) r one.gift (level_no_message u s 0 a) (level_no_message u e 0 a);
    }

-- and what the thread adds
record MineGiven (asks : Meaning) (g : Graph) (done : List ℕ) (k : Known) (w : World) (t e s : ℕ) (on kept joins mine : List Atom) (rest : List Piece) : Type 0 where
  world : World
  ground : Ground asks g done (e ∷ []) k world
  fits : Fits g done k world t rest
  filled : (r : Resource) → demand on r + demand mine r ≤ world (holder.Message e 0) r
  left : (r : Resource) → demand kept r + demand joins r ≤ world (holder.Message s 0) r
  right : AreRight g done k (holder.Message e 0) mine
  others : (u : ℕ) (a : Level) → (u ≡ t → ⊥) → Keeps k k w world (holder_of u a)

give_mine : (asks : Meaning) (g : Graph) (done : List ℕ) (k : Known) (w : World) (t e s : ℕ) (m : Mode) (on kept joins mine : List Atom) (rest : List Piece) → Both g done k t e s m
    → OnGiven asks g done k w e s on kept joins → Fits g done k w t (all_placed (giving m) mine ++ rest) → MineGiven asks g done k w t e s on kept joins mine rest
give_mine asks g done k w t e s m on kept joins mine rest both one f =
    from (send_one asks g done (e ∷ []) k one.world t e 0 (giving m) mine rest one.ground (same_fits g done k w one.world t (all_placed (giving m) mine ++ rest) (λ a r. one.levels t a r) f) both.writes)
  where
    from : SentOne asks g done (e ∷ []) k one.world t e 0 (giving m) mine rest → MineGiven asks g done k w t e s on kept joins mine rest
    from two = record {
      world = two.world;
      ground = two.ground;
      fits = two.fits;
      filled = λ r. let a = one.filled r in let b = sent_adds asks g done (e ∷ []) k one.world t e 0 (giving m) mine rest two r in omega arith;
      left = λ r. let a = one.left r in let b = messages_grow asks g done (e ∷ []) k one.world t e 0 (giving m) mine rest two s 0 r in omega arith;
      right = two.holds.right;
      others = λ u a n. keeps_then k k k w one.world two.world (holder_of u a) (same_keeps k w one.world (holder_of u a) (one.levels u a)) (sent_keeps asks g done (e ∷ []) k one.world t e 0 (giving m) mine rest two u a n);
    }

-- the old message gives to a level of the thread, and to plain what is no cell
record KeptGiven (asks : Meaning) (g : Graph) (done : List ℕ) (k : Known) (w : World) (t e s : ℕ) (l : Level) (kept joins : List Atom) : Type 0 where
  world : World
  ground : Ground asks g done (e ∷ []) k world
  left : (r : Resource) → demand joins r ≤ world (holder.Message s 0) r
  message : (r : Resource) → world (holder.Message e 0) r ≡ w (holder.Message e 0) r
  came : (a : Level) (r : Resource) → world (holder_of t a) r ≡ w (holder_of t a) r + ((if same_level l a then cells_of kept r else 0) + (if same_level AtPlain a then else_of kept r else 0))
  others : (u : ℕ) (a : Level) → (u ≡ t → ⊥) → (r : Resource) → world (holder_of u a) r ≡ w (holder_of u a) r

give_kept : (asks : Meaning) (g : Graph) (done : List ℕ) (k : Known) (w : World) (t e s : ℕ) (l : Level) (kept joins : List Atom) → (s ≡ e → ⊥) → IsFree g done (e ∷ []) k (holder.Message s 0)
    → Tells g done (holder.Message s 0) (holder_of t l) → Ground asks g done (e ∷ []) k w → ((r : Resource) → demand kept r + demand joins r ≤ w (holder.Message s 0) r)
    → KeptGiven asks g done k w t e s l kept joins
give_kept asks g done k w t e s l kept joins differ free tells x enough =
    first (hand asks g done (e ∷ []) k w (holder.Message s 0) (holder_of t l) (cells_of kept) x (λ r. let a = enough r in let b = in_two kept r in omega arith) (λ c o. tells) free)
  where
    level : (a : Level) → holder.Message s 0 ≡ holder_of t a → ⊥
    level a q = level_no_message t s 0 a (sym q)

    new : (a : Level) → holder.Message e 0 ≡ holder_of t a → ⊥
    new a q = level_no_message t e 0 a (sym q)

    old : holder.Message e 0 ≡ holder.Message s 0 → ⊥
    old q = differ (sym (message_same e s q))

    second : (one : Handed asks g done (e ∷ []) k w (holder.Message s 0) (holder_of t l) (cells_of kept)) → Handed asks g done (e ∷ []) k one.world (holder.Message s 0) (holder.Plain t) (else_of kept)
        → KeptGiven asks g done k w t e s l kept joins
    second one two = record {
      world = two.world;
      ground = two.ground;
      left = λ r.
          let a = enough r in
          let b = in_two kept r in
          let c = lost w one.world (holder.Message s 0) (holder_of t l) (cells_of kept) r one.gift (level l) in
          let d = lost one.world two.world (holder.Message s 0) (holder.Plain t) (else_of kept) r two.gift (level AtPlain) in
          omega arith;
      message = λ r.
          let a = apart w one.world (holder.Message s 0) (holder_of t l) (holder.Message e 0) (cells_of kept) r one.gift old (new l) in
          let b = apart one.world two.world (holder.Message s 0) (holder.Plain t) (holder.Message e 0) (else_of kept) r two.gift old (new AtPlain) in
          omega arith;
      came = λ a r.
          let b = came_to t s 0 l a w one.world (cells_of kept) r one.gift in
          let c = came_to t s 0 AtPlain a one.world two.world (else_of kept) r two.gift in
          omega arith;
      others = λ u a n r.
          let b = apart w one.world (holder.Message s 0) (holder_of t l) (holder_of u a) (cells_of kept) r one.gift (level_no_message u s 0 a) (other_level u t a l n) in
          let c = apart one.world two.world (holder.Message s 0) (holder.Plain t) (holder_of u a) (else_of kept) r two.gift (level_no_message u s 0 a) (other_level u t a AtPlain n) in
          omega arith;
    }

    first : Handed asks g done (e ∷ []) k w (holder.Message s 0) (holder_of t l) (cells_of kept) → KeptGiven asks g done k w t e s l kept joins
    first one = second one (hand asks g done (e ∷ []) k one.world (holder.Message s 0) (holder.Plain t) (else_of kept) one.ground
        (λ r. let a = enough r in let b = in_two kept r in let c = lost w one.world (holder.Message s 0) (holder_of t l) (cells_of kept) r one.gift (level l) in omega arith)
        (λ c o. absurd (let z : else_of kept (Cell c) ≡ 0 = refl in omega arith)) free)

-- shares join plain ones of their cells
record JoinsGiven (asks : Meaning) (g : Graph) (done : List ℕ) (k : Known) (w : World) (t e : ℕ) (joins : List Atom) : Type 0 where
  world : World
  ground : Ground asks g done (e ∷ []) k world
  message : (r : Resource) → world (holder.Message e 0) r ≡ w (holder.Message e 0) r
  came : (a : Level) (r : Resource) → world (holder_of t a) r ≡ w (holder_of t a) r + (if same_level AtPlain a then demand joins r else 0)
  others : (u : ℕ) (a : Level) → (u ≡ t → ⊥) → (r : Resource) → world (holder_of u a) r ≡ w (holder_of u a) r

give_joins : (asks : Meaning) (g : Graph) (done : List ℕ) (k : Known) (w : World) (t e s : ℕ) (joins : List Atom) → (s ≡ e → ⊥) → IsFree g done (e ∷ []) k (holder.Message s 0)
    → Tells g done (holder.Message s 0) (holder.Message e 0) → Ground asks g done (e ∷ []) k w → ((r : Resource) → demand joins r ≤ w (holder.Message s 0) r)
    → ((c : ℤ) → 1 ≤ demand joins (Cell c) → (1 ≤ w (holder.Plain t) (Cell c)) × (1 ≤ w (holder.Message e 0) (Cell c))) → JoinsGiven asks g done k w t e joins
give_joins asks g done k w t e s joins differ free tells x enough joined = from (give_to w (holder.Message s 0) (holder.Plain t) (demand joins) enough)
  where
    same : (v : World) → Gives w v (holder.Message s 0) (holder.Plain t) (demand joins) → (r : Resource) → v (holder.Message e 0) r ≡ w (holder.Message e 0) r
    same v gift r = apart w v (holder.Message s 0) (holder.Plain t) (holder.Message e 0) (demand joins) r gift (λ q. differ (sym (message_same e s q))) (λ q. level_no_message t e 0 AtPlain (sym q))

    from : (v : World) × Gives w v (holder.Message s 0) (holder.Plain t) (demand joins) → JoinsGiven asks g done k w t e joins
    from v = record {
      world = v.0;
      ground = ground_by_joining asks g done (e ∷ []) k w v.0 (holder.Message s 0) (holder.Plain t) (demand joins) x v.1 (λ c o. (joined c o).0)
          (λ c o. (holder.Message e 0, (let a = (joined c o).1 in let b = same v.0 v.1 (Cell c) in omega arith), tells)) free;
      message = same v.0 v.1;
      came = λ a r. came_to t s 0 AtPlain a w v.0 (demand joins) r v.1;
      others = λ u a n r. apart w v.0 (holder.Message s 0) (holder.Plain t) (holder_of u a) (demand joins) r v.1 (level_no_message u s 0 a) (other_level u t a AtPlain n);
    }

-- what is right of the parts of the old message, where they go
record PartsRight (g : Graph) (done : List ℕ) (k : Known) (t e : ℕ) (l : Level) (on kept joins : List Atom) : Type 0 where
  on_right : AreRight g done k (holder.Message e 0) on
  kept_right : AreRight g done k (holder_of t l) kept
  joins_right : AreRight g done k (holder.Plain t) joins

parts_right : (g : Graph) (done : List ℕ) (k : Known) (t e s : ℕ) (l : Level) (on kept joins : List Atom) → AllShares joins → Tells g done (holder.Message s 0) (holder.Message e 0)
    → Tells g done (holder.Message s 0) (holder_of t l) → AreRight g done k (holder.Message s 0) (on ++ (kept ++ joins)) → PartsRight g done k t e l on kept joins
parts_right g done k t e s l on kept joins shares tells reads right = record {
  on_right = moved (holder.Message e 0) on tells (right_front g done k (holder.Message s 0) on (kept ++ joins) right);
  kept_right = moved (holder_of t l) kept reads (right_front g done k (holder.Message s 0) kept joins behind);
  joins_right = shares_right g done k (holder.Message s 0) (holder.Plain t) joins shares (right_back g done k (holder.Message s 0) kept joins behind);
}
  where
    behind : AreRight g done k (holder.Message s 0) (kept ++ joins)
    behind = right_back g done k (holder.Message s 0) on (kept ++ joins) right

    moved : (h : Holder) (xs : List Atom) → Tells g done (holder.Message s 0) h → AreRight g done k (holder.Message s 0) xs → AreRight g done k h xs
    moved h xs t p = stay_right g done done k k (λ h r. demand xs r) (holder.Message s 0) h xs (λ i q. q) t (λ j d q. q) (λ r o. same_agrees k r) (λ r. omega arith) p

-- the parts together
joined_up : (asks : Meaning) (g : Graph) (done : List ℕ) (k : Known) (w : World) (t e s : ℕ) (l : Level) (on kept joins mine : List Atom) (rest : List Piece) (atoms : List Atom) → Yields (on ++ mine) atoms → AllShares joins
    → PartsRight g done k t e l on kept joins → (two : MineGiven asks g done k w t e s on kept joins mine rest) → (four : KeptGiven asks g done k two.world t e s l kept joins)
    → JoinsGiven asks g done k four.world t e joins → Passed asks g done k w t e (all_placed l kept ++ (all_placed AtPlain joins ++ rest)) atoms
joined_up asks g done k w t e s l on kept joins mine rest atoms meets shares parts two four five = record {
  world = five.world;
  ground = five.ground;
  fits = record {
    enough = λ a r.
        let b = four.came a r in
        let b2 = five.came a r in
        let c = demand_more a (all_placed l kept) (all_placed AtPlain joins ++ rest) r in
        let d = demand_more a (all_placed AtPlain joins) rest r in
        let h = both_placed l a kept r in
        let i = both_placed AtPlain a joins r in
        let j = two.fits.enough a r in
        let q = plain_cells a (cells_of joins r) (else_of joins r) (demand joins r) (shares_else joins shares r) (in_two joins r) in
        omega arith;
    right = right_more g done k t (all_placed l kept) (all_placed AtPlain joins ++ rest) (placed_right g done k t l kept parts.kept_right)
        (right_more g done k t (all_placed AtPlain joins) rest (placed_right g done k t AtPlain joins parts.joins_right) two.fits.right);
  };
  holds = record {
    enough = λ r. let a = meets.enough r in let b = two.filled r in let c = demand_append on mine r in let d = four.message r in let h = five.message r in omega arith;
    right = meets.right g done k (holder.Message e 0) (right_append g done k (holder.Message e 0) on mine parts.on_right two.right);
  };
  others = λ u a n. keeps_then k k k w two.world five.world (holder_of u a) (two.others u a n)
      (same_keeps k two.world five.world (holder_of u a) (λ r. let b = four.others u a n r in let c = five.others u a n r in omega arith));
}

-- what is told to each other is had, as what was there before
both_told : (g : Graph) (done : List ℕ) (k : Known) (w : World) (t : ℕ) (h : Holder) (pool : List Atom) (xs : List Piece) (message : List Atom) (thread : List Piece) → Told pool xs message thread
    → Holds g done k w h pool → Fits g done k w t xs → Fits g done k w t thread × Holds g done k w h message
both_told g done k w t h pool xs message thread told held f =
    let said = told.right g done k h t held.right f.right in (
      record { enough = λ a r. let x = told.of_thread a r in let y = f.enough a r in omega arith; right = said.1 },
      record {
        enough = λ r. let x = told.of_message r in let y = held.enough r in omega arith;
        right = said.0;
      },
    )

pub pass_on : (asks : Meaning) (g : Graph) (done : List ℕ) (k : Known) (w : World) (t e s : ℕ) (m : Mode) (new : ℤ) (inv : ℕ) (args : List ℤ) (K : List Piece → Type 0) (pool : List Atom) (zs : List Piece)
    → Both g done k t e s m → Ground asks g done (e ∷ []) k w → Fits g done k w t zs → Holds g done k w (holder.Message s 0) pool → (p : Passes asks m new inv args K pool zs)
    → Passed asks g done k w t e (all_placed (gaining m) p.kept ++ (all_placed AtPlain p.joins ++ p.rest)) p.atoms
pass_on asks g done k w t e s m new inv args K pool zs both x f held p =
    from (give_mine asks g done k w t e s m p.on p.kept p.joins p.mine p.rest both (give_on asks g done k w t e s m p.on p.kept p.joins both x all)
    (fits_entailed g done k w t p.thread (all_placed (giving m) p.mine ++ p.rest) told.0 p.gives))
  where
    told : Fits g done k w t p.thread × Holds g done k w (holder.Message s 0) p.message
    told = both_told g done k w t (holder.Message s 0) pool zs p.message p.thread p.told held f

    all : (r : Resource) → demand p.on r + (demand p.kept r + demand p.joins r) ≤ w (holder.Message s 0) r
    all r = let a = p.divides.enough r in let b = told.1.enough r in let c = demand_append p.on (p.kept ++ p.joins) r in let d = demand_append p.kept p.joins r in omega arith

    last : (two : MineGiven asks g done k w t e s p.on p.kept p.joins p.mine p.rest) → KeptGiven asks g done k two.world t e s (gaining m) p.kept p.joins
        → Passed asks g done k w t e (all_placed (gaining m) p.kept ++ (all_placed AtPlain p.joins ++ p.rest)) p.atoms
    last two four = joined_up asks g done k w t e s (gaining m) p.on p.kept p.joins p.mine p.rest p.atoms p.meets p.shares
        (parts_right g done k t e s (gaining m) p.on p.kept p.joins p.shares both.on both.reads (p.divides.right g done k (holder.Message s 0) told.1.right)) two four
        (give_joins asks g done k four.world t e s p.joins both.apart both.free both.on four.ground four.left (λ c o. (
          (let a = (p.joined c o).0 in let b = two.fits.enough AtPlain (Cell c) in let d = four.came AtPlain (Cell c) in omega arith),
          (let a = (p.joined c o).1 in let b = two.filled (Cell c) in let d = four.message (Cell c) in omega arith),
        )))

    from : MineGiven asks g done k w t e s p.on p.kept p.joins p.mine p.rest → Passed asks g done k w t e (all_placed (gaining m) p.kept ++ (all_placed AtPlain p.joins ++ p.rest)) p.atoms
    from two = last two (give_kept asks g done k two.world t e s (gaining m) p.kept p.joins both.apart both.free both.reads two.ground two.left)
