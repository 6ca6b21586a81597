-- Pieces that one thread hands to another one, all at plain.
use Rattle.std.proofs.Common.{◌≡◌, ◌≤◌, ◌+◌, ℕ, zero, suc, Bool, true, false, ◌⊎◌, inl, inr, List, [], ◌∷◌, ◌++◌, Option, Some, None, ℤ, refl, sym, ap, subst, ◌∙◌, arith, if◌then◌else◌}
use Rattle.fsl_graph.specs.declared.graph.Graph.{Graph}
use Rattle.fsl_graph.specs.Positions.{Holder}
use Rattle.fsl_graph.specs.Positions.{Holder as holder}
use Rattle.fsl_own.specs.Knowledge.{Tells}
use Rattle.fsl_own.specs.Owning.{Resource, Heap, World, Known, Gives}
use Rattle.fsl_own.specs.Atoms.{Atom, demand}
use Rattle.fsl_own.proofs.Totals.{give_to}
use Rattle.fsl_own.proofs.Atoms.{stay_right}
use Rattle.fsl_ground.specs.Ground.{Meaning, Ground}
use Rattle.fsl_ground.proofs.Ground.{same_agrees, ground_by_giving}
use Rattle.fsl_ground.proofs.Gaining.{cells_of, else_of, in_two, grows}
use Rattle.fsl_good.specs.Pieces.{Level, AtPlain, AtUp, AtDown, same_level, holder_of, Piece, all_placed, demand_at, RightPieces, Fits}
use Rattle.fsl_good.specs.Keeping.{Keeps}
use Rattle.fsl_good.proofs.Pieces.{demand_more, right_more, right_last, right_placed, placed_right}
use Rattle.fsl_good.proofs.Fencing.{thread_free, other_level}
use Rattle.fsl_good.proofs.Sending.{both_placed}

pub plain_demand : (a : Level) (ys : List Atom) (r : Resource) → demand_at a (all_placed AtPlain ys) r ≡ (if same_level AtPlain a then demand ys r else 0)
plain_demand a ys r = at a (cells_of ys r) (else_of ys r) (demand ys r) (demand_at a (all_placed AtPlain ys) r) (in_two ys r) (both_placed AtPlain a ys r)
  where
    at : (a : Level) (p q s d : ℕ) → p + q ≡ s → d ≡ (if same_level AtPlain a then p else 0) + (if same_level AtPlain a then q else 0) → d ≡ (if same_level AtPlain a then s else 0)
    at AtPlain p q s d e h = h ∙ e
    at AtUp p q s d e h = omega (arith, h)
    at AtDown p q s d e h = omega (arith, h)

-- thread a gives atoms to thread b
pub record Given (asks : Meaning) (g : Graph) (done : List ℕ) (k : Known) (w : World) (a b : ℕ) (ys : List Atom) : Type 0 where
  pub world : World
  pub gift : Gives w world (holder.Plain a) (holder.Plain b) (demand ys)
  pub ground : Ground asks g done [] k world

plain_same : (a b : ℕ) → holder.Plain a ≡ holder.Plain b → a ≡ b
plain_same a b e = cc

pub give : (asks : Meaning) (g : Graph) (done : List ℕ) (k : Known) (w : World) (a b : ℕ) (ys : List Atom) → Ground asks g done [] k w → ((r : Resource) → demand ys r ≤ w (holder.Plain a) r)
    → Tells g done (holder.Plain a) (holder.Plain b) → Given asks g done k w a b ys
give asks g done k w a b ys x enough tells =
    let v = give_to w (holder.Plain a) (holder.Plain b) (demand ys) enough in
    record { world = v.0; gift = v.1; ground = ground_by_giving asks g done [] k w v.0 (holder.Plain a) (holder.Plain b) (demand ys) x v.1 (λ c o. tells) (thread_free g done [] k a AtPlain) }

-- what the giver has left
pub giver_at : (w v : World) (a b : ℕ) (d : Heap) (l : Level) (r : Resource) → (a ≡ b → ⊥) → Gives w v (holder.Plain a) (holder.Plain b) d → w (holder_of a l) r ≡ v (holder_of a l) r + (if same_level AtPlain l then d r else 0)
giver_at w v a b d AtPlain r n g = let p = g.loses.here r in let q = g.gains.others (holder.Plain a) r (λ e. n (plain_same a b e)) in omega arith
giver_at w v a b d AtUp r n g = let p = g.loses.others (holder.Up a) r (λ e. absurd (cc)) in let q = g.gains.others (holder.Up a) r (λ e. absurd (cc)) in omega arith
giver_at w v a b d AtDown r n g = let p = g.loses.others (holder.Down a) r (λ e. absurd (cc)) in let q = g.gains.others (holder.Down a) r (λ e. absurd (cc)) in omega arith

-- what the taker has
pub taker_at : (w v : World) (a b : ℕ) (d : Heap) (l : Level) (r : Resource) → (a ≡ b → ⊥) → Gives w v (holder.Plain a) (holder.Plain b) d → v (holder_of b l) r ≡ w (holder_of b l) r + (if same_level AtPlain l then d r else 0)
taker_at w v a b d AtPlain r n g = let p = g.loses.others (holder.Plain b) r (λ e. n (sym (plain_same b a e))) in let q = g.gains.here r in omega arith
taker_at w v a b d AtUp r n g = let p = g.loses.others (holder.Up b) r (λ e. absurd (cc)) in let q = g.gains.others (holder.Up b) r (λ e. absurd (cc)) in omega arith
taker_at w v a b d AtDown r n g = let p = g.loses.others (holder.Down b) r (λ e. absurd (cc)) in let q = g.gains.others (holder.Down b) r (λ e. absurd (cc)) in omega arith

-- who isn't the giver has no less
pub others_keep : (k : Known) (w v : World) (a b : ℕ) (d : Heap) (u : ℕ) (l : Level) → (u ≡ a → ⊥) → Gives w v (holder.Plain a) (holder.Plain b) d → Keeps k k w v (holder_of u l)
others_keep k w v a b d u l n g = record {
  grows = λ r. let p = g.loses.others (holder_of u l) r (other_level u a l AtPlain n) in let q = grows g.mid v (holder.Plain b) d (holder_of u l) r g.gains in omega arith;
  agree = λ r o. same_agrees k r;
}

-- the atoms are right for the taker
pub given_right : (g : Graph) (done : List ℕ) (k : Known) (a b : ℕ) (ys : List Atom) → Tells g done (holder.Plain a) (holder.Plain b) → RightPieces g done k a (all_placed AtPlain ys) → RightPieces g done k b (all_placed AtPlain ys)
given_right g done k a b ys tells p = placed_right g done k b AtPlain ys
    (stay_right g done done k k (λ h r. demand ys r) (holder.Plain a) (holder.Plain b) ys (λ e i. i) tells (λ l d q. q) (λ r o. same_agrees k r) (λ r. omega arith) (right_placed g done k a AtPlain ys p))

-- pieces of the giver in front go, and those behind stay
pub front_goes : (g : Graph) (done : List ℕ) (k : Known) (w v : World) (a b : ℕ) (ys : List Atom) (rest : List Piece) → (a ≡ b → ⊥) → Gives w v (holder.Plain a) (holder.Plain b) (demand ys)
    → Fits g done k w a (all_placed AtPlain ys ++ rest) → Fits g done k v a rest
front_goes g done k w v a b ys rest n gift f = record {
  enough = λ l r. let p = f.enough l r in let q = demand_more l (all_placed AtPlain ys) rest r in let s = plain_demand l ys r in let t = giver_at w v a b (demand ys) l r n gift in omega arith;
  right = right_last g done k a (all_placed AtPlain ys) rest f.right;
}

-- and come in front of the taker's
pub front_comes : (g : Graph) (done : List ℕ) (k : Known) (w v : World) (a b : ℕ) (ys : List Atom) (xs : List Piece) → (a ≡ b → ⊥) → Gives w v (holder.Plain a) (holder.Plain b) (demand ys)
    → RightPieces g done k b (all_placed AtPlain ys) → Fits g done k w b xs → Fits g done k v b (all_placed AtPlain ys ++ xs)
front_comes g done k w v a b ys xs n gift right f = record {
  enough = λ l r. let p = f.enough l r in let q = demand_more l (all_placed AtPlain ys) xs r in let s = plain_demand l ys r in let t = taker_at w v a b (demand ys) l r n gift in omega arith;
  right = right_more g done k b (all_placed AtPlain ys) xs right f.right;
}

-- pieces that fit go on fitting where a thread has no less
pub fits_more : (g : Graph) (done : List ℕ) (k : Known) (w v : World) (u : ℕ) (xs : List Piece) → ((l : Level) (r : Resource) → w (holder_of u l) r ≤ v (holder_of u l) r) → Fits g done k w u xs → Fits g done k v u xs
fits_more g done k w v u xs more f = record { enough = λ l r. let p = f.enough l r in let q = more l r in omega arith; right = f.right }

pub pieces_behind : (xs ys zs : List Piece) → (xs ++ ys) ++ zs ≡ xs ++ (ys ++ zs)
pieces_behind [] ys zs = refl
pieces_behind (x ∷ xs) ys zs = ap (λ (p : List Piece). x ∷ p) (pieces_behind xs ys zs)
