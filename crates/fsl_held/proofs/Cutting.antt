-- Any part of what a thread has can be taken out.
use Rattle.std.proofs.Common.{◌≡◌, ◌≤◌, ◌+◌, ℕ, Bool, true, false, List, ◌++◌, ℤ, pos, negsuc, refl, sym, subst, ◌∙◌, arith}
use Rattle.fsl_core.specs.declared.mode.Rung.TheVariants.{Plain, Up, Down, Msg}
use Rattle.fsl_core.specs.logic.Chunks.{same_rung}
use Rattle.fsl_meaning.specs.Heaps.{Key, Key as key, Heap, Claim, IsInit, MayWrite, MayRead, MayUpdate, Knows, Needs, Agrees}
use Rattle.fsl_own.specs.Owning.{Resource, Cell, Permission, Tokens, Bank}
use Rattle.fsl_own.specs.Owning.{Heap as Amounts}
use Rattle.fsl_good.specs.Pieces.{Level, AtPlain, AtUp, AtDown, same_level, Piece, all_placed, demand_at, Entails, Yields, IsPossible}
use Rattle.fsl_own.proofs.Atoms.{demand_append, right_append}
use Rattle.fsl_good.proofs.Pieces.{demand_more, right_more, all_say}
use Rattle.fsl_held.specs.Heaps.{heap_of, truth_of, ground_of, value_in, Kept}
use Rattle.fsl_held.specs.Parts.{rung_of, HasCellsAt, is_claim_at, atoms_of, Cut}
use Rattle.fsl_held.specs.Laws.{HeapIsCut}
use Rattle.fsl_held.proofs.Cuts.{Values, level_of, given, rest, cut_sum, given_is}
use Rattle.fsl_held.proofs.Given.{EachOf, SaysPiece, each_says, all_say_by, given_each, rest_each, given_right, rest_right, given_held, rest_held, held_says, says_turn, values_known}
use Rattle.fsl_held.proofs.Given.{same_level_is, InPlace, given_placed, placed_again, placed_nowhere, given_knows, rest_knows}
use Rattle.fsl_held.proofs.Filled.{atoms_demand, parts_agree, deal_of, reads_known}

-- ---- a part of a heap, as amounts of resources

abbrev amounts : Level → Heap → Amounts
amounts a d (Cell l) = d (key.Cell (rung_of a) l)
amounts a d (Permission l p) = d (key.Permission l p)
amounts a d (Tokens b) = d (key.Tokens (pos b))
amounts a d (Bank b) = d (key.Bank (pos b))

cells_of_level : (b : Level) (xs : List Piece) (l : ℤ) → heap_of xs (key.Cell (rung_of b) l) ≡ demand_at b xs (Cell l)
cells_of_level AtPlain xs l = refl
cells_of_level AtUp xs l = refl
cells_of_level AtDown xs l = refl

amounts_here : (a : Level) (d : Heap) (xs : List Piece) → ((k : Key) → d k ≤ heap_of xs k) → (r : Resource) → amounts a d r ≤ demand_at (level_of a r) xs r
amounts_here a d xs h (Cell l) = let e = cells_of_level a xs l in let m = h (key.Cell (rung_of a) l) in omega (arith, e, m)
amounts_here a d xs h (Permission l p) = h (key.Permission l p)
amounts_here a d xs h (Tokens b) = h (key.Tokens (pos b))
amounts_here a d xs h (Bank b) = h (key.Bank (pos b))

abbrev given_of : Level → Heap → List Piece → List Piece
given_of a d xs = given (value_in xs) a (amounts a d) xs

abbrev rest_of : Level → Heap → List Piece → List Piece
rest_of a d xs = rest (value_in xs) a (amounts a d) xs

-- a heap is counted by levels and resources
heap_by : (xs ys zs : List Piece) → ((b : Level) (r : Resource) → demand_at b xs r + demand_at b ys r ≡ demand_at b zs r) → (k : Key) → heap_of xs k + heap_of ys k ≡ heap_of zs k
heap_by xs ys zs h (key.Cell Plain l) = h AtPlain (Cell l)
heap_by xs ys zs h (key.Cell Up l) = h AtUp (Cell l)
heap_by xs ys zs h (key.Cell Down l) = h AtDown (Cell l)
heap_by xs ys zs h (key.Cell Msg l) = omega arith
heap_by xs ys zs h (key.Permission l p) = h AtPlain (Permission l p)
heap_by xs ys zs h (key.Tokens (pos b)) = h AtPlain (Tokens b)
heap_by xs ys zs h (key.Tokens (negsuc b)) = omega arith
heap_by xs ys zs h (key.Bank (pos b)) = h AtPlain (Bank b)
heap_by xs ys zs h (key.Bank (negsuc b)) = omega arith

-- ---- the side that is given

same_level_rung : (a b : Level) → same_rung (rung_of b) (rung_of a) ≡ same_level a b
same_level_rung AtPlain AtPlain = refl
same_level_rung AtPlain AtUp = refl
same_level_rung AtPlain AtDown = refl
same_level_rung AtUp AtPlain = refl
same_level_rung AtUp AtUp = refl
same_level_rung AtUp AtDown = refl
same_level_rung AtDown AtPlain = refl
same_level_rung AtDown AtUp = refl
same_level_rung AtDown AtDown = refl

given_cells : (a : Level) (d : Heap) (xs : List Piece) → HasCellsAt (rung_of a) d → ((k : Key) → d k ≤ heap_of xs k) → (b : Level) (l : ℤ)
    → demand_at b (given_of a d xs) (Cell l) ≡ d (key.Cell (rung_of b) l)
given_cells a d xs one h b l = by_case (same_level a b) refl
  where
    by_case : (c : Bool) → same_level a b ≡ c → demand_at b (given_of a d xs) (Cell l) ≡ d (key.Cell (rung_of b) l)
    by_case true e =
        subst (λ (q : Level). demand_at q (given_of a d xs) (Cell l) ≡ d (key.Cell (rung_of q) l)) (same_level_is a b e)
        (given_is (value_in xs) a (amounts a d) xs (Cell l) (amounts_here a d xs h (Cell l)))
    by_case false e =
        placed_nowhere a b (given_of a d xs) (Cell l) e (given_placed (value_in xs) a (amounts a d) xs) ∙ sym (one (rung_of b) l (same_level_rung a b ∙ e))

given_taken : (a : Level) (d : Heap) (xs : List Piece) → HasCellsAt (rung_of a) d → ((k : Key) → d k ≤ heap_of xs k) → (k : Key)
    → heap_of (given_of a d xs) k ≡ d k
given_taken a d xs one h (key.Cell Plain l) = given_cells a d xs one h AtPlain l
given_taken a d xs one h (key.Cell Up l) = given_cells a d xs one h AtUp l
given_taken a d xs one h (key.Cell Down l) = given_cells a d xs one h AtDown l
given_taken a d xs one h (key.Cell Msg l) = let m : d (key.Cell Msg l) ≤ 0 = h (key.Cell Msg l) in omega (arith, m)
given_taken a d xs one h (key.Permission l p) = given_is (value_in xs) a (amounts a d) xs (Permission l p) (amounts_here a d xs h (Permission l p))
given_taken a d xs one h (key.Tokens (pos b)) = given_is (value_in xs) a (amounts a d) xs (Tokens b) (amounts_here a d xs h (Tokens b))
given_taken a d xs one h (key.Tokens (negsuc b)) = let m : d (key.Tokens (negsuc b)) ≤ 0 = h (key.Tokens (negsuc b)) in omega (arith, m)
given_taken a d xs one h (key.Bank (pos b)) = given_is (value_in xs) a (amounts a d) xs (Bank b) (amounts_here a d xs h (Bank b))
given_taken a d xs one h (key.Bank (negsuc b)) = let m : d (key.Bank (negsuc b)) ≤ 0 = h (key.Bank (negsuc b)) in omega (arith, m)

-- ---- what both sides know

-- leave to read stands where a permission is
leave_kept : (xs ys : List Piece) (p : IsPossible xs) → EachOf (SaysPiece p.known) ys → (h : Heap) → ((k : Key) → h k ≤ heap_of ys k) → (l : ℤ) (i : ℕ) (args : List ℤ)
    → Needs h (MayRead l i args) → Knows (ground_of xs) (MayRead l i args) → Knows (ground_of ys) (MayRead l i args)
leave_kept xs ys p s h e l i args n k =
    reads_known p.known ys l i args n.0 s (deal_of p.known xs l i args (each_says p.known xs p.agree) k) (let m = e (key.Permission l n.0) in let o = n.1 in omega (arith, m, o))

given_claims : (a : Level) (d : Heap) (xs : List Piece) (p : IsPossible xs) → EachOf (SaysPiece p.known) (given_of a d xs) → ((k : Key) → d k ≤ heap_of (given_of a d xs) k)
    → (c : Claim) → is_claim_at (rung_of a) c ≡ true → Needs d c → Knows (ground_of xs) c → Knows (ground_of (given_of a d xs)) c
given_claims a d xs p s h (IsInit r l) e n k = given_knows (value_in xs) a (amounts a d) xs (IsInit r l) tt e k
given_claims a d xs p s h (MayWrite l i args) e n k = given_knows (value_in xs) a (amounts a d) xs (MayWrite l i args) tt e k
given_claims a d xs p s h (MayUpdate l i args) e n k = given_knows (value_in xs) a (amounts a d) xs (MayUpdate l i args) tt e k
given_claims a d xs p s h (MayRead l i args) e n k = leave_kept xs (given_of a d xs) p s d h l i args n k

rest_claims : (a : Level) (d : Heap) (xs : List Piece) (p : IsPossible xs) → EachOf (SaysPiece p.known) (rest_of a d xs) → (h : Heap) → ((k : Key) → h k ≤ heap_of (rest_of a d xs) k)
    → (c : Claim) → Needs h c → Knows (ground_of xs) c → Knows (ground_of (rest_of a d xs)) c
rest_claims a d xs p s h e (IsInit r l) n k = rest_knows (value_in xs) a (amounts a d) xs (IsInit r l) tt k
rest_claims a d xs p s h e (MayWrite l i args) n k = rest_knows (value_in xs) a (amounts a d) xs (MayWrite l i args) tt k
rest_claims a d xs p s h e (MayUpdate l i args) n k = rest_knows (value_in xs) a (amounts a d) xs (MayUpdate l i args) tt k
rest_claims a d xs p s h e (MayRead l i args) n k = leave_kept xs (rest_of a d xs) p s h e l i args n k

-- ---- the cut

-- the same of a list of pieces that stand in place
record CutInto (a : Level) (d : Heap) (xs gs rs : List Piece) : Type 0 where
  gives : Entails xs (gs ++ rs)
  yields : Yields (atoms_of xs) (atoms_of gs ++ atoms_of rs)
  taken : (k : Key) → heap_of gs k ≡ d k
  left : (k : Key) → heap_of xs k ≡ heap_of rs k + d k
  agrees : Agrees (truth_of xs) (truth_of gs) d
  knows : (c : Claim) → is_claim_at (rung_of a) c ≡ true → Needs d c → Knows (ground_of xs) c → Knows (ground_of gs) c
  kept : Kept xs (heap_of rs) rs
  possible : IsPossible rs

cut_into : (a : Level) (d : Heap) (xs : List Piece) → IsPossible xs → HasCellsAt (rung_of a) d → ((k : Key) → d k ≤ heap_of xs k)
    → CutInto a d xs (given_of a d xs) (rest_of a d xs)
cut_into a d xs p one h =
    let f : Values = value_in xs in
    let n : Amounts = amounts a d in
    let gs : List Piece = given f a n xs in
    let rs : List Piece = rest f a n xs in
    let sum = cut_sum f a n xs in
    let taken = given_taken a d xs one h in
    let known = values_known p.known xs p.agree in
    let says = each_says p.known xs p.agree in
    let turn = says_turn f p.known known in
    let kept : EachOf (SaysPiece p.known) rs = rest_each f (SaysPiece p.known) (SaysPiece p.known) turn a n xs says in
    record {
      gives = record {
        enough = λ b r. let s = sum b r in let m = demand_more b gs rs r in omega (arith, s, m);
        right = λ g done k t q.
            let v = values_known k xs (all_say g done k t xs q) in
            right_more g done k t gs rs (given_right f g done k t v a n xs q) (rest_right f g done k t v a n xs q);
      };
      yields = record {
        enough = λ r.
            let all = atoms_demand xs r in
            let some = atoms_demand gs r in
            let others = atoms_demand rs r in
            let m = demand_append (atoms_of gs) (atoms_of rs) r in
            let s = sum AtPlain r in
            let t = sum AtUp r in
            let u = sum AtDown r in
            omega (arith, all, some, others, m, s, t, u);
        right = λ g done k h q.
            let v = values_known k xs (held_says g done k h xs q) in
            right_append g done k h (atoms_of gs) (atoms_of rs) (given_held f g done k h v a n xs q) (rest_held f g done k h v a n xs q);
      };
      taken = taken;
      left = λ k. let s = heap_by gs rs xs sum k in let t = taken k in omega (arith, s, t);
      agrees = parts_agree xs gs p (λ P Q t e. given_each f P Q t a n xs e) (λ r. let s = sum AtPlain r in omega (arith, s)) d (λ k. let t = taken k in omega (arith, t));
      knows = given_claims a d xs p (given_each f (SaysPiece p.known) (SaysPiece p.known) turn a n xs says) (λ k. let t = taken k in omega (arith, t));
      kept = record {
        knows = record { more = rest_claims a d xs p kept (heap_of rs) (λ k. omega arith) };
        agrees = parts_agree xs rs p (λ P Q t e. rest_each f P Q t a n xs e) (λ r. let s = sum AtPlain r in omega (arith, s)) (heap_of rs) (λ k. omega arith);
      };
      possible = record {
        known = p.known;
        within = λ r. let s = sum AtPlain r in let t = sum AtUp r in let u = sum AtDown r in let w = p.within r in omega (arith, s, t, u, w);
        agree = all_say_by p.known rs kept;
      };
    }

cut_of : (a : Level) (d : Heap) (xs gs rs : List Piece) → EachOf (InPlace a) gs → CutInto a d xs gs rs → Cut a d xs
cut_of a d xs gs rs p c =
    let e : gs ≡ all_placed a (atoms_of gs) = sym (placed_again a gs p) in
    let q : CutInto a d xs (all_placed a (atoms_of gs)) rs = subst (λ (zs : List Piece). CutInto a d xs zs rs) e c in
    record {
      atoms = atoms_of gs;
      rest = rs;
      is = record { gives = q.gives; yields = c.yields; taken = q.taken; left = q.left; agrees = q.agrees; knows = q.knows; kept = q.kept; possible = q.possible };
    }

pub heap_cut : HeapIsCut
heap_cut a d xs p one h = cut_of a d xs (given_of a d xs) (rest_of a d xs) (given_placed (value_in xs) a (amounts a d) xs) (cut_into a d xs p one h)
