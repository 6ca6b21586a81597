-- Pieces against worlds: what a list of pieces asks for at each level, and what is right of it.
use Rattle.std.proofs.Common.{◌≡◌, ◌≤◌, ◌+◌, ℕ, Bool, true, false, ◌⊎◌, inl, inr, List, [], ◌∷◌, ◌++◌, Option, Some, None, ℤ, refl, sym, ap, subst, ◌∙◌, arith, if◌then◌else◌}
use Rattle.fsl_graph.specs.declared.graph.Graph.{Graph}
use Rattle.fsl_graph.specs.Positions.{Holder}
use Rattle.fsl_graph.specs.Positions.{Holder as holder}
use Rattle.fsl_own.specs.Owning.{Resource, Cell, Permission, Tokens, Bank, Heap, World, only, Known, limit, Owned}
use Rattle.fsl_own.specs.Atoms.{Atom, Points, Init, Rel, Acq, RmwAcq, Tok, Auth, asked, demand, Says, IsInit, IsRight, AreRight}
use Rattle.fsl_own.proofs.Totals.{none_or_some, total_three, total_four}
use Rattle.fsl_own.proofs.Owning.{at_most, two_at_most}
use Rattle.fsl_good.specs.Laws.{FitsEntailed, FitsPossible}
use Rattle.fsl_good.specs.Pieces.{Level, AtPlain, AtUp, AtDown, same_level, holder_of, Piece, level_at, placed, all_placed, plain, asked_at, demand_at, RightPieces, Fits, Entails, Yields, AllSay, IsPossible}

-- ---- lists

pub demand_more : (a : Level) (xs ys : List Piece) (r : Resource) → demand_at a (xs ++ ys) r ≡ demand_at a xs r + demand_at a ys r
demand_more a [] ys r = omega arith
demand_more a (x ∷ xs) ys r = let e = demand_more a xs ys r in omega arith

pub right_more : (g : Graph) (done : List ℕ) (k : Known) (t : ℕ) (xs ys : List Piece) → RightPieces g done k t xs → RightPieces g done k t ys → RightPieces g done k t (xs ++ ys)
right_more g done k t [] ys p q = q
right_more g done k t (x ∷ xs) ys p q = (p.0, right_more g done k t xs ys p.1 q)

pub right_first : (g : Graph) (done : List ℕ) (k : Known) (t : ℕ) (xs ys : List Piece) → RightPieces g done k t (xs ++ ys) → RightPieces g done k t xs
right_first g done k t [] ys p = tt
right_first g done k t (x ∷ xs) ys p = (p.0, right_first g done k t xs ys p.1)

pub right_last : (g : Graph) (done : List ℕ) (k : Known) (t : ℕ) (xs ys : List Piece) → RightPieces g done k t (xs ++ ys) → RightPieces g done k t ys
right_last g done k t [] ys p = p
right_last g done k t (x ∷ xs) ys p = right_last g done k t xs ys p.1

-- ---- atoms that are placed

-- shares of cells stand at the level
pub placed_cells : (a : Level) (xs : List Atom) (c : ℤ) → demand_at a (all_placed a xs) (Cell c) ≡ demand xs (Cell c)
placed_cells a [] c = refl
placed_cells a (x ∷ xs) c = let e = placed_cells a xs c in let f = one a x in omega arith
  where
    one : (a : Level) (x : Atom) → asked_at a (placed a x) (Cell c) ≡ asked x (Cell c)
    one AtPlain (Points l n v) = refl
    one AtUp (Points l n v) = refl
    one AtDown (Points l n v) = refl
    one AtPlain (Init l) = refl
    one AtUp (Init l) = refl
    one AtDown (Init l) = refl
    one AtPlain (Rel l i xs) = refl
    one AtUp (Rel l i xs) = refl
    one AtDown (Rel l i xs) = refl
    one AtPlain (Acq l i xs p o) = refl
    one AtUp (Acq l i xs p o) = refl
    one AtDown (Acq l i xs p o) = refl
    one AtPlain (RmwAcq l i xs) = refl
    one AtUp (RmwAcq l i xs) = refl
    one AtDown (RmwAcq l i xs) = refl
    one AtPlain (Tok b n) = refl
    one AtUp (Tok b n) = refl
    one AtDown (Tok b n) = refl
    one AtPlain (Auth b n) = refl
    one AtUp (Auth b n) = refl
    one AtDown (Auth b n) = refl

-- what is right at the level's holder is right where it is placed, and the other way
one_placed : (g : Graph) (done : List ℕ) (k : Known) (t : ℕ) (a : Level) (x : Atom) → IsRight g done k (holder_of t a) x → IsRight g done k (holder_of t (level_at a x)) x
one_placed g done k t a (Points c n None) p = p
one_placed g done k t a (Points c n (Some v)) p = p
one_placed g done k t a (Init l) p = p
one_placed g done k t a (Rel l i xs) p = p
one_placed g done k t a (Acq l i xs q o) p = p
one_placed g done k t a (RmwAcq l i xs) p = p
one_placed g done k t a (Tok b n) p = p
one_placed g done k t a (Auth b n) p = p

one_back : (g : Graph) (done : List ℕ) (k : Known) (t : ℕ) (a : Level) (x : Atom) → IsRight g done k (holder_of t (level_at a x)) x → IsRight g done k (holder_of t a) x
one_back g done k t a (Points c n None) p = p
one_back g done k t a (Points c n (Some v)) p = p
one_back g done k t a (Init l) p = p
one_back g done k t a (Rel l i xs) p = p
one_back g done k t a (Acq l i xs q o) p = p
one_back g done k t a (RmwAcq l i xs) p = p
one_back g done k t a (Tok b n) p = p
one_back g done k t a (Auth b n) p = p

pub placed_right : (g : Graph) (done : List ℕ) (k : Known) (t : ℕ) (a : Level) (xs : List Atom) → AreRight g done k (holder_of t a) xs → RightPieces g done k t (all_placed a xs)
placed_right g done k t a [] p = tt
placed_right g done k t a (x ∷ xs) p = (one_placed g done k t a x p.0, placed_right g done k t a xs p.1)

pub right_placed : (g : Graph) (done : List ℕ) (k : Known) (t : ℕ) (a : Level) (xs : List Atom) → RightPieces g done k t (all_placed a xs) → AreRight g done k (holder_of t a) xs
right_placed g done k t a [] p = tt
right_placed g done k t a (x ∷ xs) p = (one_back g done k t a x p.0, right_placed g done k t a xs p.1)

-- ---- what fits

-- what is entailed fits too
pub fits_entailed : FitsEntailed
fits_entailed g done k w t xs ys f e = record {
  enough = λ a r. let m = e.enough a r in let n = f.enough a r in omega arith;
  right = e.right g done k t f.right;
}

-- what is right says what is known
pub right_says : (g : Graph) (done : List ℕ) (k : Known) (h : Holder) (x : Atom) → IsRight g done k h x → Says k x
right_says g done k h (Points c n None) p = p
right_says g done k h (Points c n (Some v)) p = p
right_says g done k h (Init l) p = (p.deal, p.made)
right_says g done k h (Rel l i xs) p = p
right_says g done k h (Acq l i xs q o) p = p
right_says g done k h (RmwAcq l i xs) p = p
right_says g done k h (Tok b n) p = p
right_says g done k h (Auth b n) p = p

pub all_say : (g : Graph) (done : List ℕ) (k : Known) (t : ℕ) (xs : List Piece) → RightPieces g done k t xs → AllSay k xs
all_say g done k t [] p = tt
all_say g done k t (x ∷ xs) p = (right_says g done k (holder_of t x.level) x.atom p.0, all_say g done k t xs p.1)

-- three holders together have no more than there is
three_at_most : (g : Graph) (done : List ℕ) (k : Known) (w : World) → Owned g done k w → (a b c : Holder) (r : Resource) → (a ≡ b → ⊥) → (a ≡ c → ⊥) → (b ≡ c → ⊥)
    → w a r + (w b r + w c r) ≤ limit k r
three_at_most g done k w o a b c r m n p = elim (none_or_some (w a r)) [
  | inl z ↦ let t = two_at_most g done k w o b c r p in omega arith
  | inr l ↦ elim (none_or_some (w b r)) [
    | inl z ↦ let t = two_at_most g done k w o a c r n in omega arith
    | inr i ↦ elim (none_or_some (w c r)) [
      | inl z ↦ let t = two_at_most g done k w o a b r m in omega arith
      | inr j ↦ let t = total_three o.holders w r a b c o.apart (o.support a r l) (o.support b r i) (o.support c r j) m n p in let q = o.within r in omega arith
    ]
  ]
]

-- nor have four
pub four_at_most : (g : Graph) (done : List ℕ) (k : Known) (w : World) → Owned g done k w → (a b c d : Holder) (r : Resource) → (a ≡ b → ⊥) → (a ≡ c → ⊥) → (a ≡ d → ⊥) → (b ≡ c → ⊥) → (b ≡ d → ⊥) → (c ≡ d → ⊥)
    → w a r + (w b r + (w c r + w d r)) ≤ limit k r
four_at_most g done k w o a b c d r ab ac ad bc bd cd = elim (none_or_some (w a r)) [
  | inl z ↦ let t = three_at_most g done k w o b c d r bc bd cd in omega arith
  | inr i ↦ elim (none_or_some (w b r)) [
    | inl z ↦ let t = three_at_most g done k w o a c d r ac ad cd in omega arith
    | inr j ↦ elim (none_or_some (w c r)) [
      | inl z ↦ let t = three_at_most g done k w o a b d r ab ad bd in omega arith
      | inr l ↦ elim (none_or_some (w d r)) [
        | inl z ↦ let t = three_at_most g done k w o a b c r ab ac bc in omega arith
        | inr m ↦
            let t = total_four o.holders w r a b c d o.apart (o.support a r i) (o.support b r j) (o.support c r l) (o.support d r m) ab ac ad bc bd cd in
            let q = o.within r in
            omega arith
      ]
    ]
  ]
]

-- what a thread has is possible
pub fits_possible : FitsPossible
fits_possible g done k w t xs o f = record {
  known = k;
  within = λ r.
      let all = three_at_most g done k w o (holder.Plain t) (holder.Up t) (holder.Down t) r (λ e. absurd (cc)) (λ e. absurd (cc)) (λ e. absurd (cc)) in
      let a = f.enough AtPlain r in
      let b = f.enough AtUp r in
      let c = f.enough AtDown r in
      omega arith;
  agree = all_say g done k t xs f.right;
}
