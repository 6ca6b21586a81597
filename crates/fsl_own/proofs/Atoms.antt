-- Atoms stay right: whoever has some of a resource keeps what is known of it.
use Rattle.std.proofs.Common.{◌≡◌, ◌≤◌, ◌+◌, ℕ, Bool, true, false, ◌⊎◌, inl, inr, List, [], ◌∷◌, ◌++◌, Option, Some, None, ℤ, refl, sym, ap, subst, ◌∙◌, arith}
use Rattle.fsl_graph.specs.declared.graph.Graph.{Graph}
use Rattle.fsl_graph.specs.Sequenced.{In}
use Rattle.fsl_graph.specs.Positions.{Holder, Position}
use Rattle.fsl_own.specs.Knowledge.{Tells}
use Rattle.fsl_own.specs.Owning.{Resource, Cell, Permission, Tokens, Bank, Heap, World, only, Deal, Known, KeepsDeals, Agree}
use Rattle.fsl_own.specs.Atoms.{Atom, Points, Init, Rel, Acq, RmwAcq, Tok, Auth, asked, demand, Has, IsFor, IsInit, IsRight, AreRight, Holds, StillHeld}
use Rattle.fsl_own.proofs.Totals.{only_here}

-- ---- demands

pub demand_append : (xs ys : List Atom) (r : Resource) → demand (xs ++ ys) r ≡ demand xs r + demand ys r
demand_append [] ys r = omega arith
demand_append (x ∷ xs) ys r = let e = demand_append xs ys r in omega arith

pub right_append : (g : Graph) (done : List ℕ) (k : Known) (h : Holder) (xs ys : List Atom) → AreRight g done k h xs → AreRight g done k h ys → AreRight g done k h (xs ++ ys)
right_append g done k h [] ys p q = q
right_append g done k h (x ∷ xs) ys p q = (p.0, right_append g done k h xs ys p.1 q)

pub right_front : (g : Graph) (done : List ℕ) (k : Known) (h : Holder) (xs ys : List Atom) → AreRight g done k h (xs ++ ys) → AreRight g done k h xs
right_front g done k h [] ys p = tt
right_front g done k h (x ∷ xs) ys p = (p.0, right_front g done k h xs ys p.1)

pub right_back : (g : Graph) (done : List ℕ) (k : Known) (h : Holder) (xs ys : List Atom) → AreRight g done k h (xs ++ ys) → AreRight g done k h ys
right_back g done k h [] ys p = p
right_back g done k h (x ∷ xs) ys p = right_back g done k h xs ys p.1

-- ---- what stays right

-- where a holder has what the atom asks for, what is known of that stays, and the new holder knows what it knew
pub stays_right : (g : Graph) (done more : List ℕ) (k k' : Known) (h h' : Holder) (x : Atom)
    → ((e : ℕ) → In e done → In e more) → ((e : ℕ) → Position g done h e → Position g more h' e) → KeepsDeals k k' → ((r : Resource) → 1 ≤ asked x r → Agree k k' r)
    → IsRight g done k h x → IsRight g more k' h' x
stays_right g done more k k' h h' (Points c n None) past known deals agree p = p
stays_right g done more k k' h h' (Points c n (Some v)) past known deals agree p =
    let one = only_here (Cell c) n in
    let some = p.0 in
    (some, agree (Cell c) (omega arith) ∙ p.1)
stays_right g done more k k' h h' (Init l) past known deals agree p = record {
  deal = p.deal;
  made = deals l p.deal p.made;
  write = p.write;
  past = past p.write p.past;
  mode = p.mode;
  value = p.value;
  writes = p.writes;
  known = known p.write p.known;
}
stays_right g done more k k' h h' (Rel l inv args) past known deals agree p = (p.0, deals l _ p.1)
stays_right g done more k k' h h' (Acq l inv args part out) past known deals agree p =
    let one = only_here (Permission l part) 1 in
    let same : k'.out l part ≡ k.out l part = agree (Permission l part) (omega arith) in
    (deals l _ p.0, λ v i. p.1 v (subst (λ (xs : List ℤ). Has v xs) same i))
stays_right g done more k k' h h' (RmwAcq l inv args) past known deals agree p = deals l _ p
stays_right g done more k k' h h' (Tok b n) past known deals agree p = tt
stays_right g done more k k' h h' (Auth b n) past known deals agree p =
    let one = only_here (Bank b) 1 in
    agree (Bank b) (omega arith) ∙ p

-- the same of atoms that the holder has
pub stay_right : (g : Graph) (done more : List ℕ) (k k' : Known) (w : World) (h h' : Holder) (xs : List Atom)
    → ((e : ℕ) → In e done → In e more) → ((e : ℕ) → Position g done h e → Position g more h' e) → KeepsDeals k k' → ((r : Resource) → 1 ≤ w h r → Agree k k' r)
    → ((r : Resource) → demand xs r ≤ w h r) → AreRight g done k h xs → AreRight g more k' h' xs
stay_right g done more k k' w h h' [] past known deals agree enough p = tt
stay_right g done more k k' w h h' (x ∷ xs) past known deals agree enough p = (
  stays_right g done more k k' h h' x past known deals (λ r l. agree r (let m = enough r in omega arith)) p.0,
  stay_right g done more k k' w h h' xs past known deals agree (λ r. let m = enough r in omega arith) p.1,
)

-- what a holder has is still had, where its amounts don't shrink and what is known of them stays
pub still_holds : StillHeld
still_holds g done more k k' w w' h xs past known deals grows agree p = record {
  enough = λ r. let a = p.enough r in let b = grows r in omega arith;
  right = stay_right g done more k k' w h h xs past known deals agree p.enough p.right;
}
