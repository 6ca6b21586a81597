-- What assertions come to: atoms over whole numbers. An atom asks for resources, and is right where what it says of
-- them is known.
use Rattle.std.specs.Prelude.{ℕ, ◌≡◌, ◌+◌, ◌≤◌, Bool, true, false, ◌⊎◌, List, [], ◌∷◌, Option, Some, None, ℤ}
use Rattle.fsl_graph.specs.declared.graph.Graph.{Graph}
use Rattle.fsl_core.specs.declared.mode.Mode.{Mode}
use Rattle.fsl_graph.specs.Events.{Writes}
use Rattle.fsl_graph.specs.Sequenced.{In}
use Rattle.fsl_graph.specs.Positions.{Holder, Position}
use Rattle.fsl_own.specs.Owning.{Resource, Cell, Permission, Tokens, Bank, Heap, World, only, nothing, Deal, Known, KeepsDeals, Agree}

pub data Atom : Type 0 where
  Points : (loc : ℤ) (share : ℕ) (value : Option ℤ) → Atom  -- a share of a cell, with its value where that is known
  Init : (loc : ℤ) → Atom  -- an atomic location was written
  Rel : (loc : ℤ) (inv : ℕ) (args : List ℤ) → Atom  -- leave to write it under an invariant
  Acq : (loc : ℤ) (inv : ℕ) (args : List ℤ) (part : ℕ) (out : List ℤ) → Atom  -- leave to acquire a part, but at the values in `out`
  RmwAcq : (loc : ℤ) (inv : ℕ) (args : List ℤ) → Atom  -- leave to read-modify-write it
  Tok : (bank n : ℕ) → Atom  -- tokens
  Auth : (bank n : ℕ) → Atom  -- a bank may have n tokens

-- the resources that an atom asks for
abbrev pub asked : Atom → Heap
asked (Points c n v) = only (Cell c) n
asked (Init l) = nothing
asked (Rel l inv args) = nothing
asked (Acq l inv args part out) = only (Permission l part) 1
asked (RmwAcq l inv args) = nothing
asked (Tok b n) = only (Tokens b) n
asked (Auth b n) = only (Bank b) 1

abbrev pub demand : List Atom → Heap
demand [] r = 0
demand (x ∷ xs) r = asked x r + demand xs r

-- a value is among these
abbrev pub Has : ℤ → List ℤ → Type 0
Has v [] = ⊥
Has v (x ∷ xs) = (v ≡ x) ⊎ Has v xs

-- what location l was made for
abbrev pub IsFor : Known → ℤ → Bool → ℕ → List ℤ → Type 0
IsFor k l rmw inv args = k.deals l ≡ Some (record { rmw = rmw; inv = inv; args = args })

-- a holder knows of a write of l, which was made as an atomic location
pub record IsInit (g : Graph) (done : List ℕ) (k : Known) (h : Holder) (l : ℤ) : Type 0 where
  pub deal : Deal
  pub made : k.deals l ≡ Some deal
  pub write : ℕ
  pub past : In write done
  pub mode : Mode
  pub value : ℤ
  pub writes : Writes g write mode l value
  pub known : Position g done h write

-- what an atom says is known
abbrev pub Says : Known → Atom → Type 0
Says k (Points c n None) = 1 ≤ n
Says k (Points c n (Some v)) = (1 ≤ n) × (k.values c ≡ Some v)
Says k (Init l) = (d : Deal) × (k.deals l ≡ Some d)
Says k (Rel l inv args) = (rmw : Bool) × IsFor k l rmw inv args
Says k (Acq l inv args part out) = IsFor k l false inv args × ((v : ℤ) → Has v (k.out l part) → Has v out)
Says k (RmwAcq l inv args) = IsFor k l true inv args
Says k (Tok b n) = Unit {0}
Says k (Auth b n) = k.counts b ≡ n

-- what an atom says is so, where a holder has it: that a location was written, the holder knows
abbrev pub IsRight : Graph → List ℕ → Known → Holder → Atom → Type 0
IsRight g done k h (Init l) = IsInit g done k h l
IsRight g done k h x = Says k x

abbrev pub AreRight : Graph → List ℕ → Known → Holder → List Atom → Type 0
AreRight g done k h [] = Unit {0}
AreRight g done k h (x ∷ xs) = IsRight g done k h x × AreRight g done k h xs

-- a holder has these atoms
pub record Holds (g : Graph) (done : List ℕ) (k : Known) (w : World) (h : Holder) (xs : List Atom) : Type 0 where
  pub enough : (r : Resource) → demand xs r ≤ w h r
  pub right : AreRight g done k h xs

-- what a holder has is still had, where its amounts don't shrink and what is known of them stays
abbrev pub StillHeld : Type 0
StillHeld = (g : Graph) (done more : List ℕ) (k k' : Known) (w w' : World) (h : Holder) (xs : List Atom)
    → ((e : ℕ) → In e done → In e more) → ((e : ℕ) → Position g done h e → Position g more h e) → KeepsDeals k k'
    → ((r : Resource) → w h r ≤ w' h r) → ((r : Resource) → 1 ≤ w h r → Agree k k' r) → Holds g done k w h xs → Holds g more k' w' h xs
