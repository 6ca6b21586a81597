-- Pieces: atoms, each at the level at which a thread has it.
use Rattle.std.specs.Prelude.{ℕ, ◌≡◌, ◌+◌, ◌≤◌, Bool, true, false, List, [], ◌∷◌, ◌++◌, map, Option, Some, ℤ, if◌then◌else◌}
use Rattle.fsl_graph.specs.declared.graph.Graph.{Graph}
use Rattle.fsl_graph.specs.Positions.{Holder}
use Rattle.fsl_graph.specs.Positions.{Holder as holder}
use Rattle.fsl_own.specs.Owning.{Resource, Heap, World, Known, limit}
use Rattle.fsl_own.specs.Atoms.{Atom, Points, Init, Rel, Acq, RmwAcq, Tok, Auth, asked, demand, Says, IsRight, AreRight}

-- lists of atoms one behind the other
abbrev pub together : List (List Atom) → List Atom
together [] = []
together (xs ∷ xss) = xs ++ together xss

-- where a thread has something: to be used, set apart by a release fence, or gained by relaxed reads
pub data Level : Type 0 where
  AtPlain : Level
  AtUp : Level
  AtDown : Level

abbrev pub same_level : Level → Level → Bool
same_level AtPlain AtPlain = true
same_level AtUp AtUp = true
same_level AtDown AtDown = true
same_level _ _ = false

abbrev pub holder_of : ℕ → Level → Holder
holder_of t AtPlain = holder.Plain t
holder_of t AtUp = holder.Up t
holder_of t AtDown = holder.Down t

pub record Piece : Type 0 where
  pub level : Level
  pub atom : Atom

-- shares and what was written stand at a level; all else is plain
abbrev pub level_at : Level → Atom → Level
level_at a (Points c n v) = a
level_at a (Init l) = a
level_at a (Rel l inv args) = AtPlain
level_at a (Acq l inv args part out) = AtPlain
level_at a (RmwAcq l inv args) = AtPlain
level_at a (Tok b n) = AtPlain
level_at a (Auth b n) = AtPlain

abbrev pub placed : Level → Atom → Piece
placed a x = record { level = level_at a x; atom = x }

abbrev pub all_placed : Level → List Atom → List Piece
all_placed a [] = []
all_placed a (x ∷ xs) = placed a x ∷ all_placed a xs

abbrev pub plain : Atom → Piece
plain x = placed AtPlain x

-- what a piece asks for at a level
abbrev pub asked_at : Level → Piece → Heap
asked_at a x r = if same_level x.level a then asked x.atom r else 0

abbrev pub demand_at : Level → List Piece → Heap
demand_at a [] r = 0
demand_at a (x ∷ xs) r = asked_at a x r + demand_at a xs r

abbrev pub RightPieces : Graph → List ℕ → Known → ℕ → List Piece → Type 0
RightPieces g done k t [] = Unit {0}
RightPieces g done k t (x ∷ xs) = IsRight g done k (holder_of t x.level) x.atom × RightPieces g done k t xs

-- thread t has these pieces
pub record Fits (g : Graph) (done : List ℕ) (k : Known) (w : World) (t : ℕ) (xs : List Piece) : Type 0 where
  pub enough : (a : Level) (r : Resource) → demand_at a xs r ≤ w (holder_of t a) r
  pub right : RightPieces g done k t xs

-- who has the first pieces has the second ones
pub record Entails (xs ys : List Piece) : Type 0 where
  pub enough : (a : Level) (r : Resource) → demand_at a ys r ≤ demand_at a xs r
  pub right : (g : Graph) (done : List ℕ) (k : Known) (t : ℕ) → RightPieces g done k t xs → RightPieces g done k t ys

-- the same of atoms of one holder
pub record Yields (xs ys : List Atom) : Type 0 where
  pub enough : (r : Resource) → demand ys r ≤ demand xs r
  pub right : (g : Graph) (done : List ℕ) (k : Known) (h : Holder) → AreRight g done k h xs → AreRight g done k h ys

-- atoms of a message and pieces of a thread, where each side may also say what the other one says
pub record Told (pool : List Atom) (xs : List Piece) (message : List Atom) (thread : List Piece) : Type 0 where
  pub of_message : (r : Resource) → demand message r ≤ demand pool r
  pub of_thread : (a : Level) (r : Resource) → demand_at a thread r ≤ demand_at a xs r
  pub right : (g : Graph) (done : List ℕ) (k : Known) (h : Holder) (t : ℕ) → AreRight g done k h pool → RightPieces g done k t xs
      → AreRight g done k h message × RightPieces g done k t thread

abbrev pub AllSay : Known → List Piece → Type 0
AllSay k [] = Unit {0}
AllSay k (x ∷ xs) = Says k x.atom × AllSay k xs

-- a thread may have these pieces together: no more than there is, and what they say can be so
pub record IsPossible (xs : List Piece) : Type 0 where
  pub known : Known
  pub within : (r : Resource) → demand_at AtPlain xs r + (demand_at AtUp xs r + demand_at AtDown xs r) ≤ limit known r
  pub agree : AllSay known xs
