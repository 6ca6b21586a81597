-- Good threads: a proof system over whole numbers, for so many moves. It speaks of the pieces that a thread has and
-- of the labels that it shows; no graph, no symbol and no statement stands in it.
use Rattle.std.specs.Prelude.{ℕ, zero, suc, ◌≡◌, ◌+◌, ◌-◌, ◌≤◌, Bool, true, false, List, [], ◌∷◌, ◌++◌, get_or, Option, Some, None, ℤ, pos, if◌then◌else◌}
use Rattle.std.specs.Prelude.{◌<ℤ◌}
use Rattle.std.specs.List.{filter}
use Rattle.fsl_core.specs.declared.label.Ended.{Ended}
use Rattle.fsl_core.specs.declared.label.Label.{Label}
use Rattle.fsl_core.specs.declared.label.Label.TheVariants as label
use Rattle.fsl_core.specs.declared.mode.AllocKind.TheVariants as kind
use Rattle.fsl_core.specs.declared.mode.Mode.{Mode}
use Rattle.fsl_core.specs.declared.need.Need.{Need}
use Rattle.fsl_core.specs.declared.need.Need.TheVariants as need
use Rattle.fsl_core.specs.declared.need.Reply.{Reply}
use Rattle.fsl_core.specs.declared.need.Reply.TheVariants as reply
use Rattle.fsl_core.specs.declared.need.Started.{Started}
use Rattle.fsl_core.specs.Modes.{is_atomic, acquires, releases}
use Rattle.fsl_core.specs.Programs.{Program}
use Rattle.fsl_core.specs.Moves.{Config, failed, showing, moved, need_of}
use Rattle.fsl_own.specs.Owning.{Resource, Cell, full, Deal}
use Rattle.fsl_own.specs.Atoms.{Atom, Points, Init, Rel, Acq, RmwAcq, Tok, Auth, Has, demand}
use Rattle.fsl_ground.specs.Ground.{Meaning}
use Rattle.fsl_good.specs.Pieces.{together, Level, AtPlain, AtUp, AtDown, Piece, all_placed, plain, demand_at, Entails, Yields, Told, IsPossible}

-- what contracts and invariants come to
pub record Logic : Type 1 where
  -- what a thread owes: the contract that it was started under
  pub Owed : Type 0
  -- the atoms that its start takes
  pub starts : Owed → Started → List Atom → Type 0
  -- the atoms that its end gives, with its result
  pub pays : Owed → ℤ → List Atom → Type 0
  -- those of the parts of invariants
  pub asks : Meaning

-- what comes after, by the pieces
abbrev pub After : Type 1
After = List Piece → Type 0

abbrev pub deal : Bool → ℕ → List ℤ → Deal
deal rmw inv args = record { rmw = rmw; inv = inv; args = args }

-- ---- banks and tokens

-- a bank is made, tokens are minted or burnt, any number of times
pub data Shifts (K : List Piece → Type 0) : List Piece → Type 0 where
  stays : {xs : List Piece} → K xs → Shifts K xs
  banks : {xs : List Piece} → ((b : ℕ) → IsPossible (plain (Auth b 0) ∷ xs) → Shifts K (plain (Auth b 0) ∷ xs)) → Shifts K xs
  mints : {xs ys : List Piece} (b n m : ℕ) → Entails xs (plain (Auth b n) ∷ ys)
      → (IsPossible (plain (Auth b (n + m)) ∷ plain (Tok b m) ∷ ys) → Shifts K (plain (Auth b (n + m)) ∷ plain (Tok b m) ∷ ys)) → Shifts K xs
  burns : {xs ys : List Piece} (b n m : ℕ) → Entails xs (plain (Auth b n) ∷ plain (Tok b m) ∷ ys)
      → (IsPossible (plain (Auth b (n - m)) ∷ ys) → Shifts K (plain (Auth b (n - m)) ∷ ys)) → Shifts K xs

-- ---- cells

-- a cell is given up whole, with what is left
pub record Gives (c : ℤ) (K : ℕ → List Piece → Type 0) (xs : List Piece) : Type 0 where
  pub share : ℕ
  pub old : Option ℤ
  pub rest : List Piece
  pub gives : Entails xs (plain (Points c share old) ∷ rest)
  pub whole : full ≤ share
  pub next : K share rest

-- a cell is read whose value is known
pub record Knows (c v : ℤ) (K : List Piece → Type 0) (xs : List Piece) : Type 0 where
  pub share : ℕ
  pub value : ℤ
  pub owns : Entails xs (plain (Points c share (Some value)) ∷ [])
  pub next : v ≡ value → K xs

-- ---- atomic locations

-- leave to acquire each of the first n parts
abbrev pub acquisitions : ℤ → ℕ → List ℤ → ℕ → List Piece
acquisitions c inv args zero = []
acquisitions c inv args (suc n) = plain (Acq c inv args n []) ∷ acquisitions c inv args n

abbrev pub MadeAcq : ℤ → (List Piece → Type 0) → List Piece → Type 0
MadeAcq c K xs = (inv : ℕ) × (args : List ℤ) × (count : ℕ) × K (plain (Rel c inv args) ∷ acquisitions c inv args count ++ xs)

abbrev pub MadeRmw : ℤ → (List Piece → Type 0) → List Piece → Type 0
MadeRmw c K xs = (inv : ℕ) × (args : List ℤ) × K (plain (Rel c inv args) ∷ plain (RmwAcq c inv args) ∷ xs)

-- where a read puts what it gains, and where a write takes what it gives
abbrev pub gaining : Mode → Level
gaining m = if acquires m then AtPlain else AtDown

abbrev pub giving : Mode → Level
giving m = if releases m then AtPlain else AtUp

-- parts of an invariant are gained at a value that was not yet gained, any number of times
pub data Gains (asks : Meaning) (c v : ℤ) (level : Level) (K : List Piece → Type 0) : List Piece → Type 0 where
  enough : {xs : List Piece} → K xs → Gains asks c v level K xs
  gains : {xs rest : List Piece} (inv : ℕ) (args : List ℤ) (part : ℕ) (out : List ℤ) → Entails xs (plain (Acq c inv args part out) ∷ rest) → (Has v out → ⊥)
      → ((ys : List Atom) → asks (deal false inv args) part v ys → IsPossible (plain (Acq c inv args part (v ∷ out)) ∷ all_placed level ys ++ rest)
      → Gains asks c v level K (plain (Acq c inv args part (v ∷ out)) ∷ all_placed level ys ++ rest))
      → Gains asks c v level K xs

-- a write gives all parts away
pub record Puts (asks : Meaning) (c v : ℤ) (level : Level) (K : List Piece → Type 0) (xs : List Piece) : Type 0 where
  pub inv : ℕ
  pub args : List ℤ
  pub parts : List (List Atom)
  pub rest : List Piece
  pub leave : Entails xs (plain (Rel c inv args) ∷ [])
  pub gives : Entails xs (all_placed level (together parts) ++ rest)
  -- each part, and all together, as either kind of location has them
  pub each : (part : ℕ) → asks (deal false inv args) part v (get_or parts part [])
  pub all : asks (deal true inv args) 0 v (together parts)
  pub next : K (plain (Init c) ∷ rest)

-- ---- read-modify-writes

-- shares and what was written stay with the message; all else is the thread's at once
abbrev pub of_message : Atom → Bool
of_message (Points c n v) = true
of_message (Init l) = true
of_message (Rel l inv args) = false
of_message (Acq l inv args part out) = false
of_message (RmwAcq l inv args) = false
of_message (Tok b n) = false
of_message (Auth b n) = false

abbrev pub of_thread : Atom → Bool
of_thread x = if of_message x then false else true

abbrev pub AllShares : List Atom → Type 0
AllShares [] = Unit {0}
AllShares (x ∷ xs) = (c : ℤ) × (n : ℕ) × (v : Option ℤ) × (x ≡ Points c n v) × AllShares xs

-- what the message and the thread say is told to each other. Then the message's pool is divided: on to the new message, kept where the read puts it, and shares that join those of
-- cells of which the thread has a plain one and the new message keeps one. The thread adds what is its own
pub record Passes (asks : Meaning) (m : Mode) (new : ℤ) (inv : ℕ) (args : List ℤ) (K : List Piece → Type 0) (pool : List Atom) (xs : List Piece) : Type 0 where
  pub message : List Atom
  pub thread : List Piece
  pub told : Told pool xs message thread
  pub on : List Atom
  pub kept : List Atom
  pub joins : List Atom
  pub mine : List Atom
  pub rest : List Piece
  pub atoms : List Atom
  pub divides : Yields message (on ++ (kept ++ joins))
  pub gives : Entails thread (all_placed (giving m) mine ++ rest)
  pub meets : Yields (on ++ mine) atoms
  pub asked : asks (deal true inv args) 0 new atoms
  pub shares : AllShares joins
  pub joined : (c : ℤ) → 1 ≤ demand joins (Cell c) → (1 ≤ demand_at AtPlain rest (Cell c)) × (1 ≤ demand on (Cell c))
  pub next : K (all_placed (gaining m) kept ++ (all_placed AtPlain joins ++ rest))

pub record Replaces (asks : Meaning) (m : Mode) (c old new : ℤ) (K : List Piece → Type 0) (xs : List Piece) : Type 0 where
  pub inv : ℕ
  pub args : List ℤ
  pub init : Entails xs (plain (Init c) ∷ [])
  pub leave : Entails xs (plain (RmwAcq c inv args) ∷ [])
  pub takes : (ys : List Atom) → asks (deal true inv args) 0 old ys
      → IsPossible (all_placed AtPlain (filter of_message ys) ++ (all_placed AtPlain (filter of_thread ys) ++ xs))
      → Shifts (λ zs. IsPossible (all_placed AtPlain (filter of_message ys) ++ zs) → Passes asks m new inv args K (filter of_message ys) zs)
      (all_placed AtPlain (filter of_thread ys) ++ xs)

-- ---- fences

-- what stood at down is plain
abbrev pub raised_level : Level → Level
raised_level AtPlain = AtPlain
raised_level AtUp = AtUp
raised_level AtDown = AtPlain

abbrev pub raised : List Piece → List Piece
raised [] = []
raised (x ∷ xs) = record { level = raised_level x.level; atom = x.atom } ∷ raised xs

abbrev pub raised_if : Bool → List Piece → List Piece
raised_if true xs = raised xs
raised_if false xs = xs

-- something plain is set apart
pub record Releases (K : List Piece → Type 0) (xs : List Piece) : Type 0 where
  pub apart : List Atom
  pub rest : List Piece
  pub gives : Entails xs (all_placed AtPlain apart ++ rest)
  pub next : K (all_placed AtUp apart ++ rest)

abbrev pub ReleasesIf : Bool → (List Piece → Type 0) → List Piece → Type 0
ReleasesIf true K xs = Releases K xs
ReleasesIf false K xs = K xs

-- a part of what is at down is raised, where the fence acquires; then something is set apart, where it releases
pub record Fenced (m : Mode) (K : List Piece → Type 0) (xs : List Piece) : Type 0 where
  pub kept : List Piece
  pub turned : List Piece
  pub gives : Entails xs (kept ++ turned)
  pub next : ReleasesIf (releases m) K (kept ++ raised_if (acquires m) turned)

-- ---- threads

abbrev pub EachStarts : (l : Logic) → List l.Owed → List Started → List (List Atom) → Type 0
EachStarts l [] [] [] = Unit {0}
EachStarts l (o ∷ os) (call ∷ calls) (ys ∷ yss) = l.starts o call ys × EachStarts l os calls yss
EachStarts l _ _ _ = ⊥

abbrev pub EachPays : (l : Logic) → List l.Owed → List Ended → List (List Atom) → Type 0
EachPays l [] [] [] = Unit {0}
EachPays l (o ∷ os) (r ∷ rs) (ys ∷ yss) = l.pays o r.value ys × EachPays l os rs yss
EachPays l _ _ _ = ⊥

pub record Spawns (l : Logic) (calls : List Started) (K : List l.Owed → List Piece → Type 0) (xs : List Piece) : Type 0 where
  pub owed : List l.Owed
  pub atoms : List (List Atom)
  pub rest : List Piece
  pub gives : Entails xs (all_placed AtPlain (together atoms) ++ rest)
  pub starts : EachStarts l owed calls atoms
  pub next : K owed rest

pub record Ends (l : Logic) (o : l.Owed) (v : ℤ) (xs : List Piece) : Type 0 where
  pub atoms : List Atom
  pub gives : Entails xs (all_placed AtPlain atoms)
  pub pays : l.pays o v atoms

-- ---- labels

abbrev pub LoadsAt : Logic → Bool → Mode → ℤ → ℤ → (List Piece → Type 0) → List Piece → Type 0
LoadsAt l false m c v K xs = Knows c v K xs
LoadsAt l true m c v K xs = Entails xs (plain (Init c) ∷ []) × Gains l.asks c v (gaining m) K xs

abbrev pub StoresAt : Logic → Bool → Mode → ℤ → ℤ → (List Piece → Type 0) → List Piece → Type 0
StoresAt l false m c v K xs = Gives c (λ share rest. K (plain (Points c share (Some v)) ∷ rest)) xs
StoresAt l true m c v K xs = Puts l.asks c v (giving m) K xs

-- a thread that owes o may show a label, where it waits for threads that owe these, and K comes after it
abbrev pub Allows : (l : Logic) → l.Owed → Need → Label → (List l.Owed → List Piece → Type 0) → List l.Owed → List Piece → Type 0
Allows l o n (label.Alloc kind.Na c) K waits xs = pos 0 <ℤ c → K waits (plain (Points c full None) ∷ xs)
Allows l o n (label.Alloc kind.Acq c) K waits xs = pos 0 <ℤ c → MadeAcq c (K waits) xs
Allows l o n (label.Alloc kind.Rmw c) K waits xs = pos 0 <ℤ c → MadeRmw c (K waits) xs
Allows l o n (label.Free c) K waits xs = Gives c (λ share rest. K waits rest) xs
Allows l o n (label.Load m c v) K waits xs = LoadsAt l (is_atomic m) m c v (K waits) xs
Allows l o n (label.Store m c v) K waits xs = StoresAt l (is_atomic m) m c v (K waits) xs
Allows l o n (label.Rmw m c old new) K waits xs = (is_atomic m ≡ true) × Replaces l.asks m c old new (K waits) xs
Allows l o n (label.Fence m) K waits xs = Fenced m (K waits) xs
Allows l o n (label.Fork children) K waits xs = (calls : List Started) → n ≡ need.Fork calls → Spawns l calls K xs
Allows l o n (label.Join results) K waits xs = (atoms : List (List Atom)) → EachPays l waits results atoms → K [] (all_placed AtPlain (together atoms) ++ xs)
Allows l o n (label.Print v) K waits xs = K waits xs
Allows l o n (label.End v) K waits xs = Ends l o v xs

-- a thread of program p that owes o and waits for threads that owe these is good for so many moves, with these pieces
abbrev pub Good : (l : Logic) → Program → l.Owed → ℕ → Config → List l.Owed → List Piece → Type 0
Good l p o zero c waits xs = c ≡ failed → ⊥
Good l p o (suc n) c waits xs = IsPossible xs → (c ≡ failed → ⊥)
    × (need_of p c ≡ need.Local → Shifts (Good l p o n (moved p c reply.Nothing).config waits) xs)
    × ((r : Reply) (shown : Label) (next : Config) → moved p c r ≡ showing shown next → Allows l o (need_of p c) shown (Good l p o n next) waits xs)
