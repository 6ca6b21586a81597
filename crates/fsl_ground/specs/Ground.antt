-- The ground of all threads: what messages hold, which values are known, and that nothing unsafe was done so far.
use Rattle.std.specs.Prelude.{ℕ, ◌≡◌, ◌⊎◌, Bool, true, false, List, [], ◌∷◌, Option, Some, ℤ}
use Rattle.fsl_core.specs.declared.label.Label.{Label}
use Rattle.fsl_core.specs.declared.label.Label.TheVariants as label
use Rattle.fsl_core.specs.declared.mode.AllocKind.{AllocKind}
use Rattle.fsl_core.specs.declared.mode.AllocKind.TheVariants as kind
use Rattle.fsl_core.specs.declared.mode.Mode.{Mode}
use Rattle.fsl_core.specs.Moves.{kind_at}
use Rattle.fsl_graph.specs.declared.event.Event.{Event}
use Rattle.fsl_graph.specs.declared.graph.Graph.{Graph}
use Rattle.fsl_graph.specs.Events.{Is, Writes, Updates, read_by, Touch}
use Rattle.fsl_graph.specs.Sequenced.{In, Rf}
use Rattle.fsl_graph.specs.Happens.{Hb}
use Rattle.fsl_graph.specs.Execution.{Allocates}
use Rattle.fsl_graph.specs.Safe.{IsAccess, IsRace, IsFreed, fits}
use Rattle.fsl_graph.specs.Positions.{Holder}
use Rattle.fsl_graph.specs.Positions.{Holder as holder}
use Rattle.fsl_graph.specs.Reading.{IsLast}
use Rattle.fsl_own.specs.Owning.{Deal, Known, World, Owned}
use Rattle.fsl_own.specs.Atoms.{Atom, Has, Holds}

-- ---- messages

-- what the invariant of a location asks for, for each of its parts at a value; part 0 is all parts together where the
-- location is read-modify-written
abbrev pub Meaning : Type 1
Meaning = Deal → (part : ℕ) → (value : ℤ) → List Atom → Type 0

-- no read-modify-write that is done has read the message of m
abbrev pub IsUnread : Graph → List ℕ → ℕ → Type 0
IsUnread g done m = (e : ℕ) (mode : Mode) (l old new : ℤ) → In e done → Updates g e mode l old new → Rf g m e → ⊥

-- a part of the message of m, with value v at l, is still to be had: by a read-modify-write, which takes all, or by a
-- load that has not yet gained this part at this value
abbrev pub IsDue : Graph → List ℕ → Known → (m : ℕ) → (l v : ℤ) → (part : ℕ) → (rmw : Bool) → Type 0
IsDue g done k m l v part true = (part ≡ 0) × IsUnread g done m
IsDue g done k m l v part false = Has v (k.out l part) → ⊥

-- m writes v at l, which was made for d
pub record Sends (g : Graph) (k : Known) (m : ℕ) (d : Deal) (l v : ℤ) : Type 0 where
  pub mode : Mode
  pub writes : Writes g m mode l v
  pub made : k.deals l ≡ Some d

-- the message of m holds what the part asks for
pub record HasPart (asks : Meaning) (g : Graph) (done : List ℕ) (k : Known) (w : World) (m : ℕ) (d : Deal) (part : ℕ) (v : ℤ) : Type 0 where
  pub atoms : List Atom
  pub asked : asks d part v atoms
  pub holds : Holds g done k w (holder.Message m part) atoms

-- each message but those of `but` holds what is due of it
abbrev pub Messages : Meaning → Graph → List ℕ → List ℕ → Known → World → Type 0
Messages asks g done but k w = (m : ℕ) (d : Deal) (l v : ℤ) (part : ℕ) → In m done → (In m but → ⊥) → Sends g k m d l v → IsDue g done k m l v part d.rmw
    → HasPart asks g done k w m d part v

-- ---- values and locations

-- c is a cell, and the last write of it that is done wrote v
pub record IsValue (g : Graph) (done : List ℕ) (c v : ℤ) : Type 0 where
  pub alloc : ℕ
  pub allocated : In alloc done
  pub made : Allocates g alloc kind.Na c
  pub write : ℕ
  pub last : IsLast g done c write
  pub mode : Mode
  pub writes : Writes g write mode c v

-- l was allocated as deal d says
pub record IsMade (g : Graph) (done : List ℕ) (l : ℤ) (d : Deal) : Type 0 where
  pub alloc : ℕ
  pub past : In alloc done
  pub made : Allocates g alloc (kind_at d.rmw) l

-- ---- safety

pub record IsAllocatedIn (g : Graph) (done : List ℕ) (l : ℤ) (atomic : Bool) : Type 0 where
  pub alloc : ℕ
  pub past : In alloc done
  pub kind : AllocKind
  pub allocates : Allocates g alloc kind l
  pub fits : fits kind atomic ≡ true

-- nothing unsafe was done
pub record IsSafeSoFar (g : Graph) (done : List ℕ) : Type 0 where
  pub no_race : (a b : ℕ) → In a done → In b done → IsRace g a b → ⊥
  pub initialised : (e : ℕ) (x : Event) (t : Touch) → In e done → Is g e x → read_by x.label ≡ Some t → (w : ℕ) × (x.from ≡ Some w)
  pub allocated : (e : ℕ) (x : Event) (l : ℤ) (atomic changes : Bool) → In e done → IsAccess g e x l atomic changes → IsAllocatedIn g done l atomic
  pub freed : (e f : ℕ) (x : Event) (l : ℤ) (atomic changes : Bool) → In e done → In f done → IsFreed g f l → IsAccess g e x l atomic changes → (e ≡ f) ⊎ Hb g e f

-- ---- all together

pub record Ground (asks : Meaning) (g : Graph) (done but : List ℕ) (k : Known) (w : World) : Type 0 where
  pub owned : Owned g done k w
  pub right : (c v : ℤ) → k.values c ≡ Some v → IsValue g done c v
  pub made : (l : ℤ) (d : Deal) → k.deals l ≡ Some d → IsMade g done l d
  pub messages : Messages asks g done but k w
  pub safe : IsSafeSoFar g done

-- of a holder no part is due
abbrev pub IsFree : Graph → List ℕ → List ℕ → Known → Holder → Type 0
IsFree g done but k a = (m part : ℕ) (d : Deal) (l v : ℤ) → a ≡ holder.Message m part → In m done → (In m but → ⊥) → Sends g k m d l v
    → IsDue g done k m l v part d.rmw → ⊥

-- what a next event must keep to, to be safe
pub record IsSafeNext (g : Graph) (done : List ℕ) (e : ℕ) (x : Event) : Type 0 where
  pub no_race : (a : ℕ) → In a done → IsRace g a e → ⊥
  pub initialised : (t : Touch) → read_by x.label ≡ Some t → (w : ℕ) × (x.from ≡ Some w)
  pub allocated : (l : ℤ) (atomic changes : Bool) → IsAccess g e x l atomic changes → IsAllocatedIn g done l atomic
  pub unfreed : (f : ℕ) (l : ℤ) (atomic changes : Bool) → In f done → IsFreed g f l → IsAccess g e x l atomic changes → ⊥
  pub frees : (l : ℤ) → IsFreed g e l → (a : ℕ) (y : Event) (atomic changes : Bool) → In a done → IsAccess g a y l atomic changes → Hb g a e
