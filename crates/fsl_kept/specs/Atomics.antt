-- Atomic locations: what comes with an allocation, what a store gives away, and what a load gains of what the message
-- that it reads has for each part of the invariant.
use Rattle.std.specs.Prelude.{◌≡◌, ℕ, zero, suc, ◌+◌, ◌≤◌, ◌==◌, Bool, true, false, ◌&&◌, List, [], ◌∷◌, length, Option, Some, None, ℤ, slice_get, slice_set, if◌then◌else◌}
use Rattle.std.specs.Ordering.{int_eq}
use Rattle.std.specs.List.{list_any}
use Rattle.fsl_core.specs.declared.declaration.Inv.{Inv}
use Rattle.fsl_core.specs.declared.mode.Mode.{Mode}
use Rattle.fsl_core.specs.declared.mode.Rung.{Rung}
use Rattle.fsl_core.specs.declared.mode.Rung.TheVariants.{Plain}
use Rattle.fsl_core.specs.Programs.{Program}
use Rattle.fsl_core.specs.logic.States.{State}
use Rattle.fsl_core.specs.logic.Accesses.{giving}
use Rattle.fsl_lin.specs.Numbers.{Numbers}
use Rattle.fsl_meaning.specs.Heaps.{Key, Permission, Heap, nothing, some_of, Holds, Truth, Claim, IsInit, MayWrite, MayRead, MayUpdate, Ground, Knows, AllKnown}
use Rattle.fsl_meaning.specs.States.{All, Fits}
use Rattle.fsl_asserted.specs.Needs.{Need, asks}
use Rattle.fsl_kept.specs.Changes.{grounded}
use Rattle.fsl_kept.specs.Parts.{Part, parts_in, parts_asked}

-- ---- allocations

abbrev pub count_by : Option Inv → ℕ
count_by None = 0
count_by (Some inv) = length inv.parts

-- permissions for n parts, from a number on
abbrev pub permissions_from : ℤ → ℕ → ℕ → Heap
permissions_from loc part zero = nothing
permissions_from loc part (suc n) = λ k. some_of (Permission loc part) 1 k + permissions_from loc (part + 1) n k

-- what may be done with a new location is counted, where it is for loads
abbrev pub leave_heap : Program → Bool → ℕ → ℤ → Heap
leave_heap p true inv loc = nothing
leave_heap p false inv loc = permissions_from loc 0 (count_by (slice_get p.invs inv))

abbrev pub leave_claim : Bool → ℤ → ℕ → List ℤ → Claim
leave_claim true loc inv args = MayUpdate loc inv args
leave_claim false loc inv args = MayRead loc inv args

-- ---- stores

-- all parts of the invariant at the value were given away
pub record StoresAtomic (p : Program) (g later : Ground) (m : Mode) (slots : List ℤ) (loc x : ℤ) (h : Heap) (s : State) (w : Numbers) : Type 0 where
  pub inv : ℕ
  pub numbers : List ℤ
  pub may : Knows g (MayWrite loc inv numbers)
  pub need : Need
  pub is : parts_asked g.truth (giving m) (parts_in p inv numbers x) ≡ Some need
  pub known : AllKnown g need.claims
  pub left : Heap
  pub parts : (k : Key) → h k ≡ left k + need.heap k
  pub fits : Fits slots (All later left) w s

-- ---- loads

-- y was read from a part of the invariant of a location
abbrev pub marking : ℤ → ℕ → ℤ → Truth → Truth
marking loc part y t = record { value = t.value; out = λ l p. if int_eq l loc && p == part then y ∷ t.out l p else t.out l p; bank = t.bank }

abbrev pub marking_all : ℤ → ℤ → List ℕ → Truth → Truth
marking_all loc y [] t = t
marking_all loc y (q ∷ qs) t = marking_all loc y qs (marking loc q y t)

-- what a message has for each part of the invariant, `None` where it was taken
abbrev pub Pool : Type 0
Pool = List (Option Need)

abbrev pub pooled : Pool → Heap
pooled [] = nothing
pooled (None ∷ os) = pooled os
pooled (Some n ∷ os) = λ k. n.heap k + pooled os k

abbrev pub left_all : List ℕ → Pool → Pool
left_all [] os = os
left_all (q ∷ qs) os = left_all qs (slice_set os q None)

-- each of these parts was there, and was taken
abbrev pub AllTaken : List ℕ → Pool → Type 0
AllTaken [] os = Unit {0}
AllTaken (q ∷ qs) os = (n : Need) × (slice_get os q ≡ Some (Some n)) × AllTaken qs (slice_set os q None)

-- the message has what a part asks for
pub record IsReady (g : Ground) (rung : Rung) (parts : List Part) (os : Pool) (q : ℕ) : Type 0 where
  pub part : Part
  pub is : slice_get parts q ≡ Some part
  pub need : Need
  pub there : slice_get os q ≡ Some (Some need)
  pub asked : asks g.truth part.asrt rung part.numbers ≡ Some need
  pub known : AllKnown g need.claims

-- of each part that somebody has a permission for, unless y was read from it before
pub record AllReady (g : Ground) (rung : Rung) (loc y : ℤ) (parts : List Part) (os : Pool) (more : Heap) : Type 0 where
  pub ready : (q : ℕ) → 1 ≤ more (Permission loc q) → list_any (int_eq y) (g.truth.out loc q) ≡ false → IsReady g rung parts os q

-- parts were taken from the message and marked, and the thread has them
pub record Gained (g : Ground) (slots : List ℤ) (loc y : ℤ) (os : Pool) (more : Heap) (s : State) (w : Numbers) : Type 0 where
  pub taken : List ℕ
  pub were : AllTaken taken os
  pub grown : Heap
  pub within : Holds grown (pooled (left_all taken os)) more
  pub fits : Fits slots (All (grounded g (marking_all loc y taken g.truth)) grown) w s

-- a location has one invariant with one list of arguments
pub record HasInv (g : Ground) (loc : ℤ) (inv : ℕ) (args : List ℤ) : Type 0 where
  pub one : (i : ℕ) (xs : List ℤ) → Knows g (MayRead loc i xs) → (i ≡ inv) × (xs ≡ args)

pub record LoadsAtomic (g : Ground) (slots : List ℤ) (loc y : ℤ) (os : Pool) (more : Heap) (s : State) (w : Numbers) : Type 0 where
  pub init : Knows g (IsInit Plain loc)
  pub gained : Gained g slots loc y os more s w
