-- Read-modify-writes: what a message that is read has, and what becomes of it and of the heap of the thread.
use Rattle.std.specs.Prelude.{◌≡◌, ℕ, ◌+◌, ◌≤◌, Bool, true, false, List, Some, ℤ}
use Rattle.fsl_core.specs.declared.act.Step.{Step}
use Rattle.fsl_core.specs.declared.mode.Mode.{Mode}
use Rattle.fsl_core.specs.declared.mode.Rung.TheVariants.{Plain, Msg}
use Rattle.fsl_core.specs.declared.verdict.Kind.{Kind}
use Rattle.fsl_core.specs.logic.States.{State, fails, Branch, Branches}
use Rattle.fsl_core.specs.logic.Accesses.{gaining, giving}
use Rattle.fsl_core.specs.logic.Updates.{Leaves}
use Rattle.fsl_lin.specs.Numbers.{Numbers}
use Rattle.fsl_meaning.specs.Means.{AllMean}
use Rattle.fsl_meaning.specs.Branches.{Among}
use Rattle.fsl_meaning.specs.Heaps.{Key, Cell, Heap, Holds, IsInit, MayWrite, MayUpdate, Ground, Knows, AllKnown, IsBounded, KnowsMore, Agrees}
use Rattle.fsl_meaning.specs.States.{All, Fits}
use Rattle.fsl_asserted.specs.Needs.{Need}
use Rattle.fsl_kept.specs.Changes.{grounded, lifted, without}
use Rattle.fsl_kept.specs.Parts.{Part, parts_asked}
use Rattle.fsl_passed.specs.Passing.{AllPassed}
use Rattle.fsl_updated.specs.Grounds.{forgetting, learning}
use Rattle.fsl_updated.specs.Steps.{steps_truth, steps_heap, AllMayStep}

-- ---- the location

-- it was written, and may be written and updated
pub record MayReplace (g : Ground) (loc : ℤ) : Type 0 where
  pub init : Knows g (IsInit Plain loc)
  pub write_inv : ℕ
  pub write_args : List ℤ
  pub may_write : Knows g (MayWrite loc write_inv write_args)
  pub update_inv : ℕ
  pub update_args : List ℤ
  pub may_update : Knows g (MayUpdate loc update_inv update_args)

-- a location was made with one invariant and one list of arguments
pub record IsDealt (g : Ground) (loc : ℤ) (inv : ℕ) (args : List ℤ) : Type 0 where
  pub writes : (i : ℕ) (xs : List ℤ) → Knows g (MayWrite loc i xs) → (i ≡ inv) × (xs ≡ args)
  pub updates : (i : ℕ) (xs : List ℤ) → Knows g (MayUpdate loc i xs) → (i ≡ inv) × (xs ≡ args)

-- both leaves have this invariant and these arguments
pub record LeavesMean (n : ℕ) (v : Numbers) (l : Leaves) (inv : ℕ) (args : List ℤ) : Type 0 where
  pub rel_inv : l.rel.inv ≡ inv
  pub rel_args : AllMean n v l.rel.args args
  pub rmw_inv : l.rmw.inv ≡ inv
  pub rmw_args : AllMean n v l.rmw.args args

-- the leaves that were found
pub record HasLeaves (g : Ground) (n : ℕ) (v : Numbers) (loc : ℤ) (l : Leaves) : Type 0 where
  pub init : Knows g (IsInit Plain loc)
  pub write_args : List ℤ
  pub rel_args : AllMean n v l.rel.args write_args
  pub may_write : Knows g (MayWrite loc l.rel.inv write_args)
  pub update_args : List ℤ
  pub rmw_args : AllMean n v l.rmw.args update_args
  pub may_update : Knows g (MayUpdate loc l.rmw.inv update_args)

-- some branch fails
abbrev pub Fails : {X : Type 0} → Branches X → Type 0
Fails {X = X} bs = (kind : Kind) × Among (let b : Branch X = fails kind in b) bs

-- ---- the message

-- beside the heap h of a thread that stands on g, the message has what the parts of the invariant ask for at its value.
-- The ground while it is read knows what the message knows, at msg, and what it gives to the thread.
pub record Reads (g read : Ground) (parts : List Part) (h more : Heap) : Type 0 where
  pub knows : KnowsMore (forgetting g) read h
  pub agrees : Agrees g.truth read.truth h
  pub need : Need
  pub is : parts_asked read.truth Msg parts ≡ Some need
  pub known : AllKnown read need.claims
  pub room : Holds need.heap h more
  pub bounded : IsBounded read.truth more

-- ---- what becomes of it

-- Behind the token steps, a value was written. What the parts of the invariant ask for at it was given by the message,
-- and the thread added what lacks. Of the rest of the message, some is kept where the read puts what it gains, and some
-- joins shares of the thread: of cells of which the thread still has one at plain and the message that is written has
-- got one.
pub record Replaces (read : Ground) (m : Mode) (steps : List Step) (slots : List ℤ) (parts : List Part) (more : Heap) (later : List ℤ) (s : State) (w : Numbers) : Type 0 where
  pub may : AllMayStep slots steps more
  pub need : Need
  pub is : parts_asked (steps_truth slots steps read.truth) (giving m) parts ≡ Some need
  pub known : AllPassed read (giving m) need.claims
  pub given : Heap
  pub added : Heap
  pub need_is : (k : Key) → need.heap k ≡ lifted Msg (giving m) given k + added k
  pub kept : Heap
  pub joined : Heap
  pub message : (l : ℤ) → kept (Cell Msg l) + (joined (Cell Msg l) + given (Cell Msg l)) ≤ more (Cell Msg l)
  pub left : Heap
  pub thread : (k : Key) → without Msg (steps_heap slots steps more) k ≡ left k + added k
  pub shared : (l : ℤ) → 1 ≤ joined (Cell Msg l) → (1 ≤ left (Cell Plain l)) × (1 ≤ given (Cell Msg l))
  pub fits : Fits later (All (grounded (learning (gaining m) read) (steps_truth slots steps read.truth)) (λ k. lifted Msg (gaining m) kept k + (lifted Msg Plain joined k + left k))) w s

-- where another value was read than the expected one, nothing is gained and nothing given
abbrev pub Compares : Bool → Ground → Ground → Mode → List Step → List ℤ → List Part → Heap → Heap → List ℤ → State → Numbers → Type 0
Compares true g read m steps slots parts h more later s w = Replaces read m steps slots parts more later s w
Compares false g read m steps slots parts h more later s w = Fits later (All g h) w s
