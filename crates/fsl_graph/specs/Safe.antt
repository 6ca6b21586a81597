-- Safe executions: no data race, no read of what nobody wrote, no access to what was not allocated for it or
-- is freed, no assertion that fails.
use Rattle.std.specs.Prelude.{ℕ, ◌≡◌, ◌<◌, ◌⊎◌, Bool, true, false, length, Option, Some, None, ℤ, not}
use Rattle.fsl_core.specs.declared.label.Label.{Label}
use Rattle.fsl_core.specs.declared.label.Label.TheVariants as label
use Rattle.fsl_core.specs.declared.mode.AllocKind.{AllocKind}
use Rattle.fsl_core.specs.declared.mode.AllocKind.TheVariants as kind
use Rattle.fsl_core.specs.Moves.{Config, failed}
use Rattle.fsl_graph.specs.declared.event.Event.{Event}
use Rattle.fsl_graph.specs.declared.graph.Graph.{Graph}
use Rattle.fsl_graph.specs.Events.{Is, is_atomic, read_by, Touch}
use Rattle.fsl_graph.specs.Happens.{Hb}
use Rattle.fsl_graph.specs.Execution.{Allocates}

-- what a label does to a location: whether it is atomic, and whether it may be in the way of others
pub data Access : Type 0 where
  Accesses : (loc : ℤ) → (atomic changes : Bool) → Access

-- a free is a non-atomic access
abbrev pub access_by : Label → Option Access
access_by (label.Load m l v) = Some (Accesses l (is_atomic m) false)
access_by (label.Store m l v) = Some (Accesses l (is_atomic m) true)
access_by (label.Rmw m l old new) = Some (Accesses l (is_atomic m) true)
access_by (label.Free l) = Some (Accesses l false true)
access_by (label.Alloc k l) = None
access_by (label.Fence m) = None
access_by (label.Fork ts) = None
access_by (label.Join rs) = None
access_by (label.Print v) = None
access_by (label.End v) = None

-- event e, which is x, accesses l
pub record IsAccess (g : Graph) (e : ℕ) (x : Event) (l : ℤ) (atomic changes : Bool) : Type 0 where
  pub is : Is g e x
  pub accesses : access_by x.label ≡ Some (Accesses l atomic changes)

-- a data race (C11 5.1.2.4 p25): two accesses of one location by different threads, one of them a write or a
-- free, one of them not atomic, and neither happens before the other
pub record IsRace (g : Graph) (a b : ℕ) : Type 0 where
  pub x : Event
  pub y : Event
  pub loc : ℤ
  pub a_atomic : Bool
  pub b_atomic : Bool
  pub a_changes : Bool
  pub b_changes : Bool
  pub accesses : IsAccess g a x loc a_atomic a_changes
  pub other : IsAccess g b y loc b_atomic b_changes
  pub threads : x.thread ≡ y.thread → ⊥
  pub changes : (a_changes ≡ true) ⊎ (b_changes ≡ true)
  pub plain : (a_atomic ≡ false) ⊎ (b_atomic ≡ false)
  pub unordered : Hb g a b → ⊥
  pub unordered_back : Hb g b a → ⊥

-- what a location may be allocated as, to be accessed atomically or not
abbrev pub fits : AllocKind → Bool → Bool
fits kind.Na atomic = not atomic
fits kind.Acq atomic = atomic
fits kind.Rmw atomic = atomic

-- the location was allocated for such accesses
pub record IsAllocated (g : Graph) (l : ℤ) (atomic : Bool) : Type 0 where
  pub alloc : ℕ
  pub kind : AllocKind
  pub allocates : Allocates g alloc kind l
  pub fits : fits kind atomic ≡ true

-- event e frees l
pub record IsFreed (g : Graph) (e : ℕ) (l : ℤ) : Type 0 where
  pub event : Event
  pub is : Is g e event
  pub frees : event.label ≡ label.Free l

-- an execution after which thread t stands at `last t` is safe
pub record IsSafe (g : Graph) (last : ℕ → Config) : Type 0 where
  pub no_race : (a b : ℕ) → IsRace g a b → ⊥
  -- each read has a source
  pub initialised : (e : ℕ) (x : Event) (t : Touch) → Is g e x → read_by x.label ≡ Some t → (w : ℕ) × (x.from ≡ Some w)
  pub allocated : (e : ℕ) (x : Event) (l : ℤ) (atomic changes : Bool) → IsAccess g e x l atomic changes → IsAllocated g l atomic
  -- what is freed isn't accessed any more
  pub freed : (e f : ℕ) (x : Event) (l : ℤ) (atomic changes : Bool) → IsFreed g f l → IsAccess g e x l atomic changes → (e ≡ f) ⊎ Hb g e f
  pub no_failure : (t : ℕ) → t < length g.threads → last t ≡ failed → ⊥
