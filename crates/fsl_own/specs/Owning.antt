-- Resources, who owns how much of each, and what is known of them in the part `done` of an execution.
use Rattle.std.specs.Prelude.{ℕ, ◌≡◌, ◌+◌, ◌<◌, ◌≤◌, ◌^◌, ◌==◌, ◌&&◌, ◌⊎◌, Bool, false, true, List, [], ◌∷◌, Option, Some, ℤ, if◌then◌else◌}
use Rattle.std.specs.Ordering.{int_eq}
use Rattle.fsl_core.specs.declared.mode.AllocKind.TheVariants as kind
use Rattle.fsl_core.specs.declared.mode.Mode.{Mode}
use Rattle.fsl_graph.specs.declared.event.Event.{Event}
use Rattle.fsl_graph.specs.declared.graph.Graph.{Graph}
use Rattle.fsl_graph.specs.Events.{Writes}
use Rattle.fsl_graph.specs.Sequenced.{In}
use Rattle.fsl_graph.specs.Execution.{Allocates}
use Rattle.fsl_graph.specs.Safe.{IsAccess, IsFreed}
use Rattle.fsl_graph.specs.Positions.{Holder, Position, Reaches}
use Rattle.fsl_own.specs.Knowledge.{Tells}
use Rattle.fsl_own.specs.Reading.{KnowsWrites}

-- ---- resources

-- what is owned: shares of a cell, leave to acquire a part of an invariant at a location, tokens of a bank, and the
-- authority over a bank
pub data Resource : Type 0 where
  Cell : (loc : ℤ) → Resource
  Permission : (loc : ℤ) (part : ℕ) → Resource
  Tokens : (bank : ℕ) → Resource
  Bank : (bank : ℕ) → Resource

abbrev pub same : Resource → Resource → Bool
same (Cell a) (Cell b) = int_eq a b
same (Permission a p) (Permission b q) = int_eq a b && p == q
same (Tokens a) (Tokens b) = a == b
same (Bank a) (Bank b) = a == b
same _ _ = false

-- an amount of each resource
abbrev pub Heap : Type 0
Heap = Resource → ℕ

-- so much of one resource, and nothing else
abbrev pub only : Resource → ℕ → Heap
only r n s = if same r s then n else 0

abbrev pub nothing : Heap
nothing r = 0

-- what each holder owns
abbrev pub World : Type 0
World = Holder → Heap

-- all shares of a cell
abbrev pub full : ℕ
full = 2 ^ 63

-- what an atomic location was allocated for: read-modify-writes or loads, under an invariant with arguments
pub record Deal : Type 0 where
  pub rmw : Bool
  pub inv : ℕ
  pub args : List ℤ

-- what is known in a part of an execution; of values it may say too little
pub record Known : Type 0 where
  pub values : ℤ → Option ℤ  -- of cells
  pub out : ℤ → ℕ → List ℤ  -- for which a part at a location was gained already
  pub counts : ℕ → ℕ  -- how many tokens a bank may have
  pub banks : ℕ  -- the number of the next bank
  pub deals : ℤ → Option Deal

-- how much of a resource there is at most
abbrev pub limit : Known → Resource → ℕ
limit k (Cell c) = full
limit k (Permission l part) = 1
limit k (Tokens b) = k.counts b
limit k (Bank b) = 1

-- cell c was allocated and isn't freed
pub record IsAlive (g : Graph) (done : List ℕ) (c : ℤ) : Type 0 where
  pub alloc : ℕ
  pub past : In alloc done
  pub made : Allocates g alloc kind.Na c
  pub unfreed : (f : ℕ) → In f done → IsFreed g f c → ⊥

-- there is such a resource
abbrev pub IsThere : Graph → List ℕ → Known → Resource → Type 0
IsThere g done k (Cell c) = IsAlive g done c
IsThere g done k (Permission l part) = (d : Deal) × (k.deals l ≡ Some d)
IsThere g done k (Tokens b) = b < k.banks
IsThere g done k (Bank b) = b < k.banks

-- ---- holders

abbrev pub Among : Holder → List Holder → Type 0
Among h [] = ⊥
Among h (x ∷ xs) = (h ≡ x) ⊎ Among h xs

-- no holder stands twice
abbrev pub AllApart : List Holder → Type 0
AllApart [] = Unit {0}
AllApart (x ∷ xs) = (Among x xs → ⊥) × AllApart xs

-- how much of a resource these have together
abbrev pub total : List Holder → World → Resource → ℕ
total [] w r = 0
total (h ∷ hs) w r = w h r + total hs w r

-- event a accesses cell c non-atomically, or frees it
pub record UsesCell (g : Graph) (a : ℕ) (c : ℤ) : Type 0 where
  pub event : Event
  pub changes : Bool
  pub access : IsAccess g a event c false changes

-- somebody that has a share of c knows of event a; or a is the free of c, or before it
pub data IsCovered (g : Graph) (done : List ℕ) (w : World) (a : ℕ) (c : ℤ) : Type 0 where
  by_holder : (h : Holder) → 1 ≤ w h (Cell c) → Position g done h a → IsCovered g done w a c
  by_free : (f : ℕ) → In f done → IsFreed g f c → Reaches g a f → IsCovered g done w a c

-- a world fits what is done
pub record Owned (g : Graph) (done : List ℕ) (k : Known) (w : World) : Type 0 where
  -- finitely many holders have anything
  pub holders : List Holder
  pub apart : AllApart holders
  pub support : (h : Holder) (r : Resource) → 1 ≤ w h r → Among h holders
  -- what they have is there, and no more than there is
  pub there : (h : Holder) (r : Resource) → 1 ≤ w h r → IsThere g done k r
  pub within : (r : Resource) → total holders w r ≤ limit k r
  -- who has a share of a cell knows of its writes, and each use is known to somebody who has one
  pub knows : (h : Holder) (c : ℤ) → 1 ≤ w h (Cell c) → KnowsWrites g done h c
  pub seen : (a : ℕ) (c : ℤ) → In a done → UsesCell g a c → IsCovered g done w a c

-- ---- changes

-- b has d more in v than in u
pub record Adds (u v : World) (b : Holder) (d : Heap) : Type 0 where
  pub here : (r : Resource) → v b r ≡ u b r + d r
  pub others : (h : Holder) (r : Resource) → (h ≡ b → ⊥) → v h r ≡ u h r

-- a gives d to b
pub record Gives (w v : World) (a b : Holder) (d : Heap) : Type 0 where
  pub mid : World
  pub loses : Adds mid w a d
  pub gains : Adds mid v b d

-- b knows what a knows, where a share of a cell is handed over
abbrev pub TellsOf : Graph → List ℕ → Holder → Holder → Heap → Type 0
TellsOf g done a b d = (c : ℤ) → 1 ≤ d (Cell c) → Tells g done a b

-- deals are never forgotten
abbrev pub KeepsDeals : Known → Known → Type 0
KeepsDeals k k' = (l : ℤ) (d : Deal) → k.deals l ≡ Some d → k'.deals l ≡ Some d

-- what k knew of a resource, k' knows; of tokens nothing is known but how many there may be
abbrev pub Agree : Known → Known → Resource → Type 0
Agree k k' (Cell c) = k'.values c ≡ k.values c
Agree k k' (Permission l part) = k'.out l part ≡ k.out l part
Agree k k' (Tokens b) = Unit {0}
Agree k k' (Bank b) = k'.counts b ≡ k.counts b
