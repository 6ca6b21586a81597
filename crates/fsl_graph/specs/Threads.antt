-- The events of a thread by their numbers, those that are still ahead, and what a number or a location has one of.
use Rattle.std.specs.Prelude.{ℕ, ◌≡◌, ◌<◌, ◌⊎◌, Bool, List, [], ◌∷◌, length, map, ℤ}
use Rattle.fsl_core.specs.declared.label.Ended.{Ended}
use Rattle.fsl_core.specs.declared.label.Label.TheVariants as label
use Rattle.fsl_core.specs.declared.mode.AllocKind.{AllocKind}
use Rattle.fsl_core.specs.declared.mode.Mode.{Mode}
use Rattle.fsl_core.specs.Programs.{Program}
use Rattle.fsl_core.specs.Moves.{Config}
use Rattle.fsl_graph.specs.declared.event.Event.{Event}
use Rattle.fsl_graph.specs.declared.graph.Graph.{Graph}
use Rattle.fsl_graph.specs.Events.{Is, Writes}
use Rattle.fsl_graph.specs.Sequenced.{In, thread_of}
use Rattle.fsl_graph.specs.Execution.{numbered_of, events_of, Allocates, IsDistinct, IsExecution}
use Rattle.fsl_graph.specs.Safe.{IsAccess}

-- n is less than each of these
abbrev pub IsBelow : ℕ → List ℕ → Type 0
IsBelow n [] = Unit {0}
IsBelow n (e ∷ es) = (n < e) × IsBelow n es

abbrev pub IsAscending : List ℕ → Type 0
IsAscending [] = Unit {0}
IsAscending (e ∷ es) = IsBelow e es × IsAscending es

-- these are the events of thread t that aren't done, in order
pub record Ahead (g : Graph) (done : List ℕ) (t : ℕ) (events : List ℕ) : Type 0 where
  pub new : (e : ℕ) → In e events → In e done → ⊥
  pub from : (e : ℕ) → In e events → (x : Event) × Is g e x × (x.thread ≡ t)
  pub to : (e : ℕ) (x : Event) → Is g e x → x.thread ≡ t → (In e done → ⊥) → In e events
  pub ascending : IsAscending events

-- e stands right behind d
abbrev pub IsNext : ℕ → ℕ → List ℕ → Type 0
IsNext d e [] = ⊥
IsNext d e (a ∷ []) = ⊥
IsNext d e (a ∷ b ∷ es) = ((a ≡ d) × (b ≡ e)) ⊎ IsNext d e (b ∷ es)

-- ---- the laws

-- the events of a thread ascend
abbrev pub NumbersAscend : Type 0
NumbersAscend = (t n : ℕ) (xs : List Event) → IsAscending (numbered_of t n xs)

-- where no event of a thread is done, all are ahead
abbrev pub AllAhead : Type 0
AllAhead = (g : Graph) (done : List ℕ) (t : ℕ) → ((e : ℕ) (x : Event) → Is g e x → x.thread ≡ t → In e done → ⊥) → Ahead g done t (events_of g t)

abbrev pub EachNumberIsOne : Type 0
EachNumberIsOne = (g : Graph) (e : ℕ) → e < length g.events → (x : Event) × Is g e x

abbrev pub OneEvent : Type 0
OneEvent = (g : Graph) (e : ℕ) (x y : Event) → Is g e x → Is g e y → x ≡ y

abbrev pub OneWrite : Type 0
OneWrite = (g : Graph) (e : ℕ) (m n : Mode) (l k v u : ℤ) → Writes g e m l v → Writes g e n k u → (m ≡ n) × (l ≡ k) × (v ≡ u)

abbrev pub OneAccess : Type 0
OneAccess = (g : Graph) (e : ℕ) (x y : Event) (l k : ℤ) (a b c d : Bool) → IsAccess g e x l a c → IsAccess g e y k b d → (l ≡ k) × (a ≡ b) × (c ≡ d)

-- a location that is allocated once has one kind
abbrev pub OneKind : Type 0
OneKind = (g : Graph) → IsDistinct g → (a b : ℕ) (j k : AllocKind) (l : ℤ) → Allocates g a j l → Allocates g b k l → j ≡ k

-- in an execution, a Join that is a thread's next event behind a Fork has one result of each thread that this started
abbrev pub JoinsWaitForAll : Type 0
JoinsWaitForAll = (p : Program) (g : Graph) (last : ℕ → Config) → IsExecution p g last
    → (d e : ℕ) (x y : Event) (children : List ℕ) (results : List Ended) → Is g d x → x.label ≡ label.Fork children
    → Is g e y → y.label ≡ label.Join results → IsNext d e (events_of g x.thread) → map thread_of results ≡ children
