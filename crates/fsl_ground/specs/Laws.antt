-- The laws of safety and of sources.
use Rattle.std.specs.Prelude.{ℕ, ◌≡◌, true, List, ◌∷◌, None, Some, ℤ}
use Rattle.fsl_core.specs.declared.mode.Mode.{Mode}
use Rattle.fsl_graph.specs.declared.event.Event.{Event}
use Rattle.fsl_graph.specs.declared.graph.Graph.{Graph}
use Rattle.fsl_graph.specs.Events.{Is, Reads, Writes, Updates, read_by}
use Rattle.fsl_graph.specs.Sequenced.{In, Rf}
use Rattle.fsl_graph.specs.Consistent.{IsConsistent}
use Rattle.fsl_graph.specs.Safe.{access_by}
use Rattle.fsl_graph.specs.Orders.{Comes}
use Rattle.fsl_graph.specs.Positions.{Holder as holder}
use Rattle.fsl_own.specs.Owning.{Deal, Known}
use Rattle.fsl_own.specs.Atoms.{IsInit}
use Rattle.fsl_ground.specs.Ground.{IsUnread, IsSafeSoFar, IsSafeNext, IsFree}

-- e reads v at l from the message of a write that is done
pub record Got (g : Graph) (done : List ℕ) (e : ℕ) (l v : ℤ) : Type 0 where
  pub source : ℕ
  pub from : Rf g source e
  pub past : In source done
  pub mode : Mode
  pub writes : Writes g source mode l v

-- a safe event more
abbrev pub SafeNext : Type 0
SafeNext = (g : Graph) (done : List ℕ) (e : ℕ) (x : Event) → IsSafeSoFar g done → Is g e x → IsSafeNext g done e x → IsSafeSoFar g (e ∷ done)

-- an event that accesses nothing is safe
abbrev pub QuietIsSafe : Type 0
QuietIsSafe = (g : Graph) (done : List ℕ) (e : ℕ) (x : Event) → Is g e x → access_by x.label ≡ None → read_by x.label ≡ None → IsSafeNext g done e x

-- a read of a location of which the thread knows a write reads a message of it
abbrev pub InitIsRead : Type 0
InitIsRead = (g : Graph) → IsConsistent g → (done : List ℕ) (k : Known) (e : ℕ) (x : Event) (m : Mode) (l v : ℤ) → Comes g done e x → Reads g e m l v
    → IsInit g done k (holder.Plain x.thread) l → Got g done e l v

-- a read-modify-write reads a message that no other has read
abbrev pub UpdateTakes : Type 0
UpdateTakes = (g : Graph) → IsConsistent g → (done : List ℕ) (e s : ℕ) (x : Event) (m : Mode) (l old new : ℤ) → Comes g done e x → Updates g e m l old new → Rf g s e
    → IsUnread g done s

-- of which nothing is due then
abbrev pub ReadIsFree : Type 0
ReadIsFree = (g : Graph) (done but : List ℕ) (k : Known) (e s part : ℕ) (m n : Mode) (l v old new : ℤ) (d : Deal) → Updates g e m l old new → Rf g s e → Writes g s n l v
    → k.deals l ≡ Some d → d.rmw ≡ true → IsFree g (e ∷ done) but k (holder.Message s part)
