-- Positions: which events a holder of something knows of, in the part `done` of an execution (its events
-- are those that are done; what happens before one of them is done).
use Rattle.std.specs.Prelude.{ℕ, ◌≡◌, ◌⊎◌, true, List, ℤ}
use Rattle.fsl_core.specs.declared.mode.Mode.{Mode}
use Rattle.fsl_graph.specs.declared.event.Event.{Event}
use Rattle.fsl_graph.specs.declared.graph.Graph.{Graph}
use Rattle.fsl_graph.specs.Events.{Is, is_atomic, releases, Reads, Fences}
use Rattle.fsl_graph.specs.Sequenced.{In, Rf}
use Rattle.fsl_graph.specs.Happens.{Hb, InSequence, ReleasePoint}
use Rattle.fsl_graph.specs.Execution.{Starts}

-- who may hold something: a thread at plain, at up (set apart by a release fence) and at down (gained by
-- relaxed reads), and the message that a write left, for each part of an invariant
pub data Holder : Type 0 where
  Plain : (thread : ℕ) → Holder
  Up : (thread : ℕ) → Holder
  Down : (thread : ℕ) → Holder
  Message : (write part : ℕ) → Holder
  deriving Discrete as Holder-discrete

-- a is b or happens before it
abbrev pub Reaches : Graph → ℕ → ℕ → Type 0
Reaches g a b = (a ≡ b) ⊎ Hb g a b

-- e is an event of thread t, or the Fork that starts it
pub data StandsFor (g : Graph) (t e : ℕ) : Type 0 where
  by_event : (x : Event) → Is g e x → x.thread ≡ t → StandsFor g t e
  by_fork : Starts g e t → StandsFor g t e

-- known to thread t: before an event of it that is done, or before its Fork
pub record IsSeen (g : Graph) (done : List ℕ) (t e : ℕ) : Type 0 where
  pub last : ℕ
  pub past : In last done
  pub stands : StandsFor g t last
  pub reaches : Reaches g e last

-- known at a release fence of thread t that is done
pub record IsFenced (g : Graph) (done : List ℕ) (t e : ℕ) : Type 0 where
  pub fence : ℕ
  pub past : In fence done
  pub event : Event
  pub is : Is g fence event
  pub thread : event.thread ≡ t
  pub mode : Mode
  pub fences : Fences g fence mode
  pub releases : releases mode ≡ true
  pub reaches : Reaches g e fence

-- known at a release point of a write in whose release sequence w is
pub record IsSent (g : Graph) (w e : ℕ) : Type 0 where
  pub head : ℕ
  pub point : ℕ
  pub sequence : InSequence g head w
  pub release : ReleasePoint g point head
  pub reaches : Reaches g e point

-- known by a message that thread t has read atomically
pub record IsGot (g : Graph) (done : List ℕ) (t e : ℕ) : Type 0 where
  pub read : ℕ
  pub past : In read done
  pub mode : Mode
  pub loc : ℤ
  pub value : ℤ
  pub reads : Reads g read mode loc value
  pub thread : reads.event.thread ≡ t
  pub atomic : is_atomic mode ≡ true
  pub source : ℕ
  pub from : Rf g source read
  pub sent : IsSent g source e

abbrev pub Position : Graph → List ℕ → Holder → ℕ → Type 0
Position g done (Plain t) e = IsSeen g done t e
Position g done (Up t) e = IsFenced g done t e
Position g done (Down t) e = IsGot g done t e
Position g done (Message w part) e = IsSent g w e
