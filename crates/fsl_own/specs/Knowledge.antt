-- What an event tells: after it, one holder knows of all that another knows of. Both positions are those after
-- the event, so that what is handed over then is known to the one that gets it.
use Rattle.std.specs.Prelude.{ℕ, ◌≡◌, true, List, ◌∷◌, ℤ, map}
use Rattle.fsl_core.specs.declared.label.Ended.{Ended}
use Rattle.fsl_core.specs.declared.label.Label.TheVariants as label
use Rattle.fsl_core.specs.declared.mode.Mode.{Mode}
use Rattle.fsl_core.specs.Programs.{Program}
use Rattle.fsl_core.specs.Moves.{Config}
use Rattle.fsl_graph.specs.declared.event.Event.{Event}
use Rattle.fsl_graph.specs.declared.graph.Graph.{Graph}
use Rattle.fsl_graph.specs.Events.{is_atomic, acquires, releases, Reads, Writes, Updates, Fences}
use Rattle.fsl_graph.specs.Sequenced.{In, Rf, Edge, thread_of}
use Rattle.fsl_graph.specs.Happens.{Hb}
use Rattle.fsl_graph.specs.Execution.{IsExecution, Awaits}
use Rattle.fsl_graph.specs.Safe.{IsRace}
use Rattle.fsl_graph.specs.Orders.{Comes, IsClosed}
use Rattle.fsl_graph.specs.Ends.{IsEndOf}
use Rattle.fsl_graph.specs.Positions.{Position, Holder}
use Rattle.fsl_graph.specs.Positions.{Holder as holder}

-- b knows of all that a knows of
abbrev pub Tells : Graph → List ℕ → Holder → Holder → Type 0
Tells g done a b = (e : ℕ) → Position g done a e → Position g done b e

-- ---- growth

-- no position shrinks
abbrev pub PositionsGrow : Type 0
PositionsGrow = (g : Graph) (done : List ℕ) (e : ℕ) (h : Holder) (a : ℕ) → Position g done h a → Position g (e ∷ done) h a

-- that of a message never changes, and is the same for each part
abbrev pub MessagesStay : Type 0
MessagesStay = (g : Graph) (done more : List ℕ) (w part other : ℕ) (a : ℕ) → Position g done (holder.Message w part) a → Position g more (holder.Message w other) a

-- ---- what happened before

-- what a thread knows of happens before its next event
abbrev pub KnownBefore : Type 0
KnownBefore = (g : Graph) (done : List ℕ) (e : ℕ) (x : Event) (a : ℕ) → Comes g done e x → Position g done (holder.Plain x.thread) a → Hb g a e

-- of its own event it knows
abbrev pub OwnEventKnown : Type 0
OwnEventKnown = (g : Graph) (done : List ℕ) (e : ℕ) (x : Event) → Comes g done e x → Position g (e ∷ done) (holder.Plain x.thread) e

-- so this event races with none of it
abbrev pub KnownRacesNot : Type 0
KnownRacesNot = (g : Graph) (done : List ℕ) (e : ℕ) (x : Event) (a : ℕ) → Comes g done e x → Position g done (holder.Plain x.thread) a → IsRace g a e → ⊥

-- a message is one of a write that is done; the others are there from the start
abbrev pub IsPast : List ℕ → Holder → Type 0
IsPast done (holder.Message w part) = In w done
IsPast done (holder.Plain t) = Unit {0}
IsPast done (holder.Up t) = Unit {0}
IsPast done (holder.Down t) = Unit {0}

-- nobody knows of what isn't done
abbrev pub KnownIsDone : Type 0
KnownIsDone = (g : Graph) (done : List ℕ) (h : Holder) (a : ℕ) → IsClosed (Edge g) done → IsPast done h → Position g done h a → In a done

-- ---- threads

-- a Fork tells the children what their parent knows
abbrev pub ForkTells : Type 0
ForkTells = (g : Graph) (done : List ℕ) (e : ℕ) (x : Event) (children : List ℕ) (t : ℕ) → Comes g done e x
    → x.label ≡ label.Fork children → In t children → Tells g (e ∷ done) (holder.Plain x.thread) (holder.Plain t)

-- a Join tells the parent what each child that it waited for knows
abbrev pub JoinTells : Type 0
JoinTells = (g : Graph) (done : List ℕ) (e : ℕ) (x : Event) (results : List Ended) (t d : ℕ) (v : ℤ) → Comes g done e x
    → x.label ≡ label.Join results → In t (map thread_of results) → IsEndOf g t d v → Tells g (e ∷ done) (holder.Plain t) (holder.Plain x.thread)

-- in an execution, each child that it waited for has ended
abbrev pub AwaitTells : Type 0
AwaitTells = (p : Program) (g : Graph) (last : ℕ → Config) → IsExecution p g last → (done : List ℕ) (e : ℕ) (x : Event) (t : ℕ) (v : ℤ) → Comes g done e x
    → Awaits g e t v → Tells g (e ∷ done) (holder.Plain t) (holder.Plain x.thread)

-- ---- writes

-- a releasing write leaves a message that knows what the thread knows, the write included
abbrev pub ReleaseWriteTells : Type 0
ReleaseWriteTells = (g : Graph) (done : List ℕ) (e : ℕ) (x : Event) (m : Mode) (l v : ℤ) (part : ℕ) → Comes g done e x
    → Writes g e m l v → releases m ≡ true → Tells g (e ∷ done) (holder.Plain x.thread) (holder.Message e part)

-- each atomic write leaves one that knows what the thread's release fences knew
abbrev pub AtomicWriteTells : Type 0
AtomicWriteTells = (g : Graph) (done : List ℕ) (e : ℕ) (x : Event) (m : Mode) (l v : ℤ) (part : ℕ) → Comes g done e x
    → Writes g e m l v → is_atomic m ≡ true → Tells g (e ∷ done) (holder.Up x.thread) (holder.Message e part)

-- and that of a read-modify-write knows what the one that it read knows, whatever its order
abbrev pub UpdateTells : Type 0
UpdateTells = (g : Graph) (done : List ℕ) (w e : ℕ) (m : Mode) (l old new : ℤ) (part other : ℕ)
    → Updates g e m l old new → Rf g w e → Tells g (e ∷ done) (holder.Message w part) (holder.Message e other)

-- ---- reads

-- an acquiring read tells the thread what the message knows
abbrev pub AcquiringReadTells : Type 0
AcquiringReadTells = (g : Graph) (done : List ℕ) (w e : ℕ) (x : Event) (m : Mode) (l v : ℤ) (part : ℕ) → Comes g done e x
    → Reads g e m l v → acquires m ≡ true → Rf g w e → Tells g (e ∷ done) (holder.Message w part) (holder.Plain x.thread)

-- each atomic read tells it to what waits for an acquire fence
abbrev pub AtomicReadTells : Type 0
AtomicReadTells = (g : Graph) (done : List ℕ) (w e : ℕ) (x : Event) (m : Mode) (l v : ℤ) (part : ℕ) → Comes g done e x
    → Reads g e m l v → is_atomic m ≡ true → Rf g w e → Tells g (e ∷ done) (holder.Message w part) (holder.Down x.thread)

-- ---- fences

-- a release fence sets apart what the thread knows
abbrev pub ReleaseFenceTells : Type 0
ReleaseFenceTells = (g : Graph) (done : List ℕ) (e : ℕ) (x : Event) (m : Mode) → Comes g done e x
    → Fences g e m → releases m ≡ true → Tells g (e ∷ done) (holder.Plain x.thread) (holder.Up x.thread)

-- an acquire fence tells the thread what its atomic reads have gained
abbrev pub AcquireFenceTells : Type 0
AcquireFenceTells = (g : Graph) (done : List ℕ) (e : ℕ) (x : Event) (m : Mode) → Comes g done e x
    → Fences g e m → acquires m ≡ true → Tells g (e ∷ done) (holder.Down x.thread) (holder.Plain x.thread)
