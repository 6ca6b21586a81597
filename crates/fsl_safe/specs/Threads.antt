-- How all threads stand while an execution is gone through: each that was started, and that nobody has waited for yet,
-- is good and has its pieces, or has ended and has what it pays.
use Rattle.std.specs.Prelude.{ℕ, ◌≡◌, ◌⊎◌, List, [], ◌∷◌, map, ℤ, Some}
use Rattle.fsl_core.specs.declared.label.Label.TheVariants as label
use Rattle.fsl_core.specs.declared.need.Started.{Started}
use Rattle.fsl_core.specs.Programs.{Program, main_of}
use Rattle.fsl_core.specs.Moves.{Config, returned, start_of}
use Rattle.fsl_graph.specs.declared.event.Event.{Event}
use Rattle.fsl_graph.specs.declared.graph.Graph.{Graph}
use Rattle.fsl_graph.specs.Events.{Is}
use Rattle.fsl_graph.specs.Sequenced.{In, IsAcyclic}
use Rattle.fsl_graph.specs.Consistent.{IsConsistent}
use Rattle.fsl_graph.specs.Execution.{Runs, Starts, Awaits, IsExecution}
use Rattle.fsl_graph.specs.Keeping.{children_of}
use Rattle.fsl_graph.specs.Safe.{IsSafe}
use Rattle.fsl_graph.specs.Threads.{Ahead}
use Rattle.fsl_own.specs.Owning.{World, Known}
use Rattle.fsl_own.specs.Atoms.{Atom}
use Rattle.fsl_ground.specs.Ground.{Ground}
use Rattle.fsl_good.specs.Pieces.{AtPlain, Piece, all_placed, Fits}
use Rattle.fsl_good.specs.Good.{Logic, Good}

-- thread t was started
abbrev pub IsBegun : Graph → List ℕ → ℕ → Type 0
IsBegun g done t = (t ≡ 0) ⊎ ((e : ℕ) × In e done × Starts g e t)

-- a thread has waited for t
abbrev pub IsAwaited : Graph → List ℕ → ℕ → Type 0
IsAwaited g done t = (e : ℕ) × (v : ℤ) × In e done × Awaits g e t v

-- t has started u, for which nobody has waited
pub record IsChild (g : Graph) (done : List ℕ) (t u : ℕ) : Type 0 where
  pub fork : ℕ
  pub past : In fork done
  pub starts : Starts g fork u
  pub parent : starts.event.thread ≡ t
  pub unawaited : IsAwaited g done u → ⊥

-- event e ends thread t
pub record Ends (g : Graph) (e t : ℕ) : Type 0 where
  pub event : Event
  pub is : Is g e event
  pub thread : event.thread ≡ t
  pub value : ℤ
  pub ends : event.label ≡ label.End value

-- thread t goes on, good for the moves that are left
pub record Goes (l : Logic) (p : Program) (g : Graph) (done : List ℕ) (k : Known) (w : World) (owed : ℕ → l.Owed) (t : ℕ) (last : Config) : Type 0 where
  pub config : Config
  pub moves : ℕ
  pub events : List ℕ
  pub runs : Runs p g config moves events last
  pub ahead : Ahead g done t events
  pub children : (u : ℕ) → In u (children_of config) → IsChild g done t u
  pub pieces : List Piece
  pub fits : Fits g done k w t pieces
  pub good : Good l p (owed t) moves config (map owed (children_of config)) pieces
  pub unended : (e : ℕ) → In e done → Ends g e t → ⊥

-- thread t has returned, and has what it pays
pub record HasEnded (l : Logic) (g : Graph) (done : List ℕ) (k : Known) (w : World) (owed : ℕ → l.Owed) (t : ℕ) (last : Config) : Type 0 where
  pub value : ℤ
  pub at : last ≡ returned value
  pub over : (e : ℕ) (x : Event) → Is g e x → x.thread ≡ t → In e done
  pub atoms : List Atom
  pub pays : l.pays (owed t) value atoms
  pub fits : Fits g done k w t (all_placed AtPlain atoms)

pub record AllStand (l : Logic) (p : Program) (g : Graph) (last : ℕ → Config) (done : List ℕ) : Type 0 where
  pub known : Known
  pub world : World
  pub ground : Ground l.asks g done [] known world
  pub owed : ℕ → l.Owed
  pub thread : (t : ℕ) → IsBegun g done t → (IsAwaited g done t → ⊥) → Goes l p g done known world owed t (last t) ⊎ HasEnded l g done known world owed t (last t)

-- ---- the law

-- what starts under a contract is good, for any number of moves
abbrev pub IsAccepted : Logic → Program → Type 0
IsAccepted l p = (o : l.Owed) (call : Started) (ys : List Atom) → l.starts o call ys → (n : ℕ) → Good l p o n (start_of p call.proc call.args) [] (all_placed AtPlain ys)

-- `main` starts with nothing
pub record IsMain (l : Logic) (p : Program) : Type 0 where
  pub owed : l.Owed
  pub starts : (call : Started) → main_of p ≡ Some call.proc → call.args ≡ [] → l.starts owed call []

-- a good program is safe in every consistent acyclic execution
abbrev pub GoodIsSafe : Type 1
GoodIsSafe = (l : Logic) (p : Program) (g : Graph) (last : ℕ → Config) → IsAccepted l p → IsMain l p → IsExecution p g last → IsConsistent g → IsAcyclic g → IsSafe g last
