-- Where a thread stands before an event of it: a function of the program, the graph and the event.
use Rattle.std.specs.Prelude.{ℕ, zero, suc, ◌≡◌, ◌==◌, Bool, true, false, List, [], ◌∷◌, slice_get, Option, Some, None, ℤ, if◌then◌else◌}
use Rattle.fsl_core.specs.declared.act.Act.TheOpen.{Act-F}
use Rattle.fsl_core.specs.declared.act.Act.{Act}
use Rattle.fsl_core.specs.declared.act.Act.TheViews.{out-Act}
use Rattle.fsl_core.specs.declared.act.Stmt.{Stmt}
use Rattle.fsl_core.specs.declared.assertion.Inst.{Inst}
use Rattle.fsl_core.specs.declared.label.Label.TheVariants as label
use Rattle.fsl_core.specs.declared.need.Need.{Need}
use Rattle.fsl_core.specs.declared.need.Need.TheVariants as need
use Rattle.fsl_core.specs.declared.need.Reply.TheVariants as reply
use Rattle.fsl_core.specs.Programs.{Program}
use Rattle.fsl_core.specs.Values.{with_value}
use Rattle.fsl_core.specs.Moves.{Config, running, joining, returned, halted, failed, Values, moved, need_of, showing, start_of, kind_at}
use Rattle.fsl_graph.specs.declared.event.Event.{Event}
use Rattle.fsl_graph.specs.declared.graph.Graph.{Graph}
use Rattle.fsl_graph.specs.Events.{Is}
use Rattle.fsl_graph.specs.Execution.{Answers, IsExecution, reply_of, events_of}

abbrev pub is_local : Need → Bool
is_local need.Local = true
is_local _ = false

-- the configuration behind an event
abbrev pub behind : Program → Config → Option Event → Config
behind p c None = c
behind p c (Some x) = (moved p c (reply_of x.label)).config

-- the configuration before event e, with so many moves and these events ahead; a local move is made at once
abbrev pub before_from : Program → Graph → ℕ → Config → ℕ → List ℕ → Option Config
before_from p g e c zero es = None
before_from p g e c (suc n) [] = None
before_from p g e c (suc n) (d ∷ es) =
    if is_local (need_of p c) then before_from p g e (moved p c reply.Nothing).config n (d ∷ es)
    else if d == e then Some c else before_from p g e (behind p c (slice_get g.events d)) n es

abbrev pub config_before : Program → Graph → ℕ → Option Config
config_before p g e =
    with_value (slice_get g.events e) (λ x.
    with_value (slice_get g.threads x.thread) (λ thread.
    before_from p g e (start_of p thread.proc thread.args) thread.moves (events_of g x.thread)))

-- c stands before event e, and shows it next
pub record IsBefore (p : Program) (g : Graph) (e : ℕ) (x : Event) (c : Config) : Type 0 where
  pub before : config_before p g e ≡ Some c
  pub next : Config
  pub shows : moved p c (reply_of x.label) ≡ showing x.label next
  pub answers : Answers g (need_of p c) x.label

abbrev pub ConfigsDetermined : Type 0
ConfigsDetermined = (p : Program) (g : Graph) (last : ℕ → Config) → IsExecution p g last → (e : ℕ) (x : Event) → Is g e x
    → (c : Config) × IsBefore p g e x c

-- ---- allocations

-- what an atomic location is allocated for: read-modify-writes or not, an invariant with arguments, and the variables'
-- values
pub record Purpose : Type 0 where
  pub rmw : Bool
  pub inst : Inst
  pub env : Values

abbrev pub purpose_by : Act-F Act Stmt → Values → Option Purpose
purpose_by (Act-F.AllocAt slot rmw inst) env = Some (record { rmw = rmw; inst = inst; env = env })
purpose_by _ env = None

abbrev pub purpose_in : List Stmt → Values → Option Purpose
purpose_in [] env = None
purpose_in (stmt ∷ stmts) env = purpose_by (out-Act stmt.act) env

-- what the next move allocates for
abbrev pub purpose_of : Config → Option Purpose
purpose_of (running f fs) = purpose_in f.stmts f.env
purpose_of (joining first count f fs) = None
purpose_of (returned v) = None
purpose_of halted = None
purpose_of failed = None

-- the purpose of an allocation is read off the configuration before it
abbrev pub PurposesDetermined : Type 0
PurposesDetermined = (p : Program) (g : Graph) (e : ℕ) (x : Event) (c : Config) (rmw : Bool) (l : ℤ) → IsBefore p g e x c → x.label ≡ label.Alloc (kind_at rmw) l
    → (why : Purpose) × (purpose_of c ≡ Some why) × (why.rmw ≡ rmw)
