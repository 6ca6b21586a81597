-- What a step of the machine does, and when it refuses.
use Rattle.std.specs.Prelude.{◌≡◌, ◌==◌, Bool, true, false, Option, Some, None}
use Rattle.fsl_core.specs.declared.need.Need.{Need}
use Rattle.fsl_core.specs.Moves.{Config, running, joining, returned, halted, failed}
use Rattle.fsl_graph.specs.declared.ending.LimitKind.{LimitKind}
use Rattle.fsl_machine.specs.declared.steps.Readiness.{Readiness}
use Rattle.fsl_machine.specs.declared.steps.Readiness.TheVariants as readiness
use Rattle.fsl_machine.specs.declared.steps.Stepped.{Stepped}
use Rattle.fsl_machine.specs.declared.steps.Stepped.TheVariants as stepped
use Rattle.fsl_graph.specs.Ending.{limit_of, moves_of}
use Rattle.fsl_moves.specs.Moves.{is_access}
use Rattle.fsl_machine.specs.States.{State, need_in, next_state}

-- how the only thread stands: it waits for nobody but threads that it would have started
abbrev pub readiness_of : Config → Readiness
readiness_of (running f fs) = readiness.Ready
readiness_of (joining first count f fs) = readiness.Waiting
readiness_of (returned v) = readiness.Done
readiness_of halted = readiness.Halted
readiness_of failed = readiness.Failed

-- the moves add up to the bound
abbrev pub is_spent : State → Bool
is_spent s = moves_of s.graph.threads == s.bound

abbrev pub first_refusal : Readiness → Bool → Option LimitKind → Option Stepped
first_refusal readiness.Ready true kind = Some stepped.Spent
first_refusal readiness.Ready false (Some kind) = Some (stepped.Limit kind)
first_refusal readiness.Ready false None = None
first_refusal readiness.Waiting spent kind = Some (stepped.NotReady readiness.Waiting)
first_refusal readiness.Done spent kind = Some (stepped.NotReady readiness.Done)
first_refusal readiness.Halted spent kind = Some (stepped.NotReady readiness.Halted)
first_refusal readiness.Failed spent kind = Some (stepped.NotReady readiness.Failed)

-- why a step is refused, for another cause than memory
abbrev pub refusal_of : State → Option Stepped
refusal_of s = first_refusal (readiness_of s.config) (is_spent s) (limit_of (need_in s) s.graph)

-- the answer of a step says what became of the state
abbrev pub Steps : Stepped → State → State → Type 0
Steps stepped.Moved old new = (refusal_of old ≡ None) × (new ≡ next_state old)
Steps stepped.NoMemory old new = (refusal_of old ≡ None) × (new ≡ old)
Steps (stepped.NotReady why) old new = (refusal_of old ≡ Some (stepped.NotReady why)) × (new ≡ old)
Steps stepped.Spent old new = (refusal_of old ≡ Some stepped.Spent) × (new ≡ old)
Steps (stepped.Limit kind) old new = (refusal_of old ≡ Some (stepped.Limit kind)) × (new ≡ old)

abbrev pub IfLimit : Stepped → (LimitKind → Type 0) → Type 0
IfLimit (stepped.Limit kind) P = P kind
IfLimit _ P = Unit {0}

-- a step that moves asks for a choice where it is a read or a write, whose candidate is chosen; there is one
abbrev pub asks : Stepped → Need → Bool
asks stepped.Moved n = is_access n
asks _ n = false
