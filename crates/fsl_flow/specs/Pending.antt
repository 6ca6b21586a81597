-- What waits to be followed, from the top of the stack.
use Rattle.std.specs.Prelude.{List}
use Rattle.fsl_core.specs.Verdicts.{End, derived, failed}
use Rattle.fsl_core.specs.logic.States.{State}
use Rattle.fsl_flow.specs.declared.pending.Pending.{Pending}
use Rattle.fsl_flow.specs.declared.pending.Pending.TheVariants as pending
use Rattle.fsl_flow.specs.Continuation.{Continuation, continuation_of, from_last}

-- what waits: a state, and what is left of its path, or a path that is over
pub data Item : Type 0 where
  goes_on : State → Continuation → Item
  over : End → Item

-- ---- the code's values as these. The code adds and takes at the end of its list.

abbrev pub item_of : Pending → Item
item_of (pending.Goes state k) = goes_on state (continuation_of k)
item_of (pending.Ends at) = over (derived at)
item_of (pending.Fails at kind) = over (failed at kind)

abbrev pub stack : List Pending → List Item
stack = from_last item_of
