-- Parts of the rules of branches and loops.
use Rattle.std.specs.Prelude.{ℕ, Bool, true, List}
use Rattle.fsl_core.specs.declared.mode.Rung.TheVariants.{Plain}
use Rattle.fsl_core.specs.logic.States.{Rule, Action, ◌>>=◌, ◌>>◌, here}
use Rattle.fsl_core.specs.logic.Deciding.{Condition, decided, assume_cond}
use Rattle.fsl_core.specs.logic.Assertions.{Assertion}
use Rattle.fsl_core.specs.logic.Paths.{drop_chunks, round}

-- a condition is decided over the variables as they are
abbrev pub decided_here : Condition → Rule Bool
decided_here cond = here >>= decided cond

-- a round of a loop once the variables that its body sets have new symbols: the invariant, and what the condition
-- then says
abbrev pub produced : Assertion → Bool → Condition → Action
produced inv answer cond = do
  env ← here
  inv.produce Plain env
  assume_cond answer cond env

-- a round in which the body runs has nothing but the invariant
abbrev pub body_round : Condition → Assertion → ℕ → List ℕ → Action
body_round cond inv declared slots = drop_chunks >> round true cond inv declared slots
