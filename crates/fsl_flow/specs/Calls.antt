-- Parts of the rules of calls, and of threads that run side by side.
use Rattle.std.specs.Prelude.{ℕ, Bool, List, [], ◌∷◌, ◌++◌, map, Option, Some}
use Rattle.fsl_core.specs.declared.mode.Rung.TheVariants.{Plain}
use Rattle.fsl_core.specs.declared.verdict.Mood.TheVariants as mood
use Rattle.fsl_core.specs.logic.States.{Env, Branches, Branch, goes, fails, Rule, Action, ◌>>=◌, ◌>>◌, give, new_symbol}
use Rattle.fsl_core.specs.logic.Assertions.{asrt_of}
use Rattle.fsl_core.specs.logic.Locations.{Contract, contract_of}
use Rattle.fsl_core.specs.logic.Calls as calls
use Rattle.fsl_core.specs.logic.Calls.{new_result, gain_post, set_result}
use Rattle.fsl_lin.specs.Combination.{Combination}
use Rattle.fsl_flow.specs.declared.running.Running.{Running}
use Rattle.fsl_flow.specs.declared.running.Started.{Started}
use Rattle.fsl_flow.specs.declared.running.Started.TheVariants as started

-- ---- calls

-- `ensures` with a result, and the variable that is set to it
abbrev pub gained : Option ℕ → Contract → Env → Option Combination → Action
gained slot q e t = do
  gain_post q e t
  set_result slot t

-- what comes behind `requires`, with a symbol for the result where something speaks of it
abbrev pub behind_pre : Option ℕ → Bool → Contract → Env → Action
behind_pre slot named q e = do
  t ← new_result named
  gained slot q e t

-- ---- threads side by side

-- a procedure behind others, with the environment that its `requires` leaves
abbrev pub started_with : calls.Running → List calls.Running → Env → Rule (List calls.Running)
started_with x before e = give (before ++ record { proc = x.proc; env = e } ∷ [])

-- the `requires` of one procedure, behind those of others
abbrev pub start_one : calls.Running → List calls.Running → Rule (List calls.Running)
start_one x before = do
  e ← x.proc.pre.consume mood.Pre Plain x.env
  started_with x before e

-- a new result, and the `ensures` of one procedure
abbrev pub join_one : calls.Running → Action
join_one x = do
  t ← new_symbol
  gain_post x.proc x.env (Some t)

-- the code's values as those of the rules
abbrev pub running_of : Running → calls.Running
running_of x = record { proc = contract_of asrt_of x.proc.now; env = x.env }

abbrev pub started_of : Started → Branch (List calls.Running)
started_of (started.Goes state running) = goes (map running_of running) state
started_of (started.Fails kind) = fails kind

abbrev pub starts : List Started → Branches (List calls.Running)
starts = map started_of
