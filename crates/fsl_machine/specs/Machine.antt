-- What a machine keeps.
use Rattle.std.specs.Prelude.{ℕ, ◌≡◌, ◌≤◌, true, [], length}
use Rattle.fsl_core.specs.Programs.{Program}
use Rattle.fsl_core.specs.Moves.{start_of}
use Rattle.fsl_core.specs.Straight.{is_straight}
use Rattle.fsl_graph.specs.Execution.{Runs, events_of}
use Rattle.fsl_moves.specs.declared.config.Config.{Config}
use Rattle.fsl_moves.specs.Config.{config_of, Fits}
use Rattle.fsl_machine.specs.States.{lone_graph}
use Rattle.fsl_machine.specs.History.{Trace}

-- the graph so far is what the moves so far show, which lead to the configuration
pub record IsRun (p : Program) (bound : ℕ) (c : Config) (moves : ℕ) (t : Trace) : Type 0 where
  pub straight : is_straight p ≡ true
  pub fits : Fits p c
  pub within : moves ≤ bound
  pub short : length t.events ≤ moves
  pub runs : Runs p (lone_graph moves t) (start_of p 0 []) moves (events_of (lone_graph moves t) 0) (config_of p c)
