use Rattle.std.proofs.Common.{◌≡◌, [], ◌∷◌}
use Rattle.fsl_core.specs.logic.States.{goes}
use Rattle.fsl_core.specs.logic.Calls.{new_symbols}
use Rattle.fsl_flow.proofs.contract.new_symbols.Given as goal

abbrev pub invariant-loop-param : goal.invariant-loop-param
invariant-loop-param l = goes l.env l.state ∷ [] ≡ new_symbols l._param l.fn.state
