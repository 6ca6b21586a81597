use Rattle.std.proofs.Common.{◌≡◌, drop}
use Rattle.std.specs.List.{list_all}
use Rattle.fsl_core.specs.WellFormed.{child_fits}
use Rattle.fsl_core.proofs.well_formed.Given.children_fit.Given as goal

abbrev pub invariant-loop-call : goal.invariant-loop-call
invariant-loop-call l = list_all (child_fits l.self) (drop l.call-index l.calls) ≡ list_all (child_fits l.self) l.calls
