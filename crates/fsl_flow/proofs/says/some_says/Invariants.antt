use Rattle.std.proofs.Common.{◌≡◌, drop, map}
use Rattle.std.specs.List.{list_any}
use Rattle.fsl_core.specs.logic.Terms.{expr_of}
use Rattle.fsl_flow.proofs.says.some_says.Given as goal

abbrev pub invariant-loop-e : goal.invariant-loop-e
invariant-loop-e l = list_any (λ e. e.says) (map expr_of (drop l.e-index l.es)) ≡ list_any (λ e. e.says) (map expr_of l.es)
