use Rattle.std.proofs.Common.{◌≡◌, ◌++◌, drop, map}
use Rattle.fsl_core.specs.logic.States.{followed, give}
use Rattle.fsl_core.specs.logic.Terms.{expr_of}
use Rattle.fsl_core.specs.logic.Assertions.{asrt_of}
use Rattle.fsl_core.specs.logic.Locations.{setting_of}
use Rattle.fsl_core.specs.logic.Calls.{call_of, with_args}
use Rattle.fsl_flow.specs.Calls.{running_of}
use Rattle.fsl_flow.proofs.par.with_args.Given as goal

abbrev pub invariant-loop-call : goal.invariant-loop-call
invariant-loop-call l =
    followed (with_args (setting_of asrt_of l.p) (map (call_of expr_of) (drop l.call-index l.calls)) l.state.env l.state) (λ xs. give (map running_of l.out ++ xs))
    ≡ with_args (setting_of asrt_of l.p) (map (call_of expr_of) l.calls) l.state.env l.state
