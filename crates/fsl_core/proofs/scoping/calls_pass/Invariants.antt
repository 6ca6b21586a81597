use Rattle.std.proofs.Common.{◌≡◌, drop}
use Rattle.std.specs.List.{list_all}
use Rattle.fsl_core.specs.Scopes.{passes}
use Rattle.fsl_core.proofs.scoping.calls_pass.Given as goal

abbrev pub invariant-loop-call : goal.invariant-loop-call
invariant-loop-call l =
    list_all (λ call. passes l.procs l.scope call.proc call.args) (drop l.call-index l.calls)
    ≡ list_all (λ call. passes l.procs l.scope call.proc call.args) l.calls
