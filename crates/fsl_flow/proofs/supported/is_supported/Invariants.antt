use Rattle.std.proofs.Common.{◌≡◌, drop}
use Rattle.std.specs.List.{list_all}
use Rattle.fsl_flow.specs.Supported.{is_supported_proc}
use Rattle.fsl_flow.proofs.supported.is_supported.Given as goal

abbrev pub invariant-loop-proc : goal.invariant-loop-proc
invariant-loop-proc l = list_all is_supported_proc (drop l.proc-index l.proc-items) ≡ list_all is_supported_proc l.p.procs
