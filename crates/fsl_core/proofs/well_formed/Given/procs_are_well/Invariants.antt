use Rattle.std.proofs.Common.{◌≡◌, drop}
use Rattle.std.specs.List.{list_all}
use Rattle.fsl_core.specs.WellFormed.{proc_is_well}
use Rattle.fsl_core.proofs.well_formed.Given.procs_are_well.Given as goal

abbrev pub invariant-loop-proc : goal.invariant-loop-proc
invariant-loop-proc l = list_all (proc_is_well l.self) (drop l.proc-index l.proc-items) ≡ list_all (proc_is_well l.self) l.self.procs
