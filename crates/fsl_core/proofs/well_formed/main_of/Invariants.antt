use Rattle.std.proofs.Common.{◌≡◌, drop}
use Rattle.fsl_core.specs.Programs.{named_from}
use Rattle.fsl_core.proofs.well_formed.main_of.Given as goal

abbrev pub invariant-loop-number : goal.invariant-loop-number
invariant-loop-number l = named_from l.number (drop l.number l.procs) ≡ named_from 0 l.procs
