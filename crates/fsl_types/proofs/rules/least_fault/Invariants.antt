use Rattle.std.proofs.Common.{◌≡◌, drop}
use Rattle.fsl_types.specs.Faults.{least_from}
use Rattle.fsl_types.proofs.rules.least_fault.Given as goal

abbrev pub invariant-loop-fault : goal.invariant-loop-fault
invariant-loop-fault l = least_from l.best (drop l.fault-index l.others) ≡ least_from l.initial.best l.others
