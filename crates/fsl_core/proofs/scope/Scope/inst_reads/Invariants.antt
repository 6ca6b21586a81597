use Rattle.std.proofs.Common.{◌≡◌, drop}
use Rattle.std.specs.List.{list_all}
use Rattle.fsl_core.specs.Scopes.{inst_argument_fits, inst_reads}
use Rattle.fsl_core.proofs.scope.Scope.inst_reads.Given as goal

abbrev pub invariant-loop-e : goal.invariant-loop-e
invariant-loop-e l = list_all (inst_argument_fits l.self) (drop l.e-index l.e-items) ≡ inst_reads l.self l.inst
