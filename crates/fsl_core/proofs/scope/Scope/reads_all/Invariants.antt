use Rattle.std.proofs.Common.{◌≡◌, drop}
use Rattle.std.specs.List.{list_all}
use Rattle.fsl_core.specs.Scopes.{reads}
use Rattle.fsl_core.proofs.scope.Scope.reads_all.Given as goal

abbrev pub invariant-loop-e : goal.invariant-loop-e
invariant-loop-e l = list_all (reads l.self) (drop l.e-index l.es) ≡ list_all (reads l.self) l.es
