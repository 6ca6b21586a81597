use Rattle.std.proofs.Common.{◌≡◌, drop}
use Rattle.std.specs.List.{find}
use Rattle.fsl_token.specs.Words.{begins}
use Rattle.fsl_token.proofs.kind.that_begins.Given as goal

abbrev pub invariant-loop-kind : goal.invariant-loop-kind
invariant-loop-kind l = find (begins l.text) (drop l.kind-index l.kinds) ≡ find (begins l.text) l.kinds
