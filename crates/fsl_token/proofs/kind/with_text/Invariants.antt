use Rattle.std.proofs.Common.{◌≡◌, drop}
use Rattle.std.specs.List.{find}
use Rattle.fsl_token.specs.Words.{is_text}
use Rattle.fsl_token.proofs.kind.with_text.Given as goal

abbrev pub invariant-loop-kind : goal.invariant-loop-kind
invariant-loop-kind l = find (is_text l.text) (drop l.kind-index l.kinds) ≡ find (is_text l.text) l.kinds
