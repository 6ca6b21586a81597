use Rattle.std.proofs.Common.{◌≡◌, drop, map}
use Rattle.fsl_flow.specs.Supported.{all, is_supported_stmt, are_supported}
use Rattle.fsl_flow.proofs.supported.+supported.Given as goal

abbrev pub invariant-are_supported-loop-stmt : goal.invariant-are_supported-loop-stmt
invariant-are_supported-loop-stmt l = all (map is_supported_stmt (drop l.stmt-index l.stmts)) ≡ are_supported l.stmts
