use Rattle.std.proofs.Common.{◌≡◌, map, drop}
use Rattle.std.specs.List.{list_any}
use Rattle.fsl_types.specs.Predicates.{in_statement}
use Rattle.fsl_types.proofs.predicates.+statement.Given as goal

abbrev pub invariant-in_block-loop-statement : goal.invariant-in_block-loop-statement
invariant-in_block-loop-statement l =
    list_any (λ uses. uses) (map in_statement (drop l.statement-index l.statement-items)) ≡ list_any (λ uses. uses) (map in_statement l.statement-items)
