use Rattle.std.proofs.Common.{◌≡◌, map, drop}
use Rattle.std.specs.List.{list_any}
use Rattle.fsl_types.specs.Predicates.{in_conjunct}
use Rattle.fsl_types.proofs.predicates.+assertion.Given as goal

abbrev pub invariant-in_assertion-loop-conjunct : goal.invariant-in_assertion-loop-conjunct
invariant-in_assertion-loop-conjunct l =
    list_any (λ uses. uses) (map in_conjunct (drop l.conjunct-index l.conjunct-items)) ≡ list_any (λ uses. uses) (map in_conjunct l.conjunct-items)
