use Rattle.std.proofs.Common.{◌≡◌, map, drop}
use Rattle.std.specs.List.{list_any}
use Rattle.fsl_types.specs.Assertions.{is_modal_conjunct}
use Rattle.fsl_types.proofs.assertions.+modal.Given as goal

abbrev pub invariant-is_modal_assertion-loop-conjunct : goal.invariant-is_modal_assertion-loop-conjunct
invariant-is_modal_assertion-loop-conjunct l =
    list_any (λ m. m) (map is_modal_conjunct (drop l.conjunct-index l.conjunct-items)) ≡ list_any (λ m. m) (map is_modal_conjunct l.conjunct-items)
