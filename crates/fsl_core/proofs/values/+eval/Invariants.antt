use Rattle.std.proofs.Common.{◌≡◌, map, drop}
use Rattle.fsl_core.specs.Values.{value_of, part_of, sum_from, product_from}
use Rattle.fsl_core.proofs.values.+eval.Given as goal

abbrev pub decreases-eval : goal.decreases-eval
decreases-eval l = goal.size-eval l

-- what is left, from the sum so far, gives the whole
abbrev pub invariant-loop-part : goal.invariant-loop-part
invariant-loop-part l = sum_from l.env l.sum (map part_of (drop l.part-index l.part-items)) ≡ value_of l.e l.env

abbrev pub invariant-loop-factor : goal.invariant-loop-factor
invariant-loop-factor l = product_from l.env l.product (map value_of (drop l.factor-index l.factor-items)) ≡ value_of l.e l.env
