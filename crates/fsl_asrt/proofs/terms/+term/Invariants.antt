use Rattle.std.proofs.Common.{◌≡◌, drop, map}
use Rattle.fsl_core.specs.logic.Terms.{expr_of, signed_term, sum_from, product_from}
use Rattle.fsl_asrt.proofs.TermsLemmas.{part_of, term_of}
use Rattle.fsl_asrt.proofs.terms.+term.Given as goal

abbrev pub decreases-term : goal.decreases-term
decreases-term l = goal.size-term l

abbrev pub invariant-loop-part : goal.invariant-loop-part
invariant-loop-part l =
    sum_from l.pure.facts l.env l.sum (map signed_term (map part_of (drop l.part-index l.part-items))) ≡ (expr_of l.e).term l.pure.facts l.env

abbrev pub invariant-loop-factor : goal.invariant-loop-factor
invariant-loop-factor l =
    product_from l.pure.facts l.env l.so_far (map term_of (map expr_of (drop l.factor-index l.factor-items))) ≡ (expr_of l.e).term l.pure.facts l.env
