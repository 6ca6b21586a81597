use Rattle.std.proofs.Common.{◌≡◌, drop, map}
use Rattle.std.specs.List.{list_any}
use Rattle.fsl_core.specs.logic.Terms.{expr_of}
use Rattle.fsl_asrt.proofs.TermsLemmas.{part_of}
use Rattle.fsl_flow.proofs.says.+expr_says.Given as goal

abbrev pub decreases-expr_says : goal.decreases-expr_says
decreases-expr_says l = goal.size-expr_says l

abbrev pub invariant-loop-part : goal.invariant-loop-part
invariant-loop-part l = list_any (λ p. p.1.says) (map part_of (drop l.part-index l.part-items)) ≡ (expr_of l.e).says

abbrev pub invariant-loop-factor : goal.invariant-loop-factor
invariant-loop-factor l = list_any (λ e. e.says) (map expr_of (drop l.factor-index l.factor-items)) ≡ (expr_of l.e).says
