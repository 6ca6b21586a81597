use Rattle.std.proofs.Common.{rules, ◌≡◌, ap, ◌∙◌, Err}
use Rattle.std.specs.Int.{w128}
use Rattle.std.proofs.lemmas.Int.{to_z-of_z}
use mir.Val.{SFits}
use Rattle.std.proofs.lemmas.Bool.{and_from, and_right}
use Rattle.fsl_lin.specs.declared.fault.LinFault.TheVariants.{Wide}
use Rattle.fsl_lin.specs.Combination.{products, trimmed}
use Rattle.fsl_lin.specs.Numbers.{part}
use Rattle.fsl_lin.proofs.Kept.{kept_trimmed}
use Rattle.fsl_lin.proofs.Arrays.{products_part, products_fit, few_used}
use Rattle.fsl_lin.proofs.lin.Lin.from_numbers.Goals as goal

pub from_parts-requires-clause-few : goal.from_parts-requires-clause-few
from_parts-requires-clause-few c =
    rw c.in-Ok.ensures.exact
    (few_used c.args.numbers.now c.in-Some.coefficients.now c.used.result.now c.in-Some.constant.now c.args.k.now c.in-Some.ensures.cases.0 c.used.ensures c.requires)

pub returns-in-Ok-clause-exact : goal.returns-in-Ok-clause-exact
returns-in-Ok-clause-exact c =
    let room : SFits w128 c.in-Some-rest_product.rest = search rules in
    let rest = to_z-of_z w128 c.in-Some-rest_product.rest room ∙ c.in-Some-rest_product.ensures.is in
    ap part (c.from_parts.ensures ∙ (λ i. trimmed (c.in-Ok.ensures.exact i) (rest i)))
    ∙ products_part c.args.numbers.now c.in-Some.coefficients.now c.used.result.now c.in-Some.constant.now c.args.k.now c.in-Some.ensures.cases.0 c.used.ensures

pub returns-in-Ok-clause-kept : goal.returns-in-Ok-clause-kept
returns-in-Ok-clause-kept c =
    let room : SFits w128 c.in-Some-rest_product.rest = search rules in
    let rest = to_z-of_z w128 c.in-Some-rest_product.rest room ∙ c.in-Some-rest_product.ensures.is in
    let same = c.from_parts.ensures ∙ (λ i. trimmed (c.in-Ok.ensures.exact i) (rest i)) in
    let few = few_used c.args.numbers.now c.in-Some.coefficients.now c.used.result.now c.in-Some.constant.now c.args.k.now c.in-Some.ensures.cases.0 c.used.ensures c.requires in
    rw same (kept_trimmed (products c.args.k.now c.used.result.now) _ few c.in-Ok.ensures.narrow c.in-Some-rest_product.ensures.within)

pub returns-in-Ok-clause-narrow : goal.returns-in-Ok-clause-narrow
returns-in-Ok-clause-narrow c =
    products_fit c.args.numbers.now c.in-Some.coefficients.now c.used.result.now c.in-Some.constant.now c.args.k.now c.in-Some.ensures.cases.0 c.used.ensures c.requires
    ∙ and_from _ _ c.in-Some-rest_product.ensures.within c.in-Ok.ensures.narrow

pub returns-in-Err-clause-wide : goal.returns-in-Err-clause-wide
returns-in-Err-clause-wide c h =
    let f : c.in-Err.fault ≡ Wide = cc in
    products_fit c.args.numbers.now c.in-Some.coefficients.now c.used.result.now c.in-Some.constant.now c.args.k.now c.in-Some.ensures.cases.0 c.used.ensures c.requires
    ∙ and_right _ _ (c.in-Err.ensures.wide (ap Err f))
