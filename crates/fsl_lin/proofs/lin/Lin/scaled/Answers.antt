use Rattle.std.proofs.Common.{◌≡◌, ◌*ℤ◌, ap, Err}
use Rattle.fsl_lin.specs.declared.fault.LinFault.TheVariants.{Wide}
use Rattle.fsl_lin.specs.Combination.{products}
use Rattle.fsl_lin.proofs.Kept.{few_products, wide_terms}
use Rattle.fsl_lin.proofs.lin.Lin.scaled.Goals as goal

pub from_parts-requires-clause-few : goal.from_parts-requires-clause-few
from_parts-requires-clause-few c =
    rw (c.in-Ok.ensures.exact, c.as_slice.ensures.value)
    (few_products c.args.k.now c.self.inside.terms.items c.self.invariant.few)

pub returns-in-Err-clause-wide : goal.returns-in-Err-clause-wide
returns-in-Err-clause-wide c h =
    let f : c.in-Err.fault ≡ Wide = cc in
    let w = rw c.as_slice.ensures.value at c.in-Err.ensures.wide (ap Err f) in
    rw (← c.self.view_is) (wide_terms (products c.args.k.now c.self.inside.terms.items) (c.self.inside.rest *ℤ c.args.k.now) w)
