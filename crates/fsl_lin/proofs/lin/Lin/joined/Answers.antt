use Rattle.std.proofs.Common.{◌≡◌, ap, Err}
use Rattle.fsl_lin.specs.declared.fault.LinFault.TheVariants.{Wide}
use Rattle.fsl_lin.specs.Combination.{joined}
use Rattle.fsl_lin.specs.Sign.{signed}
use Rattle.fsl_lin.proofs.Kept.{few_joined, wide_terms}
use Rattle.fsl_lin.proofs.lin.Lin.joined.Goals as goal

pub from_parts-requires-clause-few : goal.from_parts-requires-clause-few
from_parts-requires-clause-few c =
    rw (c.in-Ok.ensures.exact, c.as_slice.ensures.value, c.as_slice-2.ensures.value)
    (few_joined (signed c.args.sign) c.self.inside.terms.items c.o.inside.terms.items c.self.invariant.few c.o.invariant.few)

pub returns-in-Err-clause-wide : goal.returns-in-Err-clause-wide
returns-in-Err-clause-wide c h =
    let f : c.in-Err.fault ≡ Wide = cc in
    let w = rw (c.as_slice.ensures.value, c.as_slice-2.ensures.value) at c.in-Err.ensures.wide (ap Err f) in
    rw (← c.self.view_is, ← c.o.view_is) (wide_terms (joined (signed c.args.sign) c.self.inside.terms.items c.o.inside.terms.items) (signed c.args.sign c.self.inside.rest c.o.inside.rest) w)
