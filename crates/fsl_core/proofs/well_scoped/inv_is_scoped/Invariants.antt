use Rattle.std.proofs.Common.{◌≡◌, drop}
use Rattle.std.specs.List.{list_all}
use Rattle.fsl_core.specs.Scopes.{asrt_scoped}
use Rattle.fsl_core.proofs.well_scoped.inv_is_scoped.Given as goal

abbrev pub invariant-loop-part : goal.invariant-loop-part
invariant-loop-part l =
    list_all (λ part. (asrt_scoped part).fits l.given) (drop l.part-index l.part-items)
    ≡ list_all (λ part. (asrt_scoped part).fits l.given) l.inv.parts
