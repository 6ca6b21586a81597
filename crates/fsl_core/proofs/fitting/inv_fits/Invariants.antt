use Rattle.std.proofs.Common.{◌≡◌, drop, false}
use Rattle.std.specs.List.{list_all}
use Rattle.fsl_core.specs.WellFormed.{asrt_fits, inv_fits}
use Rattle.fsl_core.proofs.fitting.inv_fits.Given as goal

abbrev pub invariant-loop-part : goal.invariant-loop-part
invariant-loop-part l =
    list_all (λ part. asrt_fits l.invs part false) (drop l.part-index l.part-items) ≡ inv_fits l.invs l.inv
