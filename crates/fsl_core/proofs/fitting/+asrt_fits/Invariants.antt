use Rattle.std.proofs.Common.{◌≡◌, drop, map}
use Rattle.std.specs.List.{list_all}
use Rattle.fsl_core.specs.WellFormed.{asrt_fits}
use Rattle.fsl_core.proofs.fitting.+asrt_fits.Given as goal

abbrev pub invariant-loop-part : goal.invariant-loop-part
invariant-loop-part l =
    list_all (λ part. part l.modal) (map (asrt_fits l.invs) (drop l.part-index l.part-items)) ≡ asrt_fits l.invs l.asrt l.modal
