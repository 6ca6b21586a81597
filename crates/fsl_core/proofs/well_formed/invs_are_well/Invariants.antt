use Rattle.std.proofs.Common.{◌≡◌, drop}
use Rattle.std.specs.List.{list_all}
use Rattle.fsl_core.specs.WellFormed.{inv_is_well}
use Rattle.fsl_core.proofs.well_formed.invs_are_well.Given as goal

abbrev pub invariant-loop-inv : goal.invariant-loop-inv
invariant-loop-inv l = list_all (inv_is_well l.invs) (drop l.inv-index l.invs) ≡ list_all (inv_is_well l.invs) l.invs
