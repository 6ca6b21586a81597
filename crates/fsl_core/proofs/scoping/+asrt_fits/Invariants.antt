use Rattle.std.proofs.Common.{◌≡◌, ◌*◌, ◌+◌, drop, map}
use Rattle.fsl_core.specs.Scopes.{asrt_scoped, all_fit, behind_all}
use Rattle.fsl_core.proofs.scoping.+asrt_fits.Given as goal

-- a passed-on assertion is taken in a copy of the scope first
abbrev pub decreases-asrt_fits : goal.decreases-asrt_fits
decreases-asrt_fits l = 2 * goal.size-asrt_fits l

abbrev pub decreases-stands : goal.decreases-stands
decreases-stands l = 2 * goal.size-stands l + 1

abbrev pub invariant-asrt_fits-loop-part : goal.invariant-asrt_fits-loop-part
invariant-asrt_fits-loop-part l = record {
  fits : all_fit (map asrt_scoped (drop l.part-index l.part-items)) l.scope ≡ (asrt_scoped l.asrt).fits l.initial.scope;
  behind : behind_all (map asrt_scoped (drop l.part-index l.part-items)) l.scope ≡ (asrt_scoped l.asrt).behind l.initial.scope;
}
