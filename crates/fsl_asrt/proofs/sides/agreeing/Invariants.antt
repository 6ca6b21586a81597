use Rattle.std.proofs.Common.{◌≡◌, ◌++◌, drop, filter}
use Rattle.fsl_core.specs.logic.Deciding.{agrees}
use Rattle.fsl_asrt.proofs.sides.agreeing.Given as goal

abbrev pub invariant-loop-side : goal.invariant-loop-side
invariant-loop-side l =
    l.kept ++ filter (λ x. agrees l.answer x.holds) (drop l.side-index l.sides) ≡ filter (λ x. agrees l.answer x.holds) l.sides
