use Rattle.std.specs.Int.{w128}
use Rattle.std.proofs.lemmas.Int.{to_z-of_z}
use mir.Val.{SFits}
use Rattle.fsl_lin.proofs.Kept.{kept_trimmed}
use Rattle.fsl_lin.proofs.lin.Lin.from_parts.Goals as goal

pub invariant_of-result : goal.invariant_of-result
invariant_of-result c =
    let fits : SFits w128 c.args.rest = c.ranges.rest in
    rw (c.trim.ensures, to_z-of_z w128 c.args.rest fits) (kept_trimmed c.args.terms.items c.args.rest c.requires.few c.requires.narrow c.requires.narrow_rest)
