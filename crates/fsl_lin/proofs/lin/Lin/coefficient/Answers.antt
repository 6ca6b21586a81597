use Rattle.std.proofs.Common.{rules, ◌≡◌, w32}
use Rattle.std.specs.Int.{w128}
use Rattle.std.proofs.lemmas.Int.{to_z-of_z}
use mir.Val.{SFits}
use Rattle.fsl_lin.proofs.Kept.{each_within, terms_within}
use Rattle.fsl_lin.proofs.lin.Lin.coefficient.Goals as goal

pub returns-clause-narrow : goal.returns-clause-narrow
returns-clause-narrow c =
    let fits : SFits w32 c.at.result = search rules in
    let wide : SFits w128 c.from.result = search rules in
    let same : c.from.result ≡ c.at.result = simp to_z-of_z at c.from.ensures in
    let within = each_within _ c.self.inside.terms.items c.args.s.0 (terms_within _ c.self.invariant) in
    rw (to_z-of_z w128 c.from.result wide, same, c.at.ensures, c.as_slice.ensures.value) within
