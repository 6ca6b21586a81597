use Rattle.std.proofs.Common.{◌≡◌, pos, get_or, rules}
use Rattle.fsl_lin.specs.Combination.{constant}
use Rattle.fsl_asrt.proofs.TermsLemmas.{unset}
use Rattle.fsl_asrt.proofs.terms.var.Goals as goal

pub returns-in-None : goal.returns-in-None
returns-in-None c =
    let e : get_or c.args.env.now c.args.slot (constant (pos 0)) ≡ constant (pos 0) = unset c.args.env.now c.args.slot (constant (pos 0)) c.in-None.ensures in
    rw e (search rules)
