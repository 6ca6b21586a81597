use Rattle.std.proofs.Common.{◌≡◌, pos, rules, sym, ◌∙◌}
use Rattle.fsl_core.specs.logic.Terms.{last_or}
use Rattle.fsl_lin.specs.Combination.{constant}
use Rattle.fsl_asrt.proofs.TermsLemmas.{last_some, last_none}
use Rattle.fsl_asrt.proofs.terms.result.Goals as goal

pub returns-in_ok-try_clone-in-Some : goal.returns-in_ok-try_clone-in-Some
returns-in_ok-try_clone-in-Some c =
    last_some (constant (pos 0)) c.in-Some.t.now c.args.env.now c.in-Some.ensures ∙ sym c.in_ok-try_clone-in-Some.ensures

pub returns-in-None : goal.returns-in-None
returns-in-None c =
    let e : last_or (constant (pos 0)) c.args.env.now ≡ constant (pos 0) = last_none (constant (pos 0)) c.args.env.now c.in-None.ensures in
    rw e (search rules)
