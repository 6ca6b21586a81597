use Rattle.std.proofs.Common.{◌≡◌, pos, sym, subst, ◌∙◌}
use Rattle.fsl_lin.specs.Numbers.{part, gapped}
use Rattle.fsl_lin.specs.Facts.{proves_is}
use Rattle.fsl_pure.specs.Known.{Marked}
use Rattle.fsl_pure.proofs.Follows.{eq_follows}
use Rattle.fsl_pure.proofs.pure.Pure.proves_eq.Goals as goal

pub returns-clause-exact : goal.returns-clause-exact
returns-clause-exact c =
    subst (λ (m : Marked). c.proves_eq.result ≡ proves_is m.facts (gapped (part c.args.a.now) (part c.args.b.now) (pos 0))) c.self.view_is
    c.proves_eq.ensures

pub returns-clause-sound : goal.returns-clause-sound
returns-clause-sound c h = eq_follows c.args.self.now.facts (part c.args.a.now) (part c.args.b.now) (sym (returns-clause-exact c) ∙ h)
