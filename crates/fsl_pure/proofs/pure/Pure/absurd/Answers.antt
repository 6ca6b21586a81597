use Rattle.std.proofs.Common.{◌≡◌, sym, subst, ◌∙◌}
use Rattle.fsl_lin.specs.Facts.{absurd_facts}
use Rattle.fsl_pure.specs.Known.{Marked}
use Rattle.fsl_pure.proofs.Follows.{absurd_follows}
use Rattle.fsl_pure.proofs.pure.Pure.absurd.Goals as goal

pub returns-clause-sound : goal.returns-clause-sound
returns-clause-sound c h =
    absurd_follows c.args.self.now.facts (sym (subst (λ (m : Marked). c.absurd.result ≡ absurd_facts m.facts) c.self.view_is c.absurd.ensures) ∙ h)
