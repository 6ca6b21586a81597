use Rattle.std.proofs.Common.{◌≡◌, sym, subst, ◌∙◌}
use Rattle.std.specs.Int.{w128}
use Rattle.std.proofs.lemmas.Int.{to_z-of_z}
use Rattle.fsl_lin.specs.Numbers.{part, gapped}
use Rattle.fsl_lin.specs.Facts.{proves_le}
use Rattle.fsl_pure.specs.Known.{Marked}
use Rattle.fsl_pure.proofs.Follows.{le_follows}
use Rattle.fsl_pure.proofs.pure.Pure.proves_le.Goals as goal

pub returns-clause-exact : goal.returns-clause-exact
returns-clause-exact c =
    let here = rw (to_z-of_z w128 c.args.gap c.ranges.gap) at c.proves_le.ensures in
    subst (λ (m : Marked). c.proves_le.result ≡ proves_le m.facts (gapped (part c.args.a.now) (part c.args.b.now) c.args.gap)) c.self.view_is here

pub returns-clause-sound : goal.returns-clause-sound
returns-clause-sound c h =
    le_follows c.args.self.now.facts (part c.args.a.now) (part c.args.b.now) c.args.gap (sym (returns-clause-exact c) ∙ h)
