use Rattle.std.proofs.Common.{◌≡◌, List, false, reverse, sym, subst, ◌∙◌}
use Rattle.fsl_lin.specs.declared.edge.Edge.{Edge}
use Rattle.fsl_lin.specs.Rows.{Row}
use Rattle.fsl_lin.specs.Walks.{least}
use Rattle.fsl_lin.specs.Facts.{at_most, edges, absurd_facts}
use Rattle.fsl_pure.specs.Nodes.{AreNodes}
use Rattle.fsl_pure.specs.Known.{Assumed}
use Rattle.fsl_pure.proofs.Between.{nodes_proved}
use Rattle.fsl_pure.proofs.known.Known.proves_le.Goals as goal

pub returns-in-Some : goal.returns-in-Some
returns-in-Some c =
    let held = c.self.invariant.held in
    let clear = subst (λ (a : Assumed). absurd_facts a.facts ≡ false) (sym c.self.view_is) c.requires.clear in
    let are = subst (λ (rs : List Row). AreNodes rs c.in-Some.x c.in-Some.y c.args.a.now c.args.b.now) held.equations c.in-Some.ensures in
    rw (← c.self.view_is) (c.walks.ensures
    ∙ (λ i. let e : Edge = c.edge_between.ensures i in at_most (least (edges (held.normal i)) e.from e.to) e.bound)
    ∙ sym (nodes_proved (reverse c.self.inside.facts.items) c.in-Some.x c.in-Some.y c.args.a.now c.args.b.now c.args.gap.now clear are))
