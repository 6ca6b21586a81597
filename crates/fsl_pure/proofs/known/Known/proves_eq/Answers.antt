use Rattle.std.proofs.Common.{◌≡◌, List, false, reverse, sym, subst, ◌∙◌}
use Rattle.fsl_lin.specs.declared.edge.Edge.{Edge}
use Rattle.fsl_lin.specs.Rows.{Row}
use Rattle.fsl_lin.specs.Walks.{least}
use Rattle.fsl_lin.specs.Facts.{at_most, edges, absurd_facts}
use Rattle.fsl_pure.specs.Nodes.{AreNodes}
use Rattle.fsl_pure.specs.Known.{Assumed}
use Rattle.fsl_pure.proofs.Between.{nodes_equal, both_there, both_not}
use Rattle.fsl_pure.proofs.known.Known.proves_eq.Goals as goal

pub returns-then-walks : goal.returns-then-walks
returns-then-walks c =
    let held = c.self.invariant.held in
    let clear = subst (λ (a : Assumed). absurd_facts a.facts ≡ false) (sym c.self.view_is) c.requires in
    let are = subst (λ (rs : List Row). AreNodes rs c.in-Some.x c.in-Some.y c.args.a.now c.args.b.now) held.equations c.in-Some.ensures in
    let there = c.walks.ensures ∙ (λ i. let e : Edge = c.edge_between.ensures i in at_most (least (edges (held.normal i)) e.from e.to) e.bound) in
    let back = c.walks-then-walks.ensures ∙ (λ i. let e : Edge = c.edge_between-then-walks.ensures i in at_most (least (edges (held.normal i)) e.from e.to) e.bound) in
    rw (← c.self.view_is) (back ∙ both_there _ _ (sym there ∙ c.if-walks.true)
    ∙ sym (nodes_equal (reverse c.self.inside.facts.items) c.in-Some.x c.in-Some.y c.args.a.now c.args.b.now clear are))

pub returns-else-walks : goal.returns-else-walks
returns-else-walks c =
    let held = c.self.invariant.held in
    let clear = subst (λ (a : Assumed). absurd_facts a.facts ≡ false) (sym c.self.view_is) c.requires in
    let are = subst (λ (rs : List Row). AreNodes rs c.in-Some.x c.in-Some.y c.args.a.now c.args.b.now) held.equations c.in-Some.ensures in
    let there = c.walks.ensures ∙ (λ i. let e : Edge = c.edge_between.ensures i in at_most (least (edges (held.normal i)) e.from e.to) e.bound) in
    rw (← c.self.view_is) (there ∙ both_not _ _ (sym there ∙ c.if-walks.false)
    ∙ sym (nodes_equal (reverse c.self.inside.facts.items) c.in-Some.x c.in-Some.y c.args.a.now c.args.b.now clear are))
