use Rattle.std.proofs.Common.{List, Option, ℤ, reverse, ap, sym, subst, ◌∙◌, arith}
use Rattle.std.specs.Int.{w128}
use Rattle.std.proofs.lemmas.Int.{to_z-of_z}
use Rattle.fsl_lin.specs.declared.edge.Edge.{Edge}
use Rattle.fsl_bounds.specs.Matrix.{entry, Closed, AreSmall}
use Rattle.fsl_bounds.proofs.Adding.{refused, taken, infeasible_after, feasible_after, bounds_after}
use Rattle.fsl_bounds.proofs.Matrices.{small_entries, closed_entries}
use Rattle.fsl_bounds.proofs.Undone.{marks_pushed, reverse_pushed}
use Rattle.fsl_bounds.proofs.bounds.Bounds.add.Goals as goal

pub closes-requires-clause-rows : goal.closes-requires-clause-rows
closes-requires-clause-rows c =
    subst (λ (rows : List (List (Option ℤ))). AreSmall rows) (sym c.as_slice.ensures.value) (small_entries _ _ c.self.invariant.matrix)

pub rows_after-requires-clause-rows : goal.rows_after-requires-clause-rows
rows_after-requires-clause-rows c =
    subst (λ (rows : List (List (Option ℤ))). AreSmall rows) (sym c.as_slice-2.ensures.value) (small_entries _ _ c.self.invariant.matrix)

pub returns-then-closes-clause-infeasible : goal.returns-then-closes-clause-infeasible
returns-then-closes-clause-infeasible c =
    let e : Edge = record { from = c.args.x; to = c.args.y; bound = c.args.c } in
    let test = rw (c.as_slice.ensures.value, to_z-of_z w128 c.args.c c.ranges.c) at c.closes.ensures in
    rw (← c.self.view_is) (refused _ _ e _ c.self.invariant.matrix test c.if-closes.true)

pub returns-clause-infeasible : goal.returns-clause-infeasible
returns-clause-infeasible c =
    let e : Edge = record { from = c.args.x; to = c.args.y; bound = c.args.c } in
    let test = rw (c.as_slice.ensures.value, to_z-of_z w128 c.args.c c.ranges.c) at c.closes.ensures in
    rw (← c.self.view_is) (taken _ _ e _ c.self.invariant.matrix test c.if-closes.false)

pub invariant_of-self-2 : goal.invariant_of-self-2
invariant_of-self-2 c =
    let e : Edge = record { from = c.args.x; to = c.args.y; bound = c.args.c } in
    let fits = to_z-of_z w128 c.args.c c.ranges.c in
    let test = rw (c.as_slice.ensures.value, fits) at c.closes.ensures in
    let old = rw (← c.self.view_is) at c.nodes.ensures.nodes in
    let after = rw (c.as_slice-2.ensures.value, fits) at c.in_ok-rows.ensures in
    let pushed = rw fits at c.in_ok-push.ensures.items in
    bounds_after _ _ _ _ _ e _ _ _ c.self.invariant test c.if-closes.false old c.nodes_after-many.ensures (omega arith) (omega arith)
    c.requires.size after pushed

pub returns-clause-after : goal.returns-clause-after
returns-clause-after c =
    let e : Edge = record { from = c.args.x; to = c.args.y; bound = c.args.c } in
    let pushed = rw (to_z-of_z w128 c.args.c c.ranges.c) at c.in_ok-push.ensures.items in
    let edges = ap reverse pushed ∙ reverse_pushed c.self.inside.edges.items e in
    let marks = marks_pushed _ _ _ c.self.inside.marks.items e c.self.invariant pushed in
    rw (← c.self.view_is) (λ i. record { edges = edges i; marks = marks i })

pub returns-then-closes-clause-feasible : goal.returns-then-closes-clause-feasible
returns-then-closes-clause-feasible c =
    let e : Edge = record { from = c.args.x; to = c.args.y; bound = c.args.c } in
    let test = rw (c.as_slice.ensures.value, to_z-of_z w128 c.args.c c.ranges.c) at c.closes.ensures in
    rw (← c.self.view_is) (infeasible_after _ _ e _ c.self.invariant.matrix test c.if-closes.true)

pub returns-clause-feasible : goal.returns-clause-feasible
returns-clause-feasible c =
    let e : Edge = record { from = c.args.x; to = c.args.y; bound = c.args.c } in
    let test = rw (c.as_slice.ensures.value, to_z-of_z w128 c.args.c c.ranges.c) at c.closes.ensures in
    rw (← c.self.view_is) (feasible_after _ _ e _ c.self.invariant.matrix test c.if-closes.false)

pub rows_after-requires-clause-closed : goal.rows_after-requires-clause-closed
rows_after-requires-clause-closed c =
    subst (λ (rows : List (List (Option ℤ))). Closed (entry rows)) (sym c.as_slice-2.ensures.value) (closed_entries _ _ c.self.invariant.matrix)
