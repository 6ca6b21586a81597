use Rattle.std.proofs.Common.{rules, ◌≡◌, ◌∷◌, true, not, ℤ, ap, sym, ◌∙◌}
use Rattle.std.specs.Int.{w128}
use mir.Val.{SFits}
use Rattle.std.proofs.lemmas.Int.{to_z-of_z}
use Rattle.fsl_lin.specs.declared.edge.Edge.{Edge}
use Rattle.fsl_lin.specs.Walks.{feasible}
use Rattle.fsl_bounds.specs.Marks.{is_feasible}
use Rattle.fsl_pure.proofs.Proving.{refutes_edge}
use Rattle.fsl_pure.proofs.table.lay.Goals as goal

pub returns-in-Feasible-clause-told : goal.returns-in-Feasible-clause-told
returns-in-Feasible-clause-told c =
    let room : SFits w128 c.in-Some.edge.bound = search rules in
    let same = to_z-of_z w128 c.in-Some.edge.bound room in
    let holds : feasible (c.in-Some.edge ∷ c.args.table.now.edges) ≡ true =
    ap (λ (b : ℤ). feasible ((let e : Edge = record { from = c.in-Some.edge.from; to = c.in-Some.edge.to; bound = b } in e) ∷ c.args.table.now.edges)) (sym same)
    ∙ c.in_ok-add-in-Some.ensures.feasible ∙ ap is_feasible c.in-Feasible.is in
    sym (refutes_edge _ _ c.in-Some.edge (sym c.in-Some.ensures.exact) ∙ ap not holds)
