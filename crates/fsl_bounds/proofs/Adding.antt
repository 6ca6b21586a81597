-- The test of a new edge finds the closed walks below 0 through it, and its rows are those of the edges with it.
use Rattle.std.proofs.Common.{◌≡◌, ℕ, ◌+◌, ◌<◌, Bool, true, false, not, max, List, [], ◌∷◌, ◌++◌, reverse, Option, ℤ, refl, sym, ◌∙◌, arith}
use Rattle.std.proofs.lemmas.Bool.{and_right, not_from_true}
use Rattle.fsl_lin.specs.declared.edge.Edge.{Edge}
use Rattle.fsl_lin.specs.Walks.{is_below, closes, feasible}
use Rattle.fsl_bounds.specs.declared.added.Added.TheVariants.{Feasible, Infeasible}
use Rattle.fsl_bounds.specs.declared.mark.Mark.{Mark}
use Rattle.fsl_bounds.specs.Matrix.{nodes_of, entry, NegativeWalk, IsSmallEdge, AreRowsAfter, IsMatrix}
use Rattle.fsl_bounds.specs.Marks.{AreBounds}
use Rattle.fsl_bounds.proofs.Least.{closes_exactly, feasible_more}
use Rattle.fsl_bounds.proofs.Matrices.{closes_is, matrix_after}
use Rattle.fsl_bounds.proofs.Undone.{bounds_pushed}

pub refused : (es : List Edge) (rows : List (List (Option ℤ))) (e : Edge) (t : Bool) → IsMatrix es rows
    → t ≡ is_below (entry rows e.to e.from) e.bound → t ≡ true
    → (Infeasible ≡ Infeasible → NegativeWalk es e) × (NegativeWalk es e → Infeasible ≡ Infeasible)
refused es rows e t m is h = (λ s. (closes_exactly es e m.feasible).0 (sym (closes_is es rows e m) ∙ sym is ∙ h), λ w. refl)

pub taken : (es : List Edge) (rows : List (List (Option ℤ))) (e : Edge) (t : Bool) → IsMatrix es rows
    → t ≡ is_below (entry rows e.to e.from) e.bound → t ≡ false
    → (Feasible ≡ Infeasible → NegativeWalk es e) × (NegativeWalk es e → Feasible ≡ Infeasible)
taken es rows e t m is h = (λ s. absurd cc, λ w. let c = (closes_exactly es e m.feasible).1 w in let k = closes_is es rows e m in absurd cc)

pub bounds_after : (edges more : List Edge) (rows after : List (List (Option ℤ))) (marks : List Mark) (e : Edge) (t : Bool) (many old : ℕ)
    → AreBounds edges rows marks → t ≡ is_below (entry rows e.to e.from) e.bound → t ≡ false
    → old ≡ nodes_of (reverse edges) → many ≡ max (max (e.from + 1) (e.to + 1)) old → e.from < 513 → e.to < 513 → IsSmallEdge e
    → AreRowsAfter rows e many after → more ≡ edges ++ e ∷ [] → AreBounds more after marks
bounds_after edges more rows after marks e t many old h is f n k from to small r pushed =
    bounds_pushed edges more rows after marks e h pushed
    (matrix_after (reverse edges) rows after e many h.matrix r (omega arith) from to small
    (sym (closes_is (reverse edges) rows e h.matrix) ∙ sym is ∙ f))

pub infeasible_after : (es : List Edge) (rows : List (List (Option ℤ))) (e : Edge) (t : Bool) → IsMatrix es rows
    → t ≡ is_below (entry rows e.to e.from) e.bound → t ≡ true → feasible (e ∷ es) ≡ false
infeasible_after es rows e t m is h =
    and_right (feasible es) (not (closes es e)) (not_from_true (closes es e) (sym (closes_is es rows e m) ∙ sym is ∙ h))

pub feasible_after : (es : List Edge) (rows : List (List (Option ℤ))) (e : Edge) (t : Bool) → IsMatrix es rows
    → t ≡ is_below (entry rows e.to e.from) e.bound → t ≡ false → feasible (e ∷ es) ≡ true
feasible_after es rows e t m is h = feasible_more es e m.feasible (sym (closes_is es rows e m) ∙ sym is ∙ h)
