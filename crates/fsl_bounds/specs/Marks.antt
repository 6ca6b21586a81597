-- Bounds that can be put back as they were at a mark.
use Rattle.std.specs.Prelude.{Bool, true, false, ◌-◌, ◌≤◌, List, [], ◌∷◌, length, drop, reverse, ℤ, Option}
use Rattle.fsl_lin.specs.declared.edge.Edge.{Edge}
use Rattle.fsl_bounds.specs.declared.added.Added.{Added}
use Rattle.fsl_bounds.specs.declared.added.Added.TheVariants.{Feasible, Infeasible}
use Rattle.fsl_bounds.specs.declared.mark.Mark.{Mark}
use Rattle.fsl_bounds.specs.Matrix.{IsMatrix}

-- the bounds that were added, and those of each mark that is left; the newest first
pub record Marked : Type 0 where
  pub edges : List Edge
  pub marks : List (List Edge)

abbrev pub is_feasible : Added → Bool
is_feasible Feasible = true
is_feasible Infeasible = false

-- what a call of `add` leaves
abbrev pub after_add : Added → Edge → Marked → Marked
after_add Feasible e b = record { edges = e ∷ b.edges; marks = b.marks }
after_add Infeasible e b = b

-- the edges that a mark was set at, of those that are there now
abbrev pub at_mark : List Edge → Mark → List Edge
at_mark es m = drop (length es - m.edges) es

abbrev pub at_marks : List Edge → List Mark → List (List Edge)
at_marks es [] = []
at_marks es (m ∷ ms) = at_mark es m ∷ at_marks (at_mark es m) ms

abbrev pub AreMarks : List Edge → List Mark → Type 0
AreMarks es [] = Unit {0}
AreMarks es (m ∷ ms) = (m.edges ≤ length es) × IsMatrix (at_mark es m) m.rows.items × AreMarks (at_mark es m) ms

-- edges and marks, the oldest first, and the rows of the edges
pub record AreBounds (edges : List Edge) (rows : List (List (Option ℤ))) (marks : List Mark) : Type 0 where
  pub matrix : IsMatrix (reverse edges) rows
  pub marked : AreMarks (reverse edges) (reverse marks)
