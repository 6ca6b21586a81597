-- Bounds in normal form, and a table of the difference bounds among them.
use Rattle.std.specs.Prelude.{◌≡◌, ℕ, Bool, true, false, not, ◌&&◌, ◌||◌, List, [], ◌∷◌, pos, int_lt}
use Rattle.std.specs.Ordering.{int_eq}
use Rattle.fsl_lin.specs.declared.edge.Edge.{Edge}
use Rattle.fsl_lin.specs.Numbers.{Numbers, is_constant}
use Rattle.fsl_lin.specs.Walks.{feasible}
use Rattle.fsl_lin.specs.Facts.{edge_of, edges, with_edge_of, refuted_bound, all_fit}
use Rattle.fsl_bounds.specs.Marks.{Marked}

-- bounds in normal form contradict each other
abbrev pub contradict : List Numbers → Bool
contradict ns = refuted_bound ns || not (feasible (edges ns))

-- one more bound contradicts those whose difference bounds these edges are
abbrev pub refutes : List Edge → Numbers → Bool
refutes es n = (is_constant n && int_lt (pos 0) (n 0)) || not (feasible (with_edge_of (edge_of n) es))

-- whether the bounds contradict each other is told, and where they don't the table has their edges
pub record IsTable (ns : List Numbers) (table : Marked) (refuted : Bool) : Type 0 where
  pub told : refuted ≡ contradict ns
  pub edges : refuted ≡ false → table ≡ record { edges = edges ns; marks = [] }
  pub fit : all_fit ns ≡ true

-- some bound has this place
abbrev pub some_have : ℕ → List Numbers → Bool
some_have p [] = false
some_have p (n ∷ ns) = not (int_eq (n p) (pos 0)) || some_have p ns
