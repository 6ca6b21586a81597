-- The reduced equations that a list of them keeps.
use Rattle.std.specs.Prelude.{suc, ◌<◌, List, [], ◌∷◌}
use Rattle.fsl_lin.specs.Combination.{IsKept}
use Rattle.fsl_lin.specs.Numbers.{part}
use Rattle.fsl_lin.specs.Rows.{Row, IsReduced}
use Rattle.fsl_lin.specs.declared.equation.Equation.{Equation}

abbrev pub row_of : Equation → Row
row_of e = record { pivot = suc e.sym.0; numbers = part e.lin }

abbrev pub rows_of : List Equation → List Row
rows_of [] = []
rows_of (e ∷ es) = row_of e ∷ rows_of es

-- each pivot is a symbol below 512, and each equation a combination that a `Lin` holds
abbrev pub AreNarrow : List Equation → Type 0
AreNarrow [] = Unit {0}
AreNarrow (e ∷ es) = (e.sym.0 < 512) × IsKept e.lin × AreNarrow es

pub record AreKept (es : List Equation) : Type 0 where
  pub narrow : AreNarrow es
  pub reduced : IsReduced (rows_of es)
