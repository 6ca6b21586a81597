-- What an equation makes of those that are kept.
use Rattle.std.specs.Prelude.{◌≡◌, List}
use Rattle.fsl_lin.specs.Numbers.{Numbers}
use Rattle.fsl_lin.specs.Rows.{assumed, took}
use Rattle.fsl_lin.specs.Equations.{AreKept, rows_of}
use Rattle.fsl_lin.specs.declared.equation.Equation.{Equation}
use Rattle.fsl_lin.specs.declared.took.Took.{Took}
use Rattle.fsl_lin.specs.declared.took.Took.TheVariants.{Pivot}
use Rattle.fsl_lin.specs.declared.step.Step.{Step}
use Rattle.fsl_lin.specs.declared.step.Step.TheVariants.{More, Same}

-- what became of the equation `t = 0`, and the equations after it
pub record IsStepTo (es : List Equation) (t : Numbers) (became : Took) (next : List Equation) : Type 0 where
  pub took : became ≡ took (rows_of es) t
  pub rows : rows_of next ≡ assumed (rows_of es) t
  pub kept : AreKept next

abbrev pub IsStep : List Equation → Numbers → Step → Type 0
IsStep es t (More sym next) = IsStepTo es t (Pivot sym) next.items
IsStep es t (Same became) = IsStepTo es t became es
