use Rattle.std.proofs.Common.{◌≡◌, ℕ, ◌+◌, ◌*◌, ◌^◌, ◌-ℤ◌, drop}
use Rattle.fsl_lin.specs.Numbers.{part, listed}
use Rattle.fsl_lin.specs.Rows.{taken, normal}
use Rattle.fsl_lin.specs.Equations.{rows_of}
use Rattle.fsl_lin.specs.Sizes.{IsSize}
use Rattle.fsl_lin.proofs.normal.fill.Given as goal

abbrev pub invariant-loop-equation : goal.invariant-loop-equation
invariant-loop-equation l = record {
  left : (i : ℕ) → listed l.numbers i -ℤ taken (rows_of (drop l.equation-index l.equations)) (part l.t) i ≡ normal (rows_of l.equations) (part l.t) i;
  size : (i : ℕ) → IsSize (2 ^ 90 + l.equation-index * 2 ^ 114) (listed l.numbers i);
}
