-- A sum or a difference.
use Rattle.std.specs.Prelude.{ℤ, ◌+ℤ◌, ◌-ℤ◌}
use Rattle.fsl_lin.specs.declared.sign.Sign.{Sign}
use Rattle.fsl_lin.specs.declared.sign.Sign.TheVariants.{Plus, Minus}

abbrev pub signed : Sign → ℤ → ℤ → ℤ
signed Plus x y = x +ℤ y
signed Minus x y = x -ℤ y
