-- Chains of one operator, of at least two parts.
use Rattle.std.proofs.Common.{◌≡◌, List, [], ◌∷◌, ◌++◌, false, refl}
use Rattle.fsl_core.specs.declared.expr.Expr.{Expr}
use Rattle.fsl_core.specs.declared.expr.Expr.TheVariants as expr
use Rattle.fsl_core.specs.declared.expr.Part.{Part}
use Rattle.fsl_core.specs.declared.assertion.Asrt.{Asrt}
use Rattle.fsl_core.specs.declared.assertion.Asrt.TheVariants as asrt
use Rattle.fsl_types.specs.Assertions.{both_of}
use Rattle.fsl_types.specs.Expressions.{product_of, sum_of}

pub product_of_several : (first : Expr) (more : List Expr) → (more ≡ [] → ⊥) → product_of first more ≡ expr.Product ((first ∷ []) ++ more)
product_of_several first [] several = absurd (several refl)
product_of_several first (e ∷ es) several = refl

pub sum_of_several : (first : Expr) (more : List Part) → (more ≡ [] → ⊥) →
    sum_of first more ≡ expr.Sum ((record { minus = false; e = first } ∷ []) ++ more)
sum_of_several first [] several = absurd (several refl)
sum_of_several first (p ∷ ps) several = refl

pub both_of_several : (first : Asrt) (more : List Asrt) → (more ≡ [] → ⊥) → both_of first more ≡ asrt.Both ((first ∷ []) ++ more)
both_of_several first [] several = absurd (several refl)
both_of_several first (a ∷ more) several = refl
