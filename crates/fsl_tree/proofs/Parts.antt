-- Parts one after the other, and the last of them.
use Rattle.std.proofs.Common.{◌≡◌, List, [], ◌∷◌, ◌++◌, map, refl, ap}
use Rattle.fsl_tree.specs.SpelledExpressions.{Tokens, Spelled, all}

pub all_last : {A : Type 0} (f : A → Spelled) (xs : List A) (x : A) (after : Tokens) → all (map f xs) (f x after) ≡ all (map f (xs ++ x ∷ [])) after
all_last f [] x after = refl
all_last f (y ∷ ys) x after = ap (λ (tokens : Tokens). f y tokens) (all_last f ys x after)
