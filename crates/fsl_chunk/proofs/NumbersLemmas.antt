-- Lists whose items are changed one by one, and a list from which a number goes.
use Rattle.std.proofs.Common.{◌≡◌, ℕ, zero, suc, ◌+◌, ◌<◌, List, [], ◌∷◌, ◌++◌, length, map, take, drop, get_or, refl, ap, ◌∙◌, add-one, arith}
use Rattle.std.proofs.lemmas.Grind.{common_steps}
use Rattle.std.specs.Prelude.{slice_set, remove}
use Rattle.fsl_chunk.specs.Numbers.{without, lowered}

next_item : {X : Type 0} (f : X → X) (xs : List X) (i : ℕ) (d : X) → i < length xs → get_or (map f (take i xs) ++ drop i xs) i d ≡ get_or xs i d
next_item f [] i d h = absurd (omega arith)
next_item f (x ∷ xs) zero d h = refl
next_item f (x ∷ xs) (suc i) d h = next_item f xs i d (omega arith)

set_next : {X : Type 0} (f : X → X) (xs : List X) (i : ℕ) (y d : X) → i < length xs → y ≡ f (get_or xs i d)
    → slice_set (map f (take i xs) ++ drop i xs) i y ≡ map f (take (suc i) xs) ++ drop (suc i) xs
set_next f [] i y d h e = absurd (omega arith)
set_next f (x ∷ xs) zero y d h e = ap (λ z. z ∷ xs) e
set_next f (x ∷ xs) (suc i) y d h e = ap (λ ys. f x ∷ ys) (set_next f xs i y d (omega arith) e)

-- the items before i were changed, and now the one at i is
pub one_changed : {X : Type 0} (f : X → X) (xs now : List X) (i : ℕ) (y d : X) → i < length xs → now ≡ map f (take i xs) ++ drop i xs
    → y ≡ f (get_or now i d) → slice_set now i y ≡ map f (take (i + 1) xs) ++ drop (i + 1) xs
one_changed f xs now i y d h e k =
    let same : get_or now i d ≡ get_or xs i d = ap (λ ys. get_or ys i d) e ∙ next_item f xs i d h in
    ap (λ ys. slice_set ys i y) e ∙ rw add-one (set_next f xs i y d h (k ∙ ap f same))

-- the number at i goes
pub one_gone : (gone i : ℕ) (ns : List ℕ) → i < length ns → get_or ns i 0 ≡ gone
    → take i (remove ns i) ++ without gone (drop i (remove ns i)) ≡ take i ns ++ without gone (drop i ns)
one_gone gone i [] h e = absurd (omega arith)
one_gone gone zero (n ∷ ns) h e = grind (arith, common_steps)
one_gone gone (suc i) (n ∷ ns) h e = ap (λ ms. n ∷ ms) (one_gone gone i ns (omega arith) e)

set_lowered : (gone i : ℕ) (ns : List ℕ) → i < length ns → (get_or ns i 0 ≡ gone → ⊥)
    → take (suc i) (slice_set ns i (lowered gone (get_or ns i 0))) ++ without gone (drop (suc i) (slice_set ns i (lowered gone (get_or ns i 0))))
    ≡ take i ns ++ without gone (drop i ns)
set_lowered gone i [] h e = absurd (omega arith)
set_lowered gone zero (n ∷ ns) h e = grind (arith, common_steps)
set_lowered gone (suc i) (n ∷ ns) h e = ap (λ ms. n ∷ ms) (set_lowered gone i ns (omega arith) e)

-- another one stays, one less where it is greater
pub one_lowered : (gone i : ℕ) (ns : List ℕ) → i < length ns → (get_or ns i 0 ≡ gone → ⊥)
    → take (i + 1) (slice_set ns i (lowered gone (get_or ns i 0))) ++ without gone (drop (i + 1) (slice_set ns i (lowered gone (get_or ns i 0))))
    ≡ take i ns ++ without gone (drop i ns)
one_lowered gone i ns h e = rw add-one (set_lowered gone i ns h e)
