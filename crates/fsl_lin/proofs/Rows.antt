-- Loops over the equations that are kept.
use Rattle.std.proofs.Common.{◌≡◌, ℕ, ◌+◌, ◌<◌, ◌≤◌, List, ◌∷◌, length, get_or, drop, ℤ, pos, ◌+ℤ◌, ◌-ℤ◌, ◌*ℤ◌, sym, ap, ◌∙◌, arith}
use Rattle.std.proofs.lemmas.Int.{ints}
use Rattle.std.proofs.lemmas.List.{drop_more, drop_all}
use Rattle.fsl_lin.specs.declared.equation.Equation.{Equation}
use Rattle.fsl_lin.specs.Combination.{Combination, coefficient}
use Rattle.fsl_lin.specs.Numbers.{Numbers, part}
use Rattle.fsl_lin.specs.Rows.{taken}
use Rattle.fsl_lin.specs.Equations.{rows_of}

line_next : (x y s a b w : ℤ) → y ≡ x -ℤ s → a ≡ s +ℤ b → x -ℤ a ≡ w → y -ℤ b ≡ w
line_next x y s a b w h k l = omega (arith, ints)

-- one equation more has taken its share
pub left_step : (es : List Equation) (k : ℕ) (e : Equation) (t : Combination) (i : ℕ) (x y whole : ℤ) → k < length es → e ≡ get_or es k e
    → y ≡ x -ℤ (coefficient t e.sym.0 *ℤ part e.lin i) → x -ℤ taken (rows_of (drop k es)) (part t) i ≡ whole
    → y -ℤ taken (rows_of (drop (k + 1) es)) (part t) i ≡ whole
left_step es k e t i x y whole h l v w =
    let here : drop k es ≡ e ∷ drop (k + 1) es = drop_more es k e h ∙ ap (λ (f : Equation). f ∷ drop (k + 1) es) (sym l) in
    line_next x y (coefficient t e.sym.0 *ℤ part e.lin i) _ _ whole v (ap (λ (fs : List Equation). taken (rows_of fs) (part t) i) here) w

line_whole : (x a w : ℤ) → x -ℤ a ≡ w → a ≡ pos 0 → x ≡ w
line_whole x a w h k = omega (arith, ints)

-- no equation is left
pub left_none : (es : List Equation) (k : ℕ) (t : Numbers) (i : ℕ) (x whole : ℤ) → length es ≤ k
    → x -ℤ taken (rows_of (drop k es)) t i ≡ whole → x ≡ whole
left_none es k t i x whole h w = line_whole x _ whole w (ap (λ (fs : List Equation). taken (rows_of fs) t i) (drop_all k es h))
