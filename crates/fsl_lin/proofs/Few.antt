-- Reduced equations are few: no two have one pivot.
use Rattle.std.proofs.Common.{◌≡◌, ℕ, suc, ◌<◌, ◌≤◌, true, false, List, [], ◌∷◌, length, pos, refl, ap, eqb, inl, inr, arith}
use Rattle.std.specs.List.{IsDistinct, AllByRecursion, list_any}
use Rattle.std.proofs.lemmas.Bool.{eqb-true, ne_eqb, or_cases}
use Rattle.std.proofs.lemmas.Map.Keys.{IsDistinct-cons}
use Rattle.std.proofs.lemmas.Map.Steps.{length-le_from_distinct_below}
use Rattle.fsl_lin.specs.declared.equation.Equation.{Equation}
use Rattle.fsl_lin.specs.Numbers.{Numbers, part}
use Rattle.fsl_lin.specs.Rows.{AtPivots, IsReduced}
use Rattle.fsl_lin.specs.Equations.{AreNarrow, AreKept, rows_of}

abbrev symbols : List Equation → List ℕ
symbols [] = []
symbols (e ∷ es) = e.sym.0 ∷ symbols es

symbols_length : (es : List Equation) → length (symbols es) ≡ length es
symbols_length [] = refl
symbols_length (e ∷ es) = ap suc (symbols_length es)

one_not_zero : (n : Numbers) (p q : ℕ) → n p ≡ pos 1 → n q ≡ pos 0 → p ≡ q → ⊥
one_not_zero n p q h k e = let g : n p ≡ n q = ap n e in cc

apart : (n : Numbers) (p : ℕ) (es : List Equation) → n (suc p) ≡ pos 1 → AtPivots (λ q. n q ≡ pos 0) (rows_of es)
    → AllByRecursion (λ q. eqb p q ≡ false) (symbols es)
apart n p [] h k = tt
apart n p (e ∷ es) h k =
    (ne_eqb p e.sym.0 (λ same. one_not_zero n (suc p) (suc e.sym.0) h k.0 (ap suc same)), apart n p es h k.1)

distinct : (es : List Equation) → IsReduced (rows_of es) → IsDistinct eqb (symbols es)
unfolding IsDistinct
distinct [] h = tt
distinct (e ∷ es) h = IsDistinct-cons eqb e.sym.0 (symbols es) (apart (part e.lin) e.sym.0 es h.0 h.1) (distinct es h.3)

below : (es : List Equation) → AreNarrow es → (q : ℕ) → list_any (eqb q) (symbols es) ≡ true → q < 512
below [] h q a = absurd (let f : false ≡ true = a in cc)
below (e ∷ es) h q a =
    elim (or_cases (eqb q e.sym.0) (list_any (eqb q) (symbols es)) a) [
      | inl s ↦ let same : q ≡ e.sym.0 = eqb-true q e.sym.0 s in let small = h.0 in omega arith
      | inr l ↦ below es h.2 q l
    ]

pub few_equations : (es : List Equation) → AreKept es → length es ≤ 512
few_equations es h =
    let n : length (symbols es) ≤ 512 = length-le_from_distinct_below (symbols es) 512 (distinct es h.reduced) (below es h.narrow) in
    let l : length (symbols es) ≡ length es = symbols_length es in
    omega arith
