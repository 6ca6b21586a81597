-- One more equation among reduced ones.
use Rattle.std.proofs.Common.{◌≡◌, ℕ, zero, suc, ◌+◌, ◌<◌, false, List, [], ◌∷◌, ◌++◌, length, get_or, drop, ℤ, pos, ◌+ℤ◌, ◌-ℤ◌, ◌*ℤ◌, refl, sym, ap, subst, ◌∙◌, append_assoc, arith}
use Rattle.std.proofs.lemmas.Bool.{and_left, and_right}
use Rattle.std.proofs.lemmas.List.{drop_more}
use Rattle.std.proofs.lemmas.Int.{ints}
use Rattle.fsl_lin.specs.declared.equation.Equation.{Equation}
use Rattle.fsl_lin.specs.Combination.{IsKept}
use Rattle.fsl_lin.specs.Numbers.{part, fits}
use Rattle.fsl_lin.specs.Rows.{Row, normal, all_normal, all_without, rows_fit}
use Rattle.fsl_lin.specs.Equations.{AreNarrow, row_of, rows_of}

pub rows_append : (xs ys : List Equation) → rows_of (xs ++ ys) ≡ rows_of xs ++ rows_of ys
rows_append [] ys = refl
rows_append (x ∷ xs) ys = ap (λ (rs : List Row). row_of x ∷ rs) (rows_append xs ys)

pub narrow_append : (xs ys : List Equation) → AreNarrow xs → AreNarrow ys → AreNarrow (xs ++ ys)
narrow_append [] ys h k = k
narrow_append (x ∷ xs) ys h k = (h.0, h.1, narrow_append xs ys h.2 k)

unfit_part : (rs qs : List Row) (r : Row) → fits r.numbers ≡ false → rows_fit (rs ++ r ∷ qs) ≡ false
unfit_part [] qs r h = and_left (fits r.numbers) (rows_fit qs) h
unfit_part (q ∷ rs) qs r h = and_right (fits q.numbers) (rows_fit (rs ++ r ∷ qs)) (unfit_part rs qs r h)

-- how far a loop that reduces equations has come
pub record RowsSoFar (done : List Equation) (left whole : List Row) : Type 0 where
  pub so_far : rows_of done ++ left ≡ whole
  pub narrow : AreNarrow done

pub one_more_row : {done : List Equation} {left whole : List Row} (rest : List Row) (r : Row) (e : Equation) (pushed : List Equation)
    → RowsSoFar done left whole → left ≡ r ∷ rest → row_of e ≡ r → e.sym.0 < 512 → IsKept e.lin
    → pushed ≡ done ++ e ∷ [] → RowsSoFar pushed rest whole
one_more_row {done = done} {left = left} {whole = whole} rest r e pushed sofar here same small kept p =
    let rows_are : rows_of pushed ≡ rows_of done ++ r ∷ [] =
    ap rows_of p ∙ rows_append done (e ∷ []) ∙ ap (λ (q : Row). rows_of done ++ q ∷ []) same in
    record {
      so_far = ap (λ (rs : List Row). rs ++ rest) rows_are ∙ append_assoc (rows_of done) (r ∷ []) rest
          ∙ ap (λ (rs : List Row). rows_of done ++ rs) (sym here) ∙ sofar.so_far;
      narrow = subst AreNarrow (sym p) (narrow_append done (e ∷ []) sofar.narrow (small, kept, tt));
    }

pub one_unfit_row : {done : List Equation} {left whole : List Row} (rest : List Row) (r : Row)
    → RowsSoFar done left whole → left ≡ r ∷ rest → fits r.numbers ≡ false → rows_fit whole ≡ false
one_unfit_row {done = done} {left = left} {whole = whole} rest r sofar here h =
    let g : rows_of done ++ r ∷ rest ≡ whole = ap (λ (rs : List Row). rows_of done ++ rs) (sym here) ∙ sofar.so_far in
    ap rows_fit (sym g) ∙ unfit_part (rows_of done) rest r h

pub all_normal_step : (rs : List Row) (es : List Equation) (k : ℕ) (e : Equation) → k < length es → e ≡ get_or es k e
    → all_normal rs (rows_of (drop k es)) ≡ record { pivot = suc e.sym.0; numbers = normal rs (part e.lin) } ∷ all_normal rs (rows_of (drop (k + 1) es))
all_normal_step rs es k e h l =
    ap (λ (fs : List Equation). all_normal rs (rows_of fs)) (drop_more es k e h ∙ ap (λ (f : Equation). f ∷ drop (k + 1) es) (sym l))

pub narrow_at : (es : List Equation) (k : ℕ) (d : Equation) → k < length es → AreNarrow es → (get_or es k d).sym.0 < 512
narrow_at [] k d h n = absurd (omega arith)
narrow_at (e ∷ es) zero d h n = n.0
narrow_at (e ∷ es) (suc k) d h n = narrow_at es k d (omega arith) n.2

pub kept_at : (es : List Equation) (k : ℕ) (d : Equation) → k < length es → AreNarrow es → IsKept (get_or es k d).lin
kept_at [] k d h n = absurd (omega arith)
kept_at (e ∷ es) zero d h n = n.1
kept_at (e ∷ es) (suc k) d h n = kept_at es k d (omega arith) n.2

line_end : (x y : ℤ) → x -ℤ (y +ℤ pos 0) ≡ x -ℤ y
line_end x y = omega (arith, ints)

-- to reduce by one equation
pub all_normal_one : (r : Row) (qs : List Row) → all_normal (r ∷ []) qs ≡ all_without r.pivot r.numbers qs
all_normal_one r [] = refl
all_normal_one r (q ∷ qs) = λ j. record {
  pivot = q.pivot;
  numbers = λ i. line_end (q.numbers i) (q.numbers r.pivot *ℤ r.numbers i) j;
} ∷ all_normal_one r qs j
