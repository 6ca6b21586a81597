-- Which pivots there are, and terms that have none.
use Rattle.std.proofs.Common.{◌≡◌, ℕ, zero, suc, ◌-◌, ◌<◌, Bool, true, false, cond, eqb, inl, inr, List, [], ◌∷◌, ◌++◌, Option, Some, None, pos, refl, ap, sym, subst, ◌∙◌, arith}
use Rattle.std.proofs.lemmas.Bool.{or_cases, or_left, or_right, eq-eqb}
use Rattle.std.specs.Ordering.{int_eq}
use Rattle.fsl_lin.specs.declared.equation.Equation.{Equation}
use Rattle.fsl_lin.specs.declared.sym.Sym.{Sym}
use Rattle.fsl_lin.specs.declared.took.Took.{Took}
use Rattle.fsl_lin.specs.declared.took.Took.TheVariants.{Trivial, Absurd, NoPivot}
use Rattle.fsl_lin.specs.Numbers.{Numbers, most, is_constant}
use Rattle.fsl_lin.specs.Rows.{Row, AtPivots, normal, pivot_below, turned, all_without, extended, assumed, took_of, took}
use Rattle.fsl_lin.specs.Equations.{rows_of}
use Rattle.fsl_lin.proofs.Pivots.{pivot_is}
use Rattle.fsl_lin.proofs.Reduced.{at_each}
use Rattle.fsl_pure.specs.Nodes.{IsFree, among, IsAmong, noted}

among_more : (n : ℕ) (ss : List Sym) (s : Sym) → among n ss ≡ true → among n (ss ++ s ∷ []) ≡ true
among_more n [] s h = absurd (let g : false ≡ true = h in cc)
among_more n (t ∷ ss) s h =
    elim (or_cases (eqb n t.0) (among n ss) h) [
      | inl e ↦ or_left (eqb n t.0) (among n (ss ++ s ∷ [])) e
      | inr l ↦ or_right (eqb n t.0) (among n (ss ++ s ∷ [])) (among_more n ss s l)
    ]

among_last : (n : ℕ) (ss : List Sym) (s : Sym) → n ≡ s.0 → among n (ss ++ s ∷ []) ≡ true
among_last n [] s h = or_left (eqb n s.0) false (eq-eqb n s.0 h)
among_last n (t ∷ ss) s h = or_right (eqb n t.0) (among n (ss ++ s ∷ [])) (among_last n ss s h)

is_among_more : (ss : List Sym) (s : Sym) (p : ℕ) → IsAmong ss p → IsAmong (ss ++ s ∷ []) p
is_among_more ss s zero h = h
is_among_more ss s (suc n) h = among_more n ss s h

is_among_last : (ss : List Sym) (s : Sym) (p : ℕ) → 0 < p → p - 1 ≡ s.0 → IsAmong (ss ++ s ∷ []) p
is_among_last ss s zero low h = absurd (omega arith)
is_among_last ss s (suc n) low h = among_last n ss s (omega arith)

-- equations without a place have the same pivots
at_without : (P : ℕ → Type 0) (p : ℕ) (e : Numbers) (rs : List Row) → AtPivots P rs → AtPivots P (all_without p e rs)
at_without P p e [] h = tt
at_without P p e (r ∷ rs) h = (h.0, at_without P p e rs h.1)

noted_none : (ss : List Sym) (c z : Bool) → noted (cond c (cond z Trivial Absurd) NoPivot) ss ≡ ss
noted_none ss true true = refl
noted_none ss true false = refl
noted_none ss false z = refl

noted_of : (rs : List Row) (n : Numbers) (o : Option ℕ) (ss : List Sym) → pivot_below most n ≡ o → AtPivots (IsAmong ss) rs
    → AtPivots (IsAmong (noted (took_of n o) ss)) (extended rs n o)
noted_of rs n None ss is h =
    subst (λ (ts : List Sym). AtPivots (IsAmong ts) rs) (sym (noted_none ss (is_constant n) (int_eq (n 0) (pos 0)))) h
noted_of rs n (Some p) ss is h =
    let s : Sym = record { 0 = p - 1 } in (
      is_among_last ss s p (pivot_is most n p is).low refl,
      at_without (IsAmong (ss ++ s ∷ [])) p (turned p n) rs (at_each (IsAmong ss) (IsAmong (ss ++ s ∷ [])) rs (is_among_more ss s) h),
    )

-- the pivots are noted once one more equation is assumed
pub noted_pivots : (es es' : List Equation) (t : Numbers) (k : Took) (ss : List Sym) → AtPivots (IsAmong ss) (rows_of es)
    → k ≡ took (rows_of es) t → rows_of es' ≡ assumed (rows_of es) t → AtPivots (IsAmong (noted k ss)) (rows_of es')
noted_pivots es es' t k ss h took_is rows_are =
    subst (λ (rs : List Row). AtPivots (IsAmong (noted k ss)) rs) (sym rows_are)
    (subst (λ (j : Took). AtPivots (IsAmong (noted j ss)) (assumed (rows_of es) t)) (sym took_is)
    (noted_of (rows_of es) (normal (rows_of es) t) (pivot_below most (normal (rows_of es) t)) ss refl h))

free_zero : (ss : List Sym) (p : ℕ) → IsAmong ss p → IsFree 0 p
free_zero ss zero h = h
free_zero ss (suc n) h = λ e. let g : suc n ≡ 0 = e in cc

free_other : (ss : List Sym) (x : ℕ) → among x ss ≡ false → (p : ℕ) → IsAmong ss p → IsFree (suc x) p
free_other ss x f zero h = h
free_other ss x f (suc n) h = λ e. let g : n ≡ x = omega arith in let k : true ≡ false = sym h ∙ ap (λ (m : ℕ). among m ss) g ∙ f in cc

-- 0 is the node of no pivot
pub all_free_zero : (ss : List Sym) (rs : List Row) → AtPivots (IsAmong ss) rs → AtPivots (IsFree 0) rs
all_free_zero ss rs h = at_each (IsAmong ss) (IsFree 0) rs (free_zero ss) h

-- the node of a symbol that is no pivot
pub all_free : (ss : List Sym) (rs : List Row) (x : ℕ) → among x ss ≡ false → AtPivots (IsAmong ss) rs → AtPivots (IsFree (suc x)) rs
all_free ss rs x f h = at_each (IsAmong ss) (IsFree (suc x)) rs (free_other ss x f) h
