-- What is held after one more fact.
use Rattle.std.proofs.Common.{◌≡◌, ℕ, zero, suc, ◌-◌, ◌<◌, ◌≤◌, Bool, true, false, cond, not, ◌&&◌, ◌||◌, inl, inr, List, [], ◌∷◌, ◌++◌, map, reverse, Option, Some, None, pos, refl, ap, sym, subst, ◌∙◌, arith}
use Rattle.std.specs.Ordering.{int_eq}
use Rattle.std.proofs.lemmas.Bool.{and_parts, and_from, and_right, or_parts, cases_eq, false_from_ne_true}
use Rattle.std.proofs.lemmas.List.{reverse-append}
use Rattle.fsl_lin.specs.declared.equation.Equation.{Equation}
use Rattle.fsl_lin.specs.declared.fact.Fact.{Fact}
use Rattle.fsl_lin.specs.declared.fact.Fact.TheVariants.{Le, Is}
use Rattle.fsl_lin.specs.declared.sym.Sym.{Sym}
use Rattle.fsl_lin.specs.declared.took.Took.{Took}
use Rattle.fsl_lin.specs.declared.took.Took.TheVariants.{Pivot, Trivial, Absurd, NoPivot}
use Rattle.fsl_lin.specs.Combination.{Combination}
use Rattle.fsl_lin.specs.Numbers.{Numbers, most, part, none, opposite, same_above, is_constant}
use Rattle.fsl_lin.specs.Rows.{Row, IsReduced, normal, is_unit, pivot_below, turned, without, extended, assumed, took_of, took, rows_fit}
use Rattle.fsl_lin.specs.Equations.{rows_of}
use Rattle.fsl_lin.specs.Facts.{rows, bounds, two_bounds, kept, refuted_equation, all_fit, facts_fit, is_zero, proves_normal, proves_is}
use Rattle.fsl_lin.proofs.Pivots.{pivot_is, reduced_extended}
use Rattle.fsl_pure.specs.Table.{some_have}
use Rattle.fsl_pure.specs.Known.{IsHeld, kept_next, Leaves, is_absurd}
use Rattle.fsl_pure.proofs.Linear.{normal_after, normal_twice, normal_opposite, without_none}
use Rattle.fsl_pure.proofs.Proving.{equal}

reduced_more : (rs : List Row) (t : Numbers) (o : Option ℕ) → pivot_below most (normal rs t) ≡ o → IsReduced rs → IsReduced (extended rs (normal rs t) o)
reduced_more rs t None is h = h
reduced_more rs t (Some p) is h = reduced_extended rs t p h (pivot_is most (normal rs t) p is).unit

pub rows_reduced : (fs : List Fact) → IsReduced (rows fs)
rows_reduced [] = tt
rows_reduced (Le t ∷ fs) = rows_reduced fs
rows_reduced (Is t ∷ fs) = reduced_more (rows fs) (part t) (pivot_below most (normal (rows fs) (part t))) refl (rows_reduced fs)

-- a normal form by more equations, of a term or of its normal form by fewer
again : (rs : List Row) (n b : Numbers) (p : ℕ) → IsReduced rs → normal (extended rs n (Some p)) (normal rs b) ≡ normal (extended rs n (Some p)) b
again rs n b p h =
    normal_after rs p (turned p n) (normal rs b) ∙ ap (without p (turned p n)) (normal_twice rs b h) ∙ sym (normal_after rs p (turned p n) b)

all_again : (rs : List Row) (n : Numbers) (bs : List Numbers) (p : ℕ) → IsReduced rs
    → map (normal (extended rs n (Some p))) (map (normal rs) bs) ≡ map (normal (extended rs n (Some p))) bs
all_again rs n [] p h = refl
all_again rs n (b ∷ bs) p h = λ i. again rs n b p h i ∷ all_again rs n bs p h i

without_pivot : (rs : List Row) (n b : Numbers) (p : ℕ) → IsReduced rs → int_eq (normal rs b p) (pos 0) ≡ true
    → normal (extended rs n (Some p)) (normal rs b) ≡ normal rs b
without_pivot rs n b p h z =
    normal_after rs p (turned p n) (normal rs b) ∙ ap (without p (turned p n)) (normal_twice rs b h)
    ∙ without_none p (turned p n) (normal rs b) (equal (normal rs b p) (pos 0) z)

not_false : (t : Bool) → not t ≡ false → t ≡ true
not_false true h = refl
not_false false h = absurd (let g : true ≡ false = h in cc)

-- normal forms without the new pivot stay
all_stay : (rs : List Row) (n : Numbers) (bs : List Numbers) (p : ℕ) → IsReduced rs → some_have p (map (normal rs) bs) ≡ false
    → map (normal (extended rs n (Some p))) (map (normal rs) bs) ≡ map (normal rs) bs
all_stay rs n [] p h f = refl
all_stay rs n (b ∷ bs) p h f =
    let q = or_parts (not (int_eq (normal rs b p) (pos 0))) (some_have p (map (normal rs) bs)) f in
    λ i. without_pivot rs n b p h (not_false (int_eq (normal rs b p) (pos 0)) q.0) i ∷ all_stay rs n bs p h q.1 i

two_bounds_pivot : (t : Numbers) (c : Bool) (p : ℕ) (bs : List Numbers) → two_bounds t c (Some p) bs ≡ bs
two_bounds_pivot t true p bs = refl
two_bounds_pivot t false p bs = refl

next_none : (rs : List Row) (t : Numbers) (c z : Bool) (bs : List Numbers)
    → map (normal rs) (two_bounds t c None bs) ≡ kept_next rs t (cond c (cond z Trivial Absurd) NoPivot) (map (normal rs) bs)
next_none rs t true true bs = refl
next_none rs t true false bs = refl
next_none rs t false z bs = λ i. normal rs t ∷ normal_opposite rs t i ∷ map (normal rs) bs

next_of : (rs : List Row) (t : Numbers) (o : Option ℕ) (bs : List Numbers) → IsReduced rs
    → map (normal (extended rs (normal rs t) o)) (two_bounds t (is_constant (normal rs t)) o bs)
    ≡ kept_next (extended rs (normal rs t) o) t (took_of (normal rs t) o) (map (normal rs) bs)
next_of rs t None bs h = next_none rs t (is_constant (normal rs t)) (int_eq (normal rs t 0) (pos 0)) bs
next_of rs t (Some p) bs h =
    ap (map (normal (extended rs (normal rs t) (Some p)))) (two_bounds_pivot t (is_constant (normal rs t)) p bs) ∙ sym (all_again rs (normal rs t) bs p h)

-- the kept bounds after an equation, by what became of it
pub kept_is_next : (fs : List Fact) (t : Combination) → kept (Is t ∷ fs) ≡ kept_next (rows (Is t ∷ fs)) (part t) (took (rows fs) (part t)) (kept fs)
kept_is_next fs t = next_of (rows fs) (part t) (pivot_below most (normal (rows fs) (part t))) (bounds fs) (rows_reduced fs)

pivot_of : (p : ℕ) (s : Sym) (n : Numbers) → pivot_below most n ≡ Some p → (let k : Took = Pivot (record { 0 = p - 1 }) in k) ≡ Pivot s → suc s.0 ≡ p
pivot_of p s n is same =
    let q : p - 1 ≡ s.0 = cc in
    let low = (pivot_is most n p is).low in
    omega arith

leaves_none : (rs : List Row) (t : Numbers) (c z : Bool) (ns : List Numbers) → Leaves rs (cond c (cond z Trivial Absurd) NoPivot) ns
leaves_none rs t true true ns s k h = absurd (let g : Trivial ≡ Pivot s = k in cc)
leaves_none rs t true false ns s k h = absurd (let g : Absurd ≡ Pivot s = k in cc)
leaves_none rs t false z ns s k h = absurd (let g : NoPivot ≡ Pivot s = k in cc)

leaves_of : (rs : List Row) (t : Numbers) (o : Option ℕ) (bs : List Numbers) → IsReduced rs → pivot_below most (normal rs t) ≡ o
    → Leaves (extended rs (normal rs t) o) (took_of (normal rs t) o) (map (normal rs) bs)
leaves_of rs t None bs h is s k f = leaves_none rs t (is_constant (normal rs t)) (int_eq (normal rs t 0) (pos 0)) (map (normal rs) bs) s k f
leaves_of rs t (Some p) bs h is s k f =
    all_stay rs (normal rs t) bs p h (subst (λ (q : ℕ). some_have q (map (normal rs) bs) ≡ false) (pivot_of p s (normal rs t) is k) f)

pub leaves : (fs : List Fact) (t : Combination) → Leaves (rows (Is t ∷ fs)) (took (rows fs) (part t)) (kept fs)
leaves fs t = leaves_of (rows fs) (part t) (pivot_below most (normal (rows fs) (part t))) (bounds fs) (rows_reduced fs) refl

zero_at : (k : ℕ) (n : Numbers) (p : ℕ) → same_above k n none ≡ true → 0 < p → p ≤ k → n p ≡ pos 0
zero_at zero n p h low high = absurd (omega arith)
zero_at (suc k) n p h low high =
    let q = and_parts (int_eq (n (suc k)) (pos 0)) (same_above k n none) h in
    elim (cases_eq p (suc k)) [
      | inl e ↦ ap n e ∙ equal (n (suc k)) (pos 0) q.0
      | inr d ↦ zero_at k n p q.1 low (omega arith)
    ]

-- a term with a pivot is no constant
pivot_no_constant : (n : Numbers) (p : ℕ) → pivot_below most n ≡ Some p → is_constant n ≡ false
pivot_no_constant n p h =
    false_from_ne_true (is_constant n) (λ c.
    let q = pivot_is most n p h in
    let z : n p ≡ pos 0 = zero_at most n p c q.low q.high in
    let u : false ≡ true = ap is_unit (sym z) ∙ q.unit in
    cc)

absurd_none : (c z : Bool) → is_absurd (cond c (cond z Trivial Absurd) NoPivot) ≡ (c && not z)
absurd_none true true = refl
absurd_none true false = refl
absurd_none false z = refl

first_no : (c d : Bool) → c ≡ false → false ≡ (c && d)
first_no true d h = absurd (let g : true ≡ false = h in cc)
first_no false d h = refl

absurd_of : (n : Numbers) (o : Option ℕ) → pivot_below most n ≡ o → is_absurd (took_of n o) ≡ (is_constant n && not (int_eq (n 0) (pos 0)))
absurd_of n None is = absurd_none (is_constant n) (int_eq (n 0) (pos 0))
absurd_of n (Some p) is = first_no (is_constant n) (not (int_eq (n 0) (pos 0))) (pivot_no_constant n p is)

-- whether an equation is refuted is what became of it
pub absurd_is : (fs : List Fact) (t : Combination) → is_absurd (took (rows fs) (part t)) ≡ (is_constant (normal (rows fs) (part t)) && not (int_eq (normal (rows fs) (part t) 0) (pos 0)))
absurd_is fs t = absurd_of (normal (rows fs) (part t)) (pivot_below most (normal (rows fs) (part t))) refl

-- a bound more
pub held_bound : (fs : List Fact) (t : Combination) (es : List Equation) (bs bs' : List Combination) (u : Bool) → IsHeld fs es bs u
    → map part bs' ≡ normal (rows_of es) (part t) ∷ map part bs → all_fit (map part bs') ≡ true → IsHeld (Le t ∷ fs) es bs' u
held_bound fs t es bs bs' u h added fit =
    let ns : map part bs' ≡ kept (Le t ∷ fs) = added ∙ (λ i. normal (h.equations i) (part t) ∷ h.normal i) in
    record {
      equations = h.equations;
      normal = ns;
      told = h.told;
      fit = and_from (rows_fit (rows fs)) (all_fit (kept (Le t ∷ fs))) (and_parts (rows_fit (rows fs)) (all_fit (kept fs)) h.fit).0 (ap all_fit (sym ns) ∙ fit);
    }

-- an equation more
pub held_equation : (fs : List Fact) (t : Combination) (es es' : List Equation) (bs bs' : List Combination) (u u' : Bool) (k : Took) → IsHeld fs es bs u
    → k ≡ took (rows_of es) (part t) → rows_of es' ≡ assumed (rows_of es) (part t) → rows_fit (rows_of es') ≡ true
    → (Leaves (rows_of es') k (map part bs) → map part bs' ≡ kept_next (rows_of es') (part t) k (map part bs)) → all_fit (map part bs') ≡ true
    → u' ≡ (is_absurd k || u) → IsHeld (Is t ∷ fs) es' bs' u'
held_equation fs t es es' bs bs' u u' k h took_is assumed_is rows_fits next fit told =
    let rows_are : rows_of es' ≡ rows (Is t ∷ fs) = assumed_is ∙ ap (λ (rs : List Row). assumed rs (part t)) h.equations in
    let took_too : k ≡ took (rows fs) (part t) = took_is ∙ ap (λ (rs : List Row). took rs (part t)) h.equations in
    let stays : Leaves (rows_of es') k (map part bs) =
    subst (λ (rs : List Row). Leaves rs k (map part bs)) (sym rows_are)
    (subst (λ (j : Took). Leaves (rows (Is t ∷ fs)) j (map part bs)) (sym took_too)
    (subst (λ (ns : List Numbers). Leaves (rows (Is t ∷ fs)) (took (rows fs) (part t)) ns) (sym h.normal) (leaves fs t))) in
    let ns : map part bs' ≡ kept (Is t ∷ fs) =
    next stays ∙ (λ i. kept_next (rows_are i) (part t) (took_too i) (h.normal i)) ∙ sym (kept_is_next fs t) in
    record {
      equations = rows_are;
      normal = ns;
      told = told ∙ (λ i. is_absurd (took_too i) || h.told i) ∙ ap (λ a. a || refuted_equation fs) (absurd_is fs t);
      fit = and_from (rows_fit (rows (Is t ∷ fs))) (all_fit (kept (Is t ∷ fs))) (ap rows_fit (sym rows_are) ∙ rows_fits) (ap all_fit (sym ns) ∙ fit);
    }

-- an equation more, by which a kept bound passes its bound
pub unfit_equation : (fs : List Fact) (t : Combination) (es es' : List Equation) (bs : List Combination) (u : Bool) (k : Took) → IsHeld fs es bs u
    → k ≡ took (rows_of es) (part t) → rows_of es' ≡ assumed (rows_of es) (part t)
    → all_fit (kept_next (rows_of es') (part t) k (map part bs)) ≡ false → facts_fit (Is t ∷ fs) ≡ false
unfit_equation fs t es es' bs u k h took_is assumed_is unfit =
    let rows_are : rows_of es' ≡ rows (Is t ∷ fs) = assumed_is ∙ ap (λ (rs : List Row). assumed rs (part t)) h.equations in
    let took_too : k ≡ took (rows fs) (part t) = took_is ∙ ap (λ (rs : List Row). took rs (part t)) h.equations in
    and_right (rows_fit (rows (Is t ∷ fs))) (all_fit (kept (Is t ∷ fs)))
    (ap all_fit (kept_is_next fs t ∙ sym (λ i. kept_next (rows_are i) (part t) (took_too i) (h.normal i))) ∙ unfit)

pub facts_pushed : (xs ys : List Fact) (f g : Fact) → ys ≡ xs ++ f ∷ [] → f ≡ g → reverse ys ≡ g ∷ reverse xs
facts_pushed xs ys f g pushed is = ap reverse pushed ∙ reverse-append xs (f ∷ []) ∙ ap (λ (h : Fact). h ∷ reverse xs) is

-- equality is proved by 0, or both ways
pub proves_is_by : (fs : List Fact) (t m : Numbers) → m ≡ normal (rows fs) t
    → proves_is fs t ≡ (is_zero m || (proves_normal (kept fs) m && proves_normal (kept fs) (opposite m)))
proves_is_by fs t m is =
    ap (λ (n : Numbers). is_zero (normal (rows fs) t) || (proves_normal (kept fs) (normal (rows fs) t) && proves_normal (kept fs) n)) (normal_opposite (rows fs) t)
    ∙ ap (λ (n : Numbers). is_zero n || (proves_normal (kept fs) n && proves_normal (kept fs) (opposite n))) (sym is)

pub by_zero : (z p : Bool) → z ≡ true → z ≡ (z || p)
by_zero true p h = refl
by_zero false p h = absurd (let g : false ≡ true = h in cc)

pub not_first : (z p q : Bool) → z ≡ false → p ≡ false → p ≡ (z || (p && q))
not_first true p q h k = absurd (let g : true ≡ false = h in cc)
not_first false true q h k = absurd (let g : true ≡ false = k in cc)
not_first false false q h k = refl

pub by_both : (z p q : Bool) → z ≡ false → p ≡ true → q ≡ (z || (p && q))
by_both true p q h k = absurd (let g : true ≡ false = h in cc)
by_both false true q h k = refl
by_both false false q h k = absurd (let g : false ≡ true = k in cc)
