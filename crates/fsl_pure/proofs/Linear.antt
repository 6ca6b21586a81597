-- Normal forms of differences and opposites, and what one more equation makes of normal forms.
use Rattle.std.proofs.Common.{◌≡◌, ℕ, zero, suc, List, [], ◌∷◌, ℤ, pos, ◌+ℤ◌, ◌-ℤ◌, ◌*ℤ◌, neg_ℤ, refl, ap, ◌∙◌, arith}
use Rattle.std.proofs.Math.IntN.{zero-*ℤ}
use Rattle.std.proofs.lemmas.Int.{ints}
use Rattle.fsl_lin.specs.declared.equation.Equation.{Equation}
use Rattle.fsl_lin.specs.Numbers.{Numbers, part, gapped, opposite}
use Rattle.fsl_lin.specs.Rows.{Row, AtPivots, IsReduced, taken, normal, without, all_without}
use Rattle.fsl_lin.specs.Equations.{rows_of}
use Rattle.fsl_lin.proofs.Ring.{distribute, distribute_minus, distribute_right_minus, times_neg, associate}
use Rattle.fsl_lin.proofs.Reduced.{normal_is_normal}

line_minus : (x a b s t u v w : ℤ) → x ≡ a -ℤ b → s ≡ t -ℤ u → v ≡ a +ℤ t → w ≡ b +ℤ u → x +ℤ s ≡ v -ℤ w
line_minus x a b s t u v w h k l m = omega (arith, ints)

taken_gapped : (es : List Equation) (a b : Numbers) (gap : ℤ) (i : ℕ)
    → taken (rows_of es) (gapped a b gap) i ≡ taken (rows_of es) a i -ℤ taken (rows_of es) b i
taken_gapped [] a b gap i = refl
taken_gapped (e ∷ es) a b gap i =
    line_minus _ (a (suc e.sym.0) *ℤ part e.lin i) (b (suc e.sym.0) *ℤ part e.lin i) _ (taken (rows_of es) a i) (taken (rows_of es) b i) _ _
    (distribute_minus (a (suc e.sym.0)) (b (suc e.sym.0)) (part e.lin i)) (taken_gapped es a b gap i) refl refl

line_first : (a b g t s u : ℤ) → t ≡ s -ℤ u → ((a -ℤ b) +ℤ g) -ℤ t ≡ ((a -ℤ s) -ℤ (b -ℤ u)) +ℤ g
line_first a b g t s u h = omega (arith, ints)

line_next : (a b t s u : ℤ) → t ≡ s -ℤ u → (a -ℤ b) -ℤ t ≡ (a -ℤ s) -ℤ (b -ℤ u)
line_next a b t s u h = omega (arith, ints)

gapped_at : (es : List Equation) (a b : Numbers) (gap : ℤ) (i : ℕ)
    → normal (rows_of es) (gapped a b gap) i ≡ gapped (normal (rows_of es) a) (normal (rows_of es) b) gap i
gapped_at es a b gap zero = line_first (a zero) (b zero) gap _ (taken (rows_of es) a zero) (taken (rows_of es) b zero) (taken_gapped es a b gap zero)
gapped_at es a b gap (suc s) = line_next (a (suc s)) (b (suc s)) _ (taken (rows_of es) a (suc s)) (taken (rows_of es) b (suc s)) (taken_gapped es a b gap (suc s))

pub normal_gapped : (es : List Equation) (a b : Numbers) (gap : ℤ)
    → normal (rows_of es) (gapped a b gap) ≡ gapped (normal (rows_of es) a) (normal (rows_of es) b) gap
normal_gapped es a b gap = λ j i. gapped_at es a b gap i j

line_neg : (x a s t : ℤ) → x ≡ neg_ℤ a → s ≡ neg_ℤ t → x +ℤ s ≡ neg_ℤ (a +ℤ t)
line_neg x a s t h k = omega (arith, ints)

taken_opposite : (rs : List Row) (t : Numbers) (i : ℕ) → taken rs (opposite t) i ≡ neg_ℤ (taken rs t i)
taken_opposite [] t i = refl
taken_opposite (r ∷ rs) t i = line_neg _ (t r.pivot *ℤ r.numbers i) _ (taken rs t i) (times_neg (t r.pivot) (r.numbers i)) (taken_opposite rs t i)

line_less_neg : (t s u : ℤ) → s ≡ neg_ℤ u → neg_ℤ t -ℤ s ≡ neg_ℤ (t -ℤ u)
line_less_neg t s u h = omega (arith, ints)

opposite_at : (rs : List Row) (t : Numbers) (i : ℕ) → normal rs (opposite t) i ≡ opposite (normal rs t) i
opposite_at rs t i = line_less_neg (t i) _ (taken rs t i) (taken_opposite rs t i)

pub normal_opposite : (rs : List Row) (t : Numbers) → normal rs (opposite t) ≡ opposite (normal rs t)
normal_opposite rs t = λ j i. opposite_at rs t i j

line_none : (x : ℤ) → x ≡ pos 0 → pos 0 ≡ pos 0 -ℤ x
line_none x h = omega (arith, ints)

line_share : (x a b c s t u d : ℤ) → x ≡ a -ℤ c → b ≡ c → s ≡ t -ℤ u → d ≡ b +ℤ u → x +ℤ s ≡ (a +ℤ t) -ℤ d
line_share x a b c s t u d h k l m = omega (arith, ints)

taken_without : (rs : List Row) (p : ℕ) (e t : Numbers) (i : ℕ) → taken (all_without p e rs) t i ≡ taken rs t i -ℤ (taken rs t p *ℤ e i)
taken_without [] p e t i = line_none _ (zero-*ℤ (e i))
taken_without (r ∷ rs) p e t i =
    line_share _ (t r.pivot *ℤ r.numbers i) _ (t r.pivot *ℤ (r.numbers p *ℤ e i)) _ (taken rs t i) (taken rs t p *ℤ e i) _ (distribute_right_minus (t r.pivot) (r.numbers i) (r.numbers p *ℤ e i))
    (associate (t r.pivot) (r.numbers p) (e i)) (taken_without rs p e t i)
    (distribute (t r.pivot *ℤ r.numbers p) (taken rs t p) (e i))

line_after : (t x s y c q : ℤ) → s ≡ y -ℤ c → q ≡ x -ℤ c → t -ℤ (x +ℤ s) ≡ (t -ℤ y) -ℤ q
line_after t x s y c q h k = omega (arith, ints)

after_at : (rs : List Row) (p : ℕ) (e t : Numbers) (i : ℕ)
    → normal (record { pivot = p; numbers = e } ∷ all_without p e rs) t i ≡ without p e (normal rs t) i
after_at rs p e t i = line_after (t i) (t p *ℤ e i) _ (taken rs t i) (taken rs t p *ℤ e i) _ (taken_without rs p e t i) (distribute_minus (t p) (taken rs t p) (e i))

-- one more equation takes its pivot out of each normal form
pub normal_after : (rs : List Row) (p : ℕ) (e t : Numbers) → normal (record { pivot = p; numbers = e } ∷ all_without p e rs) t ≡ without p e (normal rs t)
normal_after rs p e t = λ j i. after_at rs p e t i j

line_sum_zero : (x y : ℤ) → x ≡ pos 0 → y ≡ pos 0 → x +ℤ y ≡ pos 0
line_sum_zero x y h k = omega (arith, ints)

line_less_zero : (x y : ℤ) → y ≡ pos 0 → x -ℤ y ≡ x
line_less_zero x y h = omega (arith, ints)

taken_zero : (rs : List Row) (t : Numbers) (i : ℕ) → AtPivots (λ p. t p ≡ pos 0) rs → taken rs t i ≡ pos 0
taken_zero [] t i h = refl
taken_zero (r ∷ rs) t i h = line_sum_zero _ _ (ap (λ (z : ℤ). z *ℤ r.numbers i) h.0 ∙ zero-*ℤ (r.numbers i)) (taken_zero rs t i h.1)

free_at : (rs : List Row) (t : Numbers) (i : ℕ) → AtPivots (λ p. t p ≡ pos 0) rs → normal rs t i ≡ t i
free_at rs t i h = line_less_zero (t i) _ (taken_zero rs t i h)

-- without pivots a term is its own normal form
pub normal_free : (rs : List Row) (t : Numbers) → AtPivots (λ p. t p ≡ pos 0) rs → normal rs t ≡ t
normal_free rs t h = λ j i. free_at rs t i h j

twice_at : (rs : List Row) (t : Numbers) (i : ℕ) → IsReduced rs → normal rs (normal rs t) i ≡ normal rs t i
twice_at rs t i h = free_at rs (normal rs t) i (normal_is_normal rs t h).free

-- a normal form is its own
pub normal_twice : (rs : List Row) (t : Numbers) → IsReduced rs → normal rs (normal rs t) ≡ normal rs t
normal_twice rs t h = λ j i. twice_at rs t i h j

without_at : (p : ℕ) (e f : Numbers) (i : ℕ) → f p ≡ pos 0 → without p e f i ≡ f i
without_at p e f i h = line_less_zero (f i) (f p *ℤ e i) (ap (λ (z : ℤ). z *ℤ e i) h ∙ zero-*ℤ (e i))

-- without the pivot a term stays as it is
pub without_none : (p : ℕ) (e f : Numbers) → f p ≡ pos 0 → without p e f ≡ f
without_none p e f h = λ j i. without_at p e f i h j
