-- Reduced equations: the normal form is the one term without pivots that differs by a combination of them,
-- and one more equation leaves them reduced.
use Rattle.std.proofs.Common.{◌≡◌, ℕ, suc, List, [], ◌∷◌, length, ℤ, pos, ◌+ℤ◌, ◌-ℤ◌, ◌*ℤ◌, refl, ap, arith}
use Rattle.std.proofs.lemmas.Int.{ints}
use Rattle.fsl_lin.specs.Numbers.{Numbers}
use Rattle.fsl_lin.specs.Rows.{Row, combined, AtPivots, AreFree, IsReduced, IsNormalForm, taken, normal, without, all_without}
use Rattle.fsl_lin.proofs.Ring.{times_zero, times_unit}

pub at_each : (P Q : ℕ → Type 0) (rs : List Row) → ((p : ℕ) → P p → Q p) → AtPivots P rs → AtPivots Q rs
at_each P Q [] f h = tt
at_each P Q (r ∷ rs) f h = (f r.pivot h.0, at_each P Q rs f h.1)

pub at_both : (P Q : ℕ → Type 0) (rs : List Row) → AtPivots P rs → AtPivots Q rs → AtPivots (λ p. P p × Q p) rs
at_both P Q [] h k = tt
at_both P Q (r ∷ rs) h k = ((h.0, k.0), at_both P Q rs h.1 k.1)

line_zero : (x y : ℤ) → x ≡ pos 0 → y ≡ pos 0 → x +ℤ y ≡ pos 0
line_zero x y h k = omega (arith, ints)

line_left : (x y z : ℤ) → x ≡ z → y ≡ pos 0 → x +ℤ y ≡ z
line_left x y z h k = omega (arith, ints)

line_right : (x y z : ℤ) → x ≡ pos 0 → y ≡ z → x +ℤ y ≡ z
line_right x y z h k = omega (arith, ints)

line_less : (x y z : ℤ) → x ≡ z → y ≡ pos 0 → x -ℤ y ≡ z
line_less x y z h k = omega (arith, ints)

line_gone : (x y : ℤ) → y ≡ x → x -ℤ y ≡ pos 0
line_gone x y h = omega (arith, ints)

line_back : (x y z : ℤ) → z ≡ y → x ≡ (x -ℤ y) +ℤ z
line_back x y z h = omega (arith, ints)

line_only : (n t c d : ℤ) → t ≡ n +ℤ c → c ≡ d → n ≡ t -ℤ d
line_only n t c d h k = omega (arith, ints)

line_first : (x y z w : ℤ) → x +ℤ y ≡ z → y ≡ pos 0 → x ≡ w → w ≡ z
line_first x y z w h k l = omega (arith, ints)

line_second : (x y z : ℤ) → x +ℤ y ≡ z → x ≡ pos 0 → y ≡ z
line_second x y z h k = omega (arith, ints)

line_at_pivot : (n t c : ℤ) → t ≡ n +ℤ c → n ≡ pos 0 → c ≡ t
line_at_pivot n t c h k = omega (arith, ints)

pub taken_free : (rs : List Row) (t : Numbers) (q : ℕ) → AreFree q rs → taken rs t q ≡ pos 0
taken_free [] t q h = refl
taken_free (r ∷ rs) t q h = line_zero _ _ (times_zero (t r.pivot) (r.numbers q) h.0) (taken_free rs t q h.1)

pub combined_free : (ks : List ℤ) (rs : List Row) (q : ℕ) → AreFree q rs → combined ks rs q ≡ pos 0
combined_free [] rs q h = refl
combined_free (k ∷ ks) [] q h = refl
combined_free (k ∷ ks) (r ∷ rs) q h = line_zero _ _ (times_zero k (r.numbers q) h.0) (combined_free ks rs q h.1)

-- what is taken has the numbers of t at the pivots
pub pivots_taken : (rs : List Row) (t : Numbers) → IsReduced rs → AtPivots (λ p. taken rs t p ≡ t p) rs
pivots_taken [] t h = tt
pivots_taken (r ∷ rs) t h = (
  line_left _ _ _ (times_unit (t r.pivot) (r.numbers r.pivot) h.0) (taken_free rs t r.pivot h.2),
  at_each (λ q. (r.numbers q ≡ pos 0) × (taken rs t q ≡ t q)) (λ q. (t r.pivot *ℤ r.numbers q) +ℤ taken rs t q ≡ t q) rs
      (λ q e. line_right _ _ _ (times_zero (t r.pivot) (r.numbers q) e.0) e.1)
      (at_both (λ q. r.numbers q ≡ pos 0) (λ q. taken rs t q ≡ t q) rs h.1 (pivots_taken rs t h.3)),
)

-- the numbers of t at the pivots
abbrev pub at_pivots : List Row → Numbers → List ℤ
at_pivots [] t = []
at_pivots (r ∷ rs) t = t r.pivot ∷ at_pivots rs t

at_pivots_length : (rs : List Row) (t : Numbers) → length (at_pivots rs t) ≡ length rs
at_pivots_length [] t = refl
at_pivots_length (r ∷ rs) t = ap suc (at_pivots_length rs t)

at_pivots_taken : (rs : List Row) (t : Numbers) (i : ℕ) → combined (at_pivots rs t) rs i ≡ taken rs t i
at_pivots_taken [] t i = refl
at_pivots_taken (r ∷ rs) t i = ap (λ (z : ℤ). (t r.pivot *ℤ r.numbers i) +ℤ z) (at_pivots_taken rs t i)

pub normal_is_normal : (rs : List Row) (t : Numbers) → IsReduced rs → IsNormalForm rs t (normal rs t)
normal_is_normal rs t h = record {
  free = at_each (λ p. taken rs t p ≡ t p) (λ p. normal rs t p ≡ pos 0) rs (λ p e. line_gone (t p) (taken rs t p) e) (pivots_taken rs t h);
  multipliers = at_pivots rs t;
  long = at_pivots_length rs t;
  each = λ i. line_back (t i) (taken rs t i) (combined (at_pivots rs t) rs i) (at_pivots_taken rs t i);
}

-- a combination of reduced rows is told by its numbers at the pivots
combined_is_taken : (ks : List ℤ) (rs : List Row) (t : Numbers) → IsReduced rs → length ks ≡ length rs
    → AtPivots (λ p. combined ks rs p ≡ t p) rs → (i : ℕ) → combined ks rs i ≡ taken rs t i
combined_is_taken [] [] t h l e i = refl
combined_is_taken [] (r ∷ rs) t h l e i = absurd (omega arith)
combined_is_taken (k ∷ ks) [] t h l e i = absurd (omega arith)
combined_is_taken (k ∷ ks) (r ∷ rs) t h l e i =
    let same : k ≡ t r.pivot =
    line_first (k *ℤ r.numbers r.pivot) (combined ks rs r.pivot) (t r.pivot) k e.0 (combined_free ks rs r.pivot h.2) (times_unit k (r.numbers r.pivot) h.0) in
    let rest : AtPivots (λ q. combined ks rs q ≡ t q) rs =
    at_each (λ q. (r.numbers q ≡ pos 0) × ((k *ℤ r.numbers q) +ℤ combined ks rs q ≡ t q)) (λ q. combined ks rs q ≡ t q) rs
    (λ q f. line_second (k *ℤ r.numbers q) (combined ks rs q) (t q) f.1 (times_zero k (r.numbers q) f.0))
    (at_both (λ q. r.numbers q ≡ pos 0) (λ q. (k *ℤ r.numbers q) +ℤ combined ks rs q ≡ t q) rs h.1 e.1) in
    let long : length ks ≡ length rs = omega arith in
    λ j. (same j *ℤ r.numbers i) +ℤ combined_is_taken ks rs t h.3 long rest i j

pub normal_is_only : (rs : List Row) (t n : Numbers) → IsReduced rs → IsNormalForm rs t n → (i : ℕ) → n i ≡ normal rs t i
normal_is_only rs t n h f i =
    let pivots : AtPivots (λ p. combined f.multipliers rs p ≡ t p) rs =
    at_each (λ p. n p ≡ pos 0) (λ p. combined f.multipliers rs p ≡ t p) rs (λ p e. line_at_pivot (n p) (t p) _ (f.each p) e) f.free in
    line_only (n i) (t i) (combined f.multipliers rs i) (taken rs t i) (f.each i) (combined_is_taken f.multipliers rs t h f.long pivots i)

pub at_without : (P : ℕ → Type 0) (p : ℕ) (e : Numbers) (rs : List Row) → AtPivots P rs → AtPivots P (all_without p e rs)
at_without P p e [] h = tt
at_without P p e (r ∷ rs) h = (h.0, at_without P p e rs h.1)

free_after : (p : ℕ) (e : Numbers) (rs : List Row) → e p ≡ pos 1 → AreFree p (all_without p e rs)
free_after p e [] h = tt
free_after p e (r ∷ rs) h = (line_gone (r.numbers p) (r.numbers p *ℤ e p) (times_unit (r.numbers p) (e p) h), free_after p e rs h)

free_without : (p : ℕ) (e : Numbers) (rs : List Row) (q : ℕ) → e q ≡ pos 0 → AreFree q rs → AreFree q (all_without p e rs)
free_without p e [] q h k = tt
free_without p e (r ∷ rs) q h k =
    (line_less (r.numbers q) (r.numbers p *ℤ e q) (pos 0) k.0 (times_zero (r.numbers p) (e q) h), free_without p e rs q h k.1)

reduced_without : (p : ℕ) (e : Numbers) (rs : List Row) → AtPivots (λ q. e q ≡ pos 0) rs → IsReduced rs → IsReduced (all_without p e rs)
reduced_without p e [] z h = tt
reduced_without p e (r ∷ rs) z h = (
  line_less (r.numbers r.pivot) (r.numbers p *ℤ e r.pivot) (pos 1) h.0 (times_zero (r.numbers p) (e r.pivot) z.0),
  at_without (λ q. without p e r.numbers q ≡ pos 0) p e rs
      (at_each (λ q. (r.numbers q ≡ pos 0) × (e q ≡ pos 0)) (λ q. without p e r.numbers q ≡ pos 0) rs
      (λ q f. line_less (r.numbers q) (r.numbers p *ℤ e q) (pos 0) f.0 (times_zero (r.numbers p) (e q) f.1))
      (at_both (λ q. r.numbers q ≡ pos 0) (λ q. e q ≡ pos 0) rs h.1 z.1)),
  free_without p e rs r.pivot z.0 h.2,
  reduced_without p e rs z.1 h.3,
)

pub reduced_after : (p : ℕ) (e : Numbers) (rs : List Row) → e p ≡ pos 1 → AtPivots (λ q. e q ≡ pos 0) rs → IsReduced rs
    → IsReduced (record { pivot = p; numbers = e } ∷ all_without p e rs)
reduced_after p e rs h z k = (h, at_without (λ q. e q ≡ pos 0) p e rs z, free_after p e rs h, reduced_without p e rs z k)
