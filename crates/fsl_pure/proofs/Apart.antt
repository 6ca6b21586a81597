-- The combination a - b + gap, by its numbers.
use Rattle.std.proofs.Common.{◌≡◌, ℕ, zero, suc, ◌+◌, ◌-◌, ◌<◌, ◌≤◌, ◌^◌, Bool, true, false, ◌&&◌, List, [], ◌∷◌, ◌++◌, length, replicate, get_or, ℤ, pos, ◌+ℤ◌, ◌-ℤ◌, refl, sym, ap, ◌∙◌, arith, length-append}
use Rattle.std.proofs.lemmas.Int.{ints}
use Rattle.std.proofs.lemmas.List.{length-replicate}
use Rattle.fsl_lin.specs.Combination.{Combination, IsKept, coefficient, plus, minus, constant, is_narrow, is_within, are_within, trim, joined}
use Rattle.fsl_lin.specs.Numbers.{Numbers, most, part, gapped, fits, within_above}
use Rattle.fsl_lin.specs.Rows.{normal}
use Rattle.fsl_lin.proofs.Arrays.{most_is, above_is}
use Rattle.fsl_lin.proofs.Coefficients.{joined_at, minus_at, trim_by_items}
use Rattle.fsl_lin.proofs.Kept.{few_joined}
use Rattle.fsl_lin.proofs.Terms.{trim_within, trim_shorter}

-- without equations a term is its normal form
line_whole : (x : ℤ) → x -ℤ pos 0 ≡ x
line_whole x = omega (arith, ints)

pub normal_none : (n : Numbers) → normal [] n ≡ n
normal_none n = λ j i. line_whole (n i) j

-- the coefficients of a - b + gap, before the zeros at their end go
abbrev apart_terms : Combination → Combination → List ℤ
apart_terms a b = joined (λ x y. x +ℤ y) (minus a b).terms []

line_zero : (x y : ℤ) → x ≡ y → x ≡ y +ℤ pos 0
line_zero x y h = omega (arith, ints)

apart_at : (a b : Combination) (s : ℕ) → coefficient a s -ℤ coefficient b s ≡ get_or (apart_terms a b) s (pos 0)
apart_at a b s =
    line_zero _ _ (sym (minus_at a b s)) ∙ sym (joined_at (λ x y. x +ℤ y) refl (minus a b).terms [] s)

pub apart_is : (a b t : Combination) (gap : ℤ) → IsKept t → part t ≡ gapped (part a) (part b) gap → t ≡ plus (minus a b) (constant gap)
apart_is a b t gap k h =
    let each : (s : ℕ) → get_or t.terms s (pos 0) ≡ get_or (apart_terms a b) s (pos 0) = λ s. ap (λ (n : Numbers). n (suc s)) h ∙ apart_at a b s in
    let e : t.terms ≡ trim (apart_terms a b) = sym k.trimmed ∙ trim_by_items t.terms (apart_terms a b) each in
    let r : t.rest ≡ (a.rest -ℤ b.rest) +ℤ gap = ap (λ (n : Numbers). n zero) h in
    λ i. record { terms = e i; rest = r i }

-- zeros at the end change no number and no bound
zeros_at : (xs : List ℤ) (k s : ℕ) → get_or xs s (pos 0) ≡ get_or (xs ++ replicate k (pos 0)) s (pos 0)
zeros_at [] zero s = refl
zeros_at [] (suc k) zero = refl
zeros_at [] (suc k) (suc s) = zeros_at [] k s
zeros_at (x ∷ xs) k zero = refl
zeros_at (x ∷ xs) k (suc s) = zeros_at xs k s

zeros_within : (b : ℕ) (xs : List ℤ) (k : ℕ) → are_within b (xs ++ replicate k (pos 0)) ≡ are_within b xs
zeros_within b [] zero = refl
zeros_within b [] (suc k) = grind (arith, zeros_within b [] k)
zeros_within b (x ∷ xs) k = ap (λ t. is_within b x && t) (zeros_within b xs k)

above_few : (b : ℕ) (xs : List ℤ) (n : Numbers) → length xs ≤ 512 → ((s : ℕ) → n (suc s) ≡ get_or xs s (pos 0)) → within_above b most n ≡ are_within b xs
above_few b xs n few e =
    let l : length (xs ++ replicate (512 - length xs) (pos 0)) ≡ length xs + length (replicate (512 - length xs) (pos 0)) = length-append xs (replicate (512 - length xs) (pos 0)) in
    let k : length (replicate (512 - length xs) (pos 0)) ≡ 512 - length xs = length-replicate (512 - length xs) (pos 0) in
    let whole : length (xs ++ replicate (512 - length xs) (pos 0)) ≡ 512 = omega (arith, l, k, few) in
    above_is b (xs ++ replicate (512 - length xs) (pos 0)) n (whole ∙ sym most_is) (λ s. e s ∙ zeros_at xs (512 - length xs) s)
    ∙ zeros_within b xs (512 - length xs)

few_apart : (a b : Combination) → IsKept a → IsKept b → length (apart_terms a b) ≤ 512
few_apart a b k l =
    let m : length (joined (λ x y. x -ℤ y) a.terms b.terms) ≤ 512 = few_joined (λ x y. x -ℤ y) a.terms b.terms k.few l.few in
    let t : length (minus a b).terms ≤ length (joined (λ x y. x -ℤ y) a.terms b.terms) = trim_shorter (joined (λ x y. x -ℤ y) a.terms b.terms) in
    few_joined (λ x y. x +ℤ y) (minus a b).terms [] (omega (arith, m, t)) (omega arith)

and_turn : (x y : Bool) → (x && y) ≡ (y && x)
and_turn true true = refl
and_turn true false = refl
and_turn false true = refl
and_turn false false = refl

-- a `Lin` has room for it exactly where its numbers fit
pub apart_fits : (a b : Combination) (gap : ℤ) → IsKept a → IsKept b
    → is_narrow (plus (minus a b) (constant gap)) ≡ fits (gapped (part a) (part b) gap)
apart_fits a b gap k l =
    ap (λ t. t && is_within (2 ^ 90) ((a.rest -ℤ b.rest) +ℤ gap))
    (trim_within (2 ^ 24) (apart_terms a b) ∙ sym (above_few (2 ^ 24) (apart_terms a b) (gapped (part a) (part b) gap) (few_apart a b k l) (apart_at a b)))
    ∙ and_turn (within_above (2 ^ 24) most (gapped (part a) (part b) gap)) (is_within (2 ^ 90) ((a.rest -ℤ b.rest) +ℤ gap))
