-- What a `Lin` keeps, from its coefficients before the zeros at their end go.
use Rattle.std.proofs.Common.{◌≡◌, ℕ, zero, suc, ◌<◌, ◌≤◌, ◌^◌, true, false, List, [], ◌∷◌, ◌++◌, length, replicate, get_or, max, ℤ, pos, refl, ◌∙◌, arith}
use Rattle.std.proofs.lemmas.Bool.{and_parts, and_from, and_left, and_right}
use Rattle.std.proofs.lemmas.List.{length-append, length-replicate}
use Rattle.fsl_lin.specs.Combination.{Combination, symbol, IsKept, is_within, are_within, is_narrow, trim, trimmed, joined, products}
use Rattle.fsl_lin.proofs.Terms.{trim_twice, trim_shorter, trim_within, joined_length, products_length, trim_kept}

pub narrow_trimmed : (xs : List ℤ) (n : ℤ) → are_within (2 ^ 24) xs ≡ true → is_within (2 ^ 90) n ≡ true → is_narrow (trimmed xs n) ≡ true
narrow_trimmed xs n h k = and_from _ _ (trim_within (2 ^ 24) xs ∙ h) k

pub wide_terms : (xs : List ℤ) (n : ℤ) → are_within (2 ^ 24) xs ≡ false → is_narrow (trimmed xs n) ≡ false
wide_terms xs n h = and_left _ _ (trim_within (2 ^ 24) xs ∙ h)

pub wide_rest : (xs : List ℤ) (n : ℤ) → is_within (2 ^ 90) n ≡ false → is_narrow (trimmed xs n) ≡ false
wide_rest xs n h = and_right _ _ h

pub kept_trimmed : (xs : List ℤ) (n : ℤ) → length xs ≤ 512 → are_within (2 ^ 24) xs ≡ true → is_within (2 ^ 90) n ≡ true → IsKept (trimmed xs n)
kept_trimmed xs n few h k = record {
  few = let s : length (trim xs) ≤ length xs = trim_shorter xs in omega arith;
  trimmed = trim_twice xs;
  narrow = narrow_trimmed xs n h k;
}

pub few_joined : (f : ℤ → ℤ → ℤ) (a b : List ℤ) → length a ≤ 512 → length b ≤ 512 → length (joined f a b) ≤ 512
few_joined f a b h k = let e : length (joined f a b) ≡ max (length a) (length b) = joined_length f a b in omega arith

pub few_products : (k : ℤ) (xs : List ℤ) → length xs ≤ 512 → length (products k xs) ≤ 512
few_products k xs h = let e : length (products k xs) ≡ length xs = products_length k xs in omega arith

pub terms_within : (c : Combination) → IsKept c → are_within (2 ^ 24) c.terms ≡ true
terms_within c kept = (and_parts (are_within (2 ^ 24) c.terms) (is_within (2 ^ 90) c.rest) kept.narrow).0

pub rest_within : (c : Combination) → IsKept c → is_within (2 ^ 90) c.rest ≡ true
rest_within c kept = (and_parts (are_within (2 ^ 24) c.terms) (is_within (2 ^ 90) c.rest) kept.narrow).1

pub each_within : (b : ℕ) (xs : List ℤ) (s : ℕ) → are_within b xs ≡ true → is_within b (get_or xs s (pos 0)) ≡ true
each_within b [] s h = grind arith
each_within b (x ∷ xs) zero h = (and_parts (is_within b x) (are_within b xs) h).0
each_within b (x ∷ xs) (suc s) h = each_within b xs s (and_parts (is_within b x) (are_within b xs) h).1

pub unit_within : (s : ℕ) → are_within (2 ^ 24) (replicate s (pos 0) ++ pos 1 ∷ []) ≡ true
unit_within zero = refl
unit_within (suc s) = unit_within s

pub unit_trimmed : (s : ℕ) → trim (replicate s (pos 0) ++ pos 1 ∷ []) ≡ replicate s (pos 0) ++ pos 1 ∷ []
unit_trimmed s = trim_kept (replicate s (pos 0)) (pos 1) (λ e. cc)

unit_few : (s : ℕ) → s < 512 → length (replicate s (pos 0) ++ pos 1 ∷ []) ≤ 512
unit_few s h = simp (length-append, length-replicate) (omega arith)

pub kept_symbol : (s : ℕ) → s < 512 → IsKept (symbol s)
kept_symbol s h = record {
  few = unit_few s h;
  trimmed = unit_trimmed s;
  narrow = and_from _ _ (unit_within s) refl;
}
