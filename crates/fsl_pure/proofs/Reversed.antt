-- Tests of some bound don't mind the order of the bounds.
use Rattle.std.proofs.Common.{◌≡◌, ℕ, zero, suc, ◌<◌, Bool, true, false, not, ◌&&◌, ◌||◌, List, [], ◌∷◌, ◌++◌, length, get_or, map, reverse, pos, int_le, refl, ap, sym, ◌∙◌, arith}
use Rattle.std.specs.Ordering.{int_eq}
use Rattle.std.proofs.Math.Bool.{or_comm, or-false}
use Rattle.std.proofs.lemmas.Bool.{or_left, or_right}
use Rattle.std.proofs.lemmas.List.{map-append, reverse-append}
use Rattle.fsl_lin.specs.Combination.{Combination}
use Rattle.fsl_lin.specs.Numbers.{Numbers, part, most, same_above, fits}
use Rattle.fsl_lin.specs.Facts.{by_bound, all_fit}
use Rattle.fsl_pure.specs.Table.{some_have}

abbrev any : (Numbers → Bool) → List Numbers → Bool
any f [] = false
any f (n ∷ ns) = f n || any f ns

or_assoc : (x y z : Bool) → ((x || y) || z) ≡ (x || (y || z))
or_assoc true y z = refl
or_assoc false y z = refl

any_append : (f : Numbers → Bool) (ms ns : List Numbers) → any f (ms ++ ns) ≡ (any f ms || any f ns)
any_append f [] ns = refl
any_append f (m ∷ ms) ns = ap (λ b. f m || b) (any_append f ms ns) ∙ sym (or_assoc (f m) (any f ms) (any f ns))

any_reverse : (f : Numbers → Bool) (xs : List Combination) → any f (map part (reverse xs)) ≡ any f (map part xs)
any_reverse f [] = refl
any_reverse f (x ∷ xs) =
    ap (λ (ys : List Combination). any f (map part ys)) (reverse-append (x ∷ []) xs)
    ∙ ap (any f) (map-append part (reverse xs) (x ∷ []))
    ∙ any_append f (map part (reverse xs)) (part x ∷ [])
    ∙ (λ i. any_reverse f xs i || or-false (f (part x)) i)
    ∙ or_comm (any f (map part xs)) (f (part x))

any_at : (f : Numbers → Bool) (xs : List Combination) (k : ℕ) (d : Combination) → k < length xs → f (part (get_or xs k d)) ≡ true
    → any f (map part xs) ≡ true
any_at f [] k d h t = absurd (omega arith)
any_at f (x ∷ xs) zero d h t = or_left (f (part x)) (any f (map part xs)) t
any_at f (x ∷ xs) (suc k) d h t = or_right (f (part x)) (any f (map part xs)) (any_at f xs k d (omega arith) t)

by_bound_any : (ns : List Numbers) (n : Numbers) → by_bound ns n ≡ any (λ b. same_above most b n && int_le (n 0) (b 0)) ns
by_bound_any [] n = refl
by_bound_any (b ∷ ns) n = ap (λ t. (same_above most b n && int_le (n 0) (b 0)) || t) (by_bound_any ns n)

pub by_bound_reverse : (xs : List Combination) (n : Numbers) → by_bound (map part (reverse xs)) n ≡ by_bound (map part xs) n
by_bound_reverse xs n =
    by_bound_any (map part (reverse xs)) n ∙ any_reverse (λ b. same_above most b n && int_le (n 0) (b 0)) xs ∙ sym (by_bound_any (map part xs) n)

have_any : (p : ℕ) (ns : List Numbers) → some_have p ns ≡ any (λ n. not (int_eq (n p) (pos 0))) ns
have_any p [] = refl
have_any p (n ∷ ns) = ap (λ t. not (int_eq (n p) (pos 0)) || t) (have_any p ns)

pub have_reverse : (p : ℕ) (xs : List Combination) → some_have p (map part (reverse xs)) ≡ some_have p (map part xs)
have_reverse p xs =
    have_any p (map part (reverse xs)) ∙ any_reverse (λ n. not (int_eq (n p) (pos 0))) xs ∙ sym (have_any p (map part xs))

not_or : (a b : Bool) → (a && not b) ≡ not (not a || b)
not_or true b = refl
not_or false b = refl

fit_any : (g : Numbers → Numbers) (ns : List Numbers) → all_fit (map g ns) ≡ not (any (λ n. not (fits (g n))) ns)
fit_any g [] = refl
fit_any g (n ∷ ns) = ap (λ t. fits (g n) && t) (fit_any g ns) ∙ not_or (fits (g n)) (any (λ m. not (fits (g m))) ns)

-- one of them does not fit
pub unfit_at : (g : Numbers → Numbers) (xs : List Combination) (k : ℕ) (x : Combination) → k < length xs → x ≡ get_or xs k x → fits (g (part x)) ≡ false
    → all_fit (map g (map part (reverse xs))) ≡ false
unfit_at g xs k x h is f =
    fit_any g (map part (reverse xs)) ∙ ap not (any_reverse (λ n. not (fits (g n))) xs
    ∙ any_at (λ n. not (fits (g n))) xs k x h (ap (λ (y : Combination). not (fits (g (part y)))) (sym is) ∙ ap not f))
