-- Environments: their terms mean the numbers of the variables.
use Rattle.std.proofs.Common.{◌≡◌, ℕ, zero, suc, ◌-◌, List, [], ◌∷◌, ◌++◌, length, get_or, replicate, ℤ, pos, refl, ap, subst}
use Rattle.std.specs.Prelude.{slice_set}
use Rattle.fsl_core.specs.logic.Joining.{nought}
use Rattle.fsl_core.specs.logic.Locations.{padded}
use Rattle.fsl_lin.specs.Combination.{Combination, constant}
use Rattle.fsl_lin.specs.Numbers.{Numbers}
use Rattle.fsl_meaning.specs.Means.{Means, EachMeans, AllMean, padded_numbers}
use Rattle.fsl_meaning.proofs.Terms.{means_constant, all_append}

each_set : (n : ℕ) (v : Numbers) (ts : List Combination) (xs : List ℤ) (slot : ℕ) (t : Combination) (x : ℤ) → EachMeans n v ts xs → Means n v t x
    → EachMeans n v (slice_set ts slot t) (slice_set xs slot x)
each_set n v [] [] slot t x h k = tt
each_set n v [] (y ∷ ys) slot t x h k = absurd h
each_set n v (u ∷ us) [] slot t x h k = absurd h
each_set n v (u ∷ us) (y ∷ ys) zero t x h k = (k, h.1)
each_set n v (u ∷ us) (y ∷ ys) (suc slot) t x h k = (h.0, each_set n v us ys slot t x h.1 k)

pub all_set : {n : ℕ} {v : Numbers} {ts : List Combination} {xs : List ℤ} {t : Combination} {x : ℤ} (slot : ℕ) → AllMean n v ts xs → Means n v t x
    → AllMean n v (slice_set ts slot t) (slice_set xs slot x)
all_set {n = n} {v = v} {ts = ts} {xs = xs} {t = t} {x = x} slot h k = record { each = each_set n v ts xs slot t x h.each k }

each_get : (n : ℕ) (v : Numbers) (ts : List Combination) (xs : List ℤ) (slot : ℕ) → EachMeans n v ts xs → Means n v (get_or ts slot (constant (pos 0))) (get_or xs slot (pos 0))
each_get n v [] [] slot h = means_constant (pos 0)
each_get n v [] (y ∷ ys) slot h = absurd h
each_get n v (u ∷ us) [] slot h = absurd h
each_get n v (u ∷ us) (y ∷ ys) zero h = h.0
each_get n v (u ∷ us) (y ∷ ys) (suc slot) h = each_get n v us ys slot h.1

-- a variable that isn't there counts as 0
pub all_get : {n : ℕ} {v : Numbers} {ts : List Combination} {xs : List ℤ} (slot : ℕ) → AllMean n v ts xs → Means n v (get_or ts slot (constant (pos 0))) (get_or xs slot (pos 0))
all_get {n = n} {v = v} {ts = ts} {xs = xs} slot h = each_get n v ts xs slot h.each

each_length : (n : ℕ) (v : Numbers) (ts : List Combination) (xs : List ℤ) → EachMeans n v ts xs → length ts ≡ length xs
each_length n v [] [] h = refl
each_length n v [] (y ∷ ys) h = absurd h
each_length n v (u ∷ us) [] h = absurd h
each_length n v (u ∷ us) (y ∷ ys) h = ap suc (each_length n v us ys h.1)

pub all_length : {n : ℕ} {v : Numbers} {ts : List Combination} {xs : List ℤ} → AllMean n v ts xs → length ts ≡ length xs
all_length {n = n} {v = v} {ts = ts} {xs = xs} h = each_length n v ts xs h.each

each_zeros : (n : ℕ) (v : Numbers) (k : ℕ) → EachMeans n v (replicate k nought) (replicate k (pos 0))
each_zeros n v zero = tt
each_zeros n v (suc k) = (means_constant (pos 0), each_zeros n v k)

-- variables that aren't set yet are 0
pub all_padded : {n : ℕ} {v : Numbers} {ts : List Combination} {xs : List ℤ} (slots : ℕ) → AllMean n v ts xs → AllMean n v (padded slots ts) (padded_numbers slots xs)
all_padded {n = n} {v = v} {ts = ts} {xs = xs} slots h =
    let zeros : AllMean n v (replicate (slots - length ts) nought) (replicate (slots - length ts) (pos 0)) = record { each = each_zeros n v (slots - length ts) } in
    subst (λ (k : ℕ). AllMean n v (padded slots ts) (xs ++ replicate (slots - k) (pos 0))) (all_length h) (all_append h zeros)
