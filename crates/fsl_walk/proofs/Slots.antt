-- Variables: what is set on both sides is seen the same, and a round of a loop renews what it changes.
use Rattle.std.proofs.Common.{◌≡◌, ◌⊎◌, inl, inr, ℕ, zero, suc, ◌<◌, ◌≤◌, ◌==◌, Bool, true, false, ◌||◌, if◌then◌else◌, List}
use Rattle.std.proofs.Common.{[], ◌∷◌, ◌++◌, length, Some, ℤ, pos, get_or, slice_get, slice_set, refl, sym, ap, subst, ◌∙◌, arith}
use Rattle.std.specs.List.{list_any}
use Rattle.std.proofs.lemmas.Bool.{cases_eq, eq-eqb, or_left, or_right}
use Rattle.std.proofs.lemmas.Option.{slice_get_past, slice_get-get_or}
use Rattle.fsl_core.specs.declared.scope.Scope.{Scope}
use Rattle.fsl_core.specs.declared.scope.Sight.{Sight}
use Rattle.fsl_core.specs.declared.scope.Sight.TheVariants as sight
use Rattle.fsl_core.specs.Scopes.{is_number, sight_at, with_sight}
use Rattle.fsl_kept.specs.Calls.{renewed}
use Rattle.fsl_scoped.proofs.Lists.{get_other}
use Rattle.fsl_walk.specs.Stances.{Matches}
use Rattle.fsl_walk.specs.Walks.{SeesMore, IsClosed}
use Rattle.fsl_walk.specs.Laws.{SeesAreSame}

-- ---- lists in which an item is set

pub get_same : {X : Type 0} (xs : List X) (i : ℕ) (x : X) → i < length xs → slice_get (slice_set xs i x) i ≡ Some x
get_same [] i x h = absurd (omega arith)
get_same (y ∷ ys) zero x h = refl
get_same (y ∷ ys) (suc i) x h = get_same ys i x (omega arith)

pub sight_other : (xs : List Sight) (i k : ℕ) (x d : Sight) → (k ≡ i → ⊥) → get_or (slice_set xs i x) k d ≡ get_or xs k d
sight_other [] i k x d h = refl
sight_other (y ∷ ys) zero zero x d h = absurd (h refl)
sight_other (y ∷ ys) zero (suc k) x d h = refl
sight_other (y ∷ ys) (suc i) zero x d h = refl
sight_other (y ∷ ys) (suc i) (suc k) x d h = sight_other ys i k x d (λ e. h (ap suc e))

pub set_long : {X : Type 0} (xs : List X) (i : ℕ) (x : X) → length (slice_set xs i x) ≡ length xs
set_long [] i x = refl
set_long (y ∷ ys) zero x = refl
set_long (y ∷ ys) (suc i) x = omega (arith, set_long ys i x)

set_alike : (xs ys : List ℤ) (i : ℕ) (x : ℤ) → length xs ≡ length ys → slice_get (slice_set xs i x) i ≡ slice_get (slice_set ys i x) i
set_alike [] [] i x h = refl
set_alike [] (z ∷ zs) i x h = absurd (omega arith)
set_alike (y ∷ ys) [] i x h = absurd (omega arith)
set_alike (y ∷ ys) (z ∷ zs) zero x h = refl
set_alike (y ∷ ys) (z ∷ zs) (suc i) x h = set_alike ys zs i x (omega arith)

-- ---- what is seen

seen_by : (scope : Scope) (env slots : List ℤ) (slot : ℕ) (s : Sight) (x : ℤ) (k : ℕ) → (k ≡ slot) ⊎ (k ≡ slot → ⊥) → Matches scope env slots
    → is_number (sight_at (with_sight slot s scope) k) ≡ true → slice_get (slice_set env slot x) k ≡ slice_get (slice_set slots slot x) k
seen_by scope env slots slot s x k (inl e) matches number =
    subst (λ (j : ℕ). slice_get (slice_set env slot x) j ≡ slice_get (slice_set slots slot x) j) (sym e) (set_alike env slots slot x matches.long)
seen_by scope env slots slot s x k (inr other) matches number =
    get_other env slot k x other
    ∙ matches.sees k (ap is_number (sym (sight_other scope.sights slot k s sight.Kept other)) ∙ number)
    ∙ sym (get_other slots slot k x other)

pub sees_same : SeesAreSame
sees_same scope env slots slot s x matches = record {
  long = set_long env slot x ∙ matches.long ∙ sym (set_long slots slot x);
  sees = λ k number. seen_by scope env slots slot s x k (cases_eq k slot) matches number;
}

pub sees_more : (less more : Scope) (env slots : List ℤ) → SeesMore less more → Matches more env slots → Matches less env slots
sees_more less more env slots h matches = record { long = matches.long; sees = λ slot number. matches.sees slot (h slot number) }

-- ---- what is set

or_more : (b c d : Bool) → (c ≡ true → d ≡ true) → (b || c) ≡ true → (b || d) ≡ true
or_more true c d k h = refl
or_more false c d k h = k h

pub any_left : (f : ℕ → Bool) (xs ys : List ℕ) → list_any f xs ≡ true → list_any f (xs ++ ys) ≡ true
any_left f [] ys h = absurd (cc)
any_left f (x ∷ xs) ys h = or_more (f x) (list_any f xs) (list_any f (xs ++ ys)) (any_left f xs ys) h

pub any_right : (f : ℕ → Bool) (xs ys : List ℕ) → list_any f ys ≡ true → list_any f (xs ++ ys) ≡ true
any_right f [] ys h = h
any_right f (x ∷ xs) ys h = or_right (f x) (list_any f (xs ++ ys)) (any_right f xs ys h)

pub closed_left : (Q : List ℤ → Type 0) (a b : List ℕ) → IsClosed Q (a ++ b) → IsClosed Q a
closed_left Q a b closed slots slot x is q = closed slots slot x (any_left (λ s. s == slot) a b is) q

pub closed_right : (Q : List ℤ → Type 0) (a b : List ℕ) → IsClosed Q (a ++ b) → IsClosed Q b
closed_right Q a b closed slots slot x is q = closed slots slot x (any_right (λ s. s == slot) a b is) q

pub any_one : (slot : ℕ) → list_any (λ s. s == slot) (slot ∷ []) ≡ true
any_one slot = or_left (slot == slot) false (eq-eqb slot slot refl)

-- the one variable that a statement sets
pub closed_one : (Q : List ℤ → Type 0) (slots : List ℤ) (slot : ℕ) (x : ℤ) → IsClosed Q (slot ∷ []) → Q slots → Q (slice_set slots slot x)
closed_one Q slots slot x closed q = closed slots slot x (any_one slot) q

-- ---- variables that a round renews

abbrev renewed_by : Bool → ℕ → ℤ → List ℤ → List ℤ
renewed_by b n y zs = if b then slice_set zs n y else zs

renewed_by_long : (b : Bool) (n : ℕ) (y : ℤ) (zs : List ℤ) → length (renewed_by b n y zs) ≡ length zs
renewed_by_long true n y zs = set_long zs n y
renewed_by_long false n y zs = refl

pub renewed_long : (n : ℕ) (sets : List ℕ) (ys slots : List ℤ) → length (renewed n sets ys slots) ≡ length slots
renewed_long zero sets ys slots = refl
renewed_long (suc n) sets ys slots = renewed_by_long (list_any (λ slot. slot == n) sets) n (get_or ys n (pos 0)) (renewed n sets ys slots) ∙ renewed_long n sets ys slots

renewed_by_other : (b : Bool) (n k : ℕ) (y : ℤ) (zs : List ℤ) → (b ≡ true → k ≡ n → ⊥) → slice_get (renewed_by b n y zs) k ≡ slice_get zs k
renewed_by_other true n k y zs h = get_other zs n k y (h refl)
renewed_by_other false n k y zs h = refl

pub renewed_other : (n : ℕ) (sets : List ℕ) (ys slots : List ℤ) (k : ℕ) → list_any (λ slot. slot == k) sets ≡ false → slice_get (renewed n sets ys slots) k ≡ slice_get slots k
renewed_other zero sets ys slots k h = refl
renewed_other (suc n) sets ys slots k h =
    renewed_by_other (list_any (λ slot. slot == n) sets) n k (get_or ys n (pos 0)) (renewed n sets ys slots) (apart h) ∙ renewed_other n sets ys slots k h
  where
    apart : list_any (λ slot. slot == k) sets ≡ false → list_any (λ slot. slot == n) sets ≡ true → k ≡ n → ⊥
    apart h is e =
        let other : list_any (λ slot. slot == k) sets ≡ true = subst (λ (j : ℕ). list_any (λ slot. slot == j) sets ≡ true) (sym e) is in
        absurd (let d : true ≡ false = sym other ∙ h in cc)

renewed_past : (n : ℕ) (sets : List ℕ) (ys slots : List ℤ) (k : ℕ) → n ≤ k → slice_get (renewed n sets ys slots) k ≡ slice_get slots k
renewed_past zero sets ys slots k h = refl
renewed_past (suc n) sets ys slots k h =
    renewed_by_other (list_any (λ slot. slot == n) sets) n k (get_or ys n (pos 0)) (renewed n sets ys slots) (λ is e. omega arith) ∙ renewed_past n sets ys slots k (omega arith)

new_at : (n : ℕ) (ys zs : List ℤ) → length ys ≡ length zs → (n < length zs) ⊎ (length zs ≤ n) → slice_get (slice_set zs n (get_or ys n (pos 0))) n ≡ slice_get ys n
new_at n ys zs long (inl h) = get_same zs n (get_or ys n (pos 0)) h ∙ sym (slice_get-get_or ys n (pos 0) (omega arith))
new_at n ys zs long (inr h) =
    slice_get_past (slice_set zs n (get_or ys n (pos 0))) n (omega (arith, set_long zs n (get_or ys n (pos 0)))) ∙ sym (slice_get_past ys n (omega arith))

below_or : (n m : ℕ) → (n < m) ⊎ (m ≤ n)
below_or n zero = inr (omega arith)
below_or zero (suc m) = inl (omega arith)
below_or (suc n) (suc m) = more (below_or n m)
  where
    more : (n < m) ⊎ (m ≤ n) → (suc n < suc m) ⊎ (suc m ≤ suc n)
    more (inl h) = inl (omega arith)
    more (inr h) = inr (omega arith)

below_other : (k n : ℕ) → k < suc n → (k ≡ n → ⊥) → k < n
below_other k n below other = omega (arith, below, other)

renewed_by_same : (b : Bool) (n : ℕ) (ys zs : List ℤ) → b ≡ true → length ys ≡ length zs → slice_get (renewed_by b n (get_or ys n (pos 0)) zs) n ≡ slice_get ys n
renewed_by_same true n ys zs is long = new_at n ys zs long (below_or n (length zs))
renewed_by_same false n ys zs is long = absurd (cc)

same_by_last : (n : ℕ) (sets : List ℕ) (ys zs : List ℤ) (k : ℕ) → (k ≡ n) ⊎ (k ≡ n → ⊥) → list_any (λ slot. slot == k) sets ≡ true → length ys ≡ length zs
    → ((k ≡ n → ⊥) → slice_get zs k ≡ slice_get ys k)
    → slice_get (renewed_by (list_any (λ slot. slot == n) sets) n (get_or ys n (pos 0)) zs) k ≡ slice_get ys k
same_by_last n sets ys zs k (inl e) is long before =
    let here : list_any (λ slot. slot == n) sets ≡ true = subst (λ (j : ℕ). list_any (λ slot. slot == j) sets ≡ true) e is in
    subst (λ (j : ℕ). slice_get (renewed_by (list_any (λ slot. slot == n) sets) n (get_or ys n (pos 0)) zs) j ≡ slice_get ys j) (sym e)
    (renewed_by_same (list_any (λ slot. slot == n) sets) n ys zs here long)
same_by_last n sets ys zs k (inr other) is long before =
    renewed_by_other (list_any (λ slot. slot == n) sets) n k (get_or ys n (pos 0)) zs (λ b e. other e) ∙ before other

pub renewed_same : (n : ℕ) (sets : List ℕ) (ys slots : List ℤ) (k : ℕ) → list_any (λ slot. slot == k) sets ≡ true → k < n → length ys ≡ length slots
    → slice_get (renewed n sets ys slots) k ≡ slice_get ys k
renewed_same zero sets ys slots k is below long = absurd (omega arith)
renewed_same (suc n) sets ys slots k is below long =
    same_by_last n sets ys (renewed n sets ys slots) k (cases_eq k n) is (long ∙ sym (renewed_long n sets ys slots))
    (λ other. renewed_same n sets ys slots k is (below_other k n below other) long)

closed_by : (Q : List ℤ → Type 0) (sets : List ℕ) (b : Bool) (n : ℕ) (y : ℤ) (zs : List ℤ) → IsClosed Q sets → list_any (λ slot. slot == n) sets ≡ b → Q zs → Q (renewed_by b n y zs)
closed_by Q sets true n y zs closed is q = closed zs n y is q
closed_by Q sets false n y zs closed is q = q

pub closed_renewed : (Q : List ℤ → Type 0) (n : ℕ) (sets : List ℕ) (ys slots : List ℤ) → IsClosed Q sets → Q slots → Q (renewed n sets ys slots)
closed_renewed Q zero sets ys slots closed q = q
closed_renewed Q (suc n) sets ys slots closed q =
    closed_by Q sets (list_any (λ slot. slot == n) sets) n (get_or ys n (pos 0)) (renewed n sets ys slots) closed refl (closed_renewed Q n sets ys slots closed q)
