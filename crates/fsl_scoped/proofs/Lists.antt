-- Lists of numbers and of sights, one item of which is set.
use Rattle.std.proofs.Common.{◌≡◌, ◌⊎◌, inl, inr, ℕ, zero, suc, ◌<◌, ◌++◌, List, [], ◌∷◌, length, ℤ, get_or, slice_get, slice_set, is_some, false, true, unwrap_or, ap, ◌∙◌, sym, refl, arith}
use Rattle.std.proofs.lemmas.Option.{unwrap_or-slice_get}
use Rattle.fsl_asserted.specs.Exact.{last_number}

pub get_other : {X : Type 0} (xs : List X) (i k : ℕ) (x : X) → (k ≡ i → ⊥) → slice_get (slice_set xs i x) k ≡ slice_get xs k
get_other [] i k x h = refl
get_other (y ∷ ys) zero zero x h = absurd (h refl)
get_other (y ∷ ys) zero (suc k) x h = refl
get_other (y ∷ ys) (suc i) zero x h = refl
get_other (y ∷ ys) (suc i) (suc k) x h = get_other ys i k x (λ e. h (ap suc e))

-- the same is set in both or in neither
pub set_alike : (xs ys : List ℤ) (i : ℕ) (x : ℤ) → is_some (slice_get xs i) ≡ is_some (slice_get ys i)
    → slice_get (slice_set xs i x) i ≡ slice_get (slice_set ys i x) i
set_alike [] [] i x h = refl
set_alike [] (z ∷ zs) zero x h = absurd (let d : false ≡ true = h in cc)
set_alike [] (z ∷ zs) (suc i) x h = set_alike [] zs i x h
set_alike (y ∷ ys) [] zero x h = absurd (let d : true ≡ false = h in cc)
set_alike (y ∷ ys) [] (suc i) x h = set_alike ys [] i x h
set_alike (y ∷ ys) (z ∷ zs) zero x h = refl
set_alike (y ∷ ys) (z ∷ zs) (suc i) x h = set_alike ys zs i x h

pub room_set : (xs : List ℤ) (i k : ℕ) (x : ℤ) → is_some (slice_get (slice_set xs i x) k) ≡ is_some (slice_get xs k)
room_set [] i k x = refl
room_set (y ∷ ys) zero zero x = refl
room_set (y ∷ ys) zero (suc k) x = refl
room_set (y ∷ ys) (suc i) zero x = refl
room_set (y ∷ ys) (suc i) (suc k) x = room_set ys i k x

pub room_long : (xs ys : List ℤ) (k : ℕ) → length xs ≡ length ys → is_some (slice_get xs k) ≡ is_some (slice_get ys k)
room_long [] [] k h = refl
room_long [] (y ∷ ys) k h = absurd (omega arith)
room_long (x ∷ xs) [] k h = absurd (omega arith)
room_long (x ∷ xs) (y ∷ ys) zero h = refl
room_long (x ∷ xs) (y ∷ ys) (suc k) h = room_long xs ys k (omega arith)

last_head : (x y z : ℤ) (ys zs : List ℤ) → length ys ≡ length zs → last_number y ys ≡ last_number z zs → last_number x ys ≡ last_number x zs
last_head x y z [] [] l h = refl
last_head x y z [] (c ∷ cs) l h = absurd (omega arith)
last_head x y z (b ∷ bs) [] l h = absurd (omega arith)
last_head x y z (b ∷ bs) (c ∷ cs) l h = h

pub last_set : (d e : ℤ) (xs ys : List ℤ) (i : ℕ) (x : ℤ) → length xs ≡ length ys → last_number d xs ≡ last_number e ys
    → last_number d (slice_set xs i x) ≡ last_number e (slice_set ys i x)
last_set d e [] [] i x l h = h
last_set d e [] (z ∷ zs) i x l h = absurd (omega arith)
last_set d e (y ∷ ys) [] i x l h = absurd (omega arith)
last_set d e (y ∷ ys) (z ∷ zs) zero x l h = last_head x y z ys zs (omega arith) h
last_set d e (y ∷ ys) (z ∷ zs) (suc i) x l h = last_set y z ys zs i x (omega arith) h

pub last_behind : (d : ℤ) (xs : List ℤ) (r : ℤ) → last_number d (xs ++ r ∷ []) ≡ r
last_behind d [] r = refl
last_behind d (x ∷ xs) r = last_behind x xs r

pub append_alike : (xs ys zs : List ℤ) (k : ℕ) → length xs ≡ length ys → slice_get xs k ≡ slice_get ys k → slice_get (xs ++ zs) k ≡ slice_get (ys ++ zs) k
append_alike [] [] zs k l h = refl
append_alike [] (y ∷ ys) zs k l h = absurd (omega arith)
append_alike (x ∷ xs) [] zs k l h = absurd (omega arith)
append_alike (x ∷ xs) (y ∷ ys) zs zero l h = h
append_alike (x ∷ xs) (y ∷ ys) zs (suc k) l h = append_alike xs ys zs k (omega arith) h

pub append_front : (xs zs : List ℤ) (k : ℕ) → k < length xs → slice_get (xs ++ zs) k ≡ slice_get xs k
append_front [] zs k h = absurd (omega arith)
append_front (x ∷ xs) zs zero h = refl
append_front (x ∷ xs) zs (suc k) h = append_front xs zs k (omega arith)

pub get_alike : (xs ys : List ℤ) (k : ℕ) (d : ℤ) → slice_get xs k ≡ slice_get ys k → get_or xs k d ≡ get_or ys k d
get_alike xs ys k d h = sym (unwrap_or-slice_get xs k d) ∙ ap (λ o. unwrap_or o d) h ∙ unwrap_or-slice_get ys k d

-- what stands at k once i was set: the new item, or what stood there before, which may be none
pub set_cases : {X : Type 0} (xs : List X) (i k : ℕ) (x d : X) (P : X → Type 0) → (i ≡ k → P x)
    → ((i ≡ k → ⊥) ⊎ (get_or xs k d ≡ d) → P (get_or xs k d)) → P (get_or (slice_set xs i x) k d)
set_cases [] i k x d P same other = other (inr refl)
set_cases (y ∷ ys) zero zero x d P same other = same refl
set_cases (y ∷ ys) zero (suc k) x d P same other = other (inl (λ e. omega arith))
set_cases (y ∷ ys) (suc i) zero x d P same other = other (inl (λ e. omega arith))
set_cases (y ∷ ys) (suc i) (suc k) x d P same other =
    set_cases ys i k x d P (λ e. same (ap suc e)) (λ w. other (deeper w))
  where
    deeper : (i ≡ k → ⊥) ⊎ (get_or ys k d ≡ d) → (suc i ≡ suc k → ⊥) ⊎ (get_or ys k d ≡ d)
    deeper (inl h) = inl (λ e. h (omega arith))
    deeper (inr h) = inr h
