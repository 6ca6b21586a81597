-- Lists of coefficients: one place further in a loop over them, and lists without zeros at their end.
use Rattle.std.proofs.Common.{◌≡◌, ℕ, zero, suc, ◌+◌, ◌<◌, ◌≤◌, ◌^◌, max, true, false, ◌&&◌, List, [], ◌∷◌, ◌++◌, length, get_or, drop, take, ◌-◌, ◌*ℤ◌, ℤ, pos, negsuc, refl, sym, ap, ◌∙◌, append_assoc, add-one, arith}
use Rattle.std.proofs.lemmas.List.{drop_more, take_more, take_all}
use Rattle.fsl_lin.specs.Combination.{joined, is_within, are_within, lead, trim, products, IsNarrowed}

drop_nil : (s : ℕ) → drop s (let e : List ℤ = [] in e) ≡ []
drop_nil zero = refl
drop_nil (suc s) = refl

step : (f : ℤ → ℤ → ℤ) (a b : List ℤ) (s : ℕ) → s < max (length a) (length b)
    → joined f (drop s a) (drop s b) ≡ f (get_or a s (pos 0)) (get_or b s (pos 0)) ∷ joined f (drop (suc s) a) (drop (suc s) b)
step f [] [] s h = absurd (omega arith)
step f [] (y ∷ ys) zero h = refl
step f [] (y ∷ ys) (suc s) h = let i : joined f (drop s []) (drop s ys) ≡ f (pos 0) (get_or ys s (pos 0)) ∷ joined f [] (drop (suc s) ys) = step f [] ys s (omega arith) in rw drop_nil at i
step f (x ∷ xs) [] zero h = refl
step f (x ∷ xs) [] (suc s) h = let i : joined f (drop s xs) (drop s []) ≡ f (get_or xs s (pos 0)) (pos 0) ∷ joined f (drop (suc s) xs) [] = step f xs [] s (omega arith) in rw drop_nil at i
step f (x ∷ xs) (y ∷ ys) zero h = refl
step f (x ∷ xs) (y ∷ ys) (suc s) h = step f xs ys s (omega arith)

-- what is left at place s begins with the number there
pub joined_step : (f : ℤ → ℤ → ℤ) (a b : List ℤ) (s : ℕ) → s < max (length a) (length b)
    → joined f (drop s a) (drop s b) ≡ f (get_or a s (pos 0)) (get_or b s (pos 0)) ∷ joined f (drop (s + 1) a) (drop (s + 1) b)
joined_step f a b s h = rw add-one (step f a b s h)

pub are_within_push : (b : ℕ) (xs : List ℤ) (x : ℤ) → are_within b xs ≡ true → is_within b x ≡ true → are_within b (xs ++ x ∷ []) ≡ true
are_within_push b [] x h k = grind arith
are_within_push b (y ∷ ys) x h k = grind (arith, are_within_push b ys x)

wide_part : (b : ℕ) (done rest : List ℤ) (x : ℤ) → is_within b x ≡ false → are_within b (done ++ x ∷ rest) ≡ false
wide_part b [] rest x k = grind arith
wide_part b (y ∷ ys) rest x k = grind (arith, wide_part b ys rest x k)

-- how far a loop that writes coefficients has come: those done, within their bound, and those left make up the whole
pub record SoFar (done left whole : List ℤ) : Type 0 where
  pub so_far : done ++ left ≡ whole
  pub narrow : are_within (2 ^ 24) done ≡ true

-- the first of those left is done
pub one_more : {done left whole : List ℤ} (rest pushed : List ℤ) (n x : ℤ) → SoFar done left whole → left ≡ n ∷ rest
    → IsNarrowed (2 ^ 24) n x → pushed ≡ done ++ x ∷ [] → SoFar pushed rest whole
one_more {done = done} {left = left} {whole = whole} rest pushed n x sofar e narrowed p =
    let q : pushed ≡ done ++ n ∷ [] = p ∙ ap (λ (y : ℤ). done ++ y ∷ []) narrowed.is in
    record {
      so_far = ap (λ (ys : List ℤ). ys ++ rest) q ∙ append_assoc done (n ∷ []) rest ∙ ap (λ (ys : List ℤ). done ++ ys) (sym e) ∙ sofar.so_far;
      narrow = ap (are_within (2 ^ 24)) q ∙ are_within_push (2 ^ 24) done n sofar.narrow narrowed.within;
    }

-- the first of those left passes its bound
pub one_wide : {done left whole : List ℤ} (rest : List ℤ) (n : ℤ) → SoFar done left whole → left ≡ n ∷ rest → is_within (2 ^ 24) n ≡ false
    → are_within (2 ^ 24) whole ≡ false
one_wide {done = done} {left = left} {whole = whole} rest n sofar e k =
    let g : done ++ n ∷ rest ≡ whole = ap (λ (ys : List ℤ). done ++ ys) (sym e) ∙ sofar.so_far in
    ap (are_within (2 ^ 24)) (sym g) ∙ wide_part (2 ^ 24) done rest n k

-- a zero at the end goes
pub trim_zero : (xs : List ℤ) → trim (xs ++ pos 0 ∷ []) ≡ trim xs
trim_zero [] = refl
trim_zero (x ∷ xs) = ap (lead x) (trim_zero xs)

lead_last : (x y : ℤ) (ys : List ℤ) → lead x (y ∷ ys) ≡ x ∷ y ∷ ys
lead_last (pos zero) y ys = refl
lead_last (pos (suc n)) y ys = refl
lead_last (negsuc n) y ys = refl

lead_push : (x y : ℤ) (xs : List ℤ) → lead x (xs ++ y ∷ []) ≡ x ∷ (xs ++ y ∷ [])
lead_push x y [] = lead_last x y []
lead_push x y (z ∷ zs) = lead_last x z (zs ++ y ∷ [])

lead_alone : (y : ℤ) → (y ≡ pos 0 → ⊥) → lead y [] ≡ y ∷ []
lead_alone (pos zero) h = absurd (h refl)
lead_alone (pos (suc n)) h = refl
lead_alone (negsuc n) h = refl

-- another number at the end stays
pub trim_kept : (xs : List ℤ) (y : ℤ) → (y ≡ pos 0 → ⊥) → trim (xs ++ y ∷ []) ≡ xs ++ y ∷ []
trim_kept [] y h = lead_alone y h
trim_kept (x ∷ xs) y h = ap (lead x) (trim_kept xs y h) ∙ lead_push x y xs

lead_trimmed : (x : ℤ) (ys : List ℤ) → trim ys ≡ ys → trim (lead x ys) ≡ lead x ys
lead_trimmed (pos zero) [] h = refl
lead_trimmed (pos (suc n)) [] h = refl
lead_trimmed (negsuc n) [] h = refl
lead_trimmed x (y ∷ ys) h = rw (lead_last x y ys) (ap (lead x) h ∙ lead_last x y ys)

-- a trimmed list has no zeros at its end
pub trim_twice : (xs : List ℤ) → trim (trim xs) ≡ trim xs
trim_twice [] = refl
trim_twice (x ∷ xs) = lead_trimmed x (trim xs) (trim_twice xs)

lead_shorter : (x : ℤ) (ys : List ℤ) → length (lead x ys) ≤ suc (length ys)
lead_shorter (pos zero) [] = omega arith
lead_shorter (pos (suc n)) [] = omega arith
lead_shorter (negsuc n) [] = omega arith
lead_shorter x (y ∷ ys) = rw (lead_last x y ys) (omega arith)

pub trim_shorter : (xs : List ℤ) → length (trim xs) ≤ length xs
trim_shorter [] = omega arith
trim_shorter (x ∷ xs) = let a : length (lead x (trim xs)) ≤ suc (length (trim xs)) = lead_shorter x (trim xs) in let b : length (trim xs) ≤ length xs = trim_shorter xs in omega arith

lead_within : (b : ℕ) (x : ℤ) (ys : List ℤ) → are_within b (lead x ys) ≡ are_within b (x ∷ ys)
lead_within b (pos zero) [] = grind arith
lead_within b (pos (suc n)) [] = refl
lead_within b (negsuc n) [] = refl
lead_within b x (y ∷ ys) = ap (are_within b) (lead_last x y ys)

-- the zeros at the end are no matter for the bounds
pub trim_within : (b : ℕ) (xs : List ℤ) → are_within b (trim xs) ≡ are_within b xs
trim_within b [] = refl
trim_within b (x ∷ xs) = lead_within b x (trim xs) ∙ ap (λ t. is_within b x && t) (trim_within b xs)

pub joined_length : (f : ℤ → ℤ → ℤ) (a b : List ℤ) → length (joined f a b) ≡ max (length a) (length b)
joined_length f [] [] = omega arith
joined_length f [] (y ∷ ys) = let i : length (joined f [] ys) ≡ max 0 (length ys) = joined_length f [] ys in omega arith
joined_length f (x ∷ xs) [] = let i : length (joined f xs []) ≡ max (length xs) 0 = joined_length f xs [] in omega arith
joined_length f (x ∷ xs) (y ∷ ys) = let i : length (joined f xs ys) ≡ max (length xs) (length ys) = joined_length f xs ys in omega arith

-- what is left of a list of products at place s begins with the product there
pub products_step : (k : ℤ) (xs : List ℤ) (s : ℕ) → s < length xs → products k (drop s xs) ≡ (get_or xs s (pos 0) *ℤ k) ∷ products k (drop (s + 1) xs)
products_step k xs s h = ap (products k) (drop_more xs s (pos 0) h)

pub products_length : (k : ℤ) (xs : List ℤ) → length (products k xs) ≡ length xs
products_length k [] = refl
products_length k (x ∷ xs) = ap suc (products_length k xs)

-- a list and its last item
last_split : (xs : List ℤ) (d : ℤ) → 0 < length xs → xs ≡ take (length xs - 1) xs ++ get_or xs (length xs - 1) d ∷ []
last_split xs d h =
    let n : length xs - 1 < length xs = omega arith in
    let e : take (length xs - 1 + 1) xs ≡ take (length xs - 1) xs ++ get_or xs (length xs - 1) d ∷ [] = take_more xs (length xs - 1) d n in
    let w : length xs ≤ length xs - 1 + 1 = omega arith in
    sym (take_all (length xs - 1 + 1) xs w) ∙ e

pub popped_zero : (xs : List ℤ) → 0 < length xs → get_or xs (length xs - 1) (pos 0) ≡ pos 0 → trim (take (length xs - 1) xs) ≡ trim xs
popped_zero xs h z =
    let e : xs ≡ take (length xs - 1) xs ++ pos 0 ∷ [] = last_split xs (pos 0) h ∙ ap (λ (y : ℤ). take (length xs - 1) xs ++ y ∷ []) z in
    sym (ap trim e ∙ trim_zero (take (length xs - 1) xs))

pub last_kept : (xs : List ℤ) (y : ℤ) → 0 < length xs → y ≡ get_or xs (length xs - 1) y → (y ≡ pos 0 → ⊥) → trim xs ≡ xs
last_kept xs y h l z =
    let e : xs ≡ take (length xs - 1) xs ++ y ∷ [] = last_split xs y h ∙ ap (λ (t : ℤ). take (length xs - 1) xs ++ t ∷ []) (sym l) in
    ap trim e ∙ trim_kept (take (length xs - 1) xs) y z ∙ sym e
