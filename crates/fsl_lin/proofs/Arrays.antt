-- Arrays of the numbers of a term.
use Rattle.std.proofs.Common.{◌≡◌, ℕ, zero, suc, ◌<◌, ◌≤◌, ◌^◌, Bool, true, false, ◌&&◌, List, [], ◌∷◌, ◌++◌, length, get_or, take, ℤ, pos, ◌*ℤ◌, refl, sym, ap, ◌∙◌, add-one, arith}
use Rattle.std.proofs.lemmas.List.{get_or_past, take_more, take_all}
use Rattle.fsl_lin.specs.Combination.{Combination, is_within, are_within, trim, trimmed, products}
use Rattle.fsl_lin.specs.Numbers.{Numbers, most, part, listed, scaled, fits, within_above}
use Rattle.fsl_lin.proofs.Coefficients.{trim_at, products_at, trim_by_items}
use Rattle.fsl_lin.proofs.Terms.{products_length, trim_shorter, trim_within}
use Rattle.fsl_lin.proofs.Kept.{few_products}
use Rattle.fsl_lin.proofs.Ring.{times_one}

pub most_is : most ≡ 512
unfolding most
most_is = refl

-- past its width a term has 0
pub part_past : (c : Combination) (i : ℕ) → length c.terms < i → part c i ≡ pos 0
part_past c zero h = absurd (omega arith)
part_past c (suc s) h = get_or_past c.terms s (pos 0) (omega arith)

and_swap : (x y z : Bool) → (x && (y && z)) ≡ (y && (x && z))
and_swap true y z = refl
and_swap false true z = refl
and_swap false false z = refl

are_within_last : (b : ℕ) (xs : List ℤ) (x : ℤ) → are_within b (xs ++ x ∷ []) ≡ (is_within b x && are_within b xs)
are_within_last b [] x = refl
are_within_last b (y ∷ ys) x = ap (λ t. is_within b y && t) (are_within_last b ys x) ∙ and_swap (is_within b y) (is_within b x) (are_within b ys)

above_taken : (b m : ℕ) (xs : List ℤ) (n : Numbers) → m ≤ length xs → ((s : ℕ) → n (suc s) ≡ get_or xs s (pos 0))
    → within_above b m n ≡ are_within b (take m xs)
above_taken b zero xs n h e = refl
above_taken b (suc m) xs n h e =
    let here : m < length xs = omega arith in
    let next : take (suc m) xs ≡ take m xs ++ get_or xs m (pos 0) ∷ [] = ap (λ (k : ℕ). take k xs) (sym (add-one m)) ∙ take_more xs m (pos 0) here in
    let before : within_above b m n ≡ are_within b (take m xs) = above_taken b m xs n (omega arith) e in
    (λ i. is_within b (e m i) && before i) ∙ sym (are_within_last b (take m xs) (get_or xs m (pos 0))) ∙ ap (are_within b) (sym next)

pub above_is : (b : ℕ) (xs : List ℤ) (n : Numbers) → length xs ≡ most → ((s : ℕ) → n (suc s) ≡ get_or xs s (pos 0)) → within_above b most n ≡ are_within b xs
above_is b xs n l e =
    above_taken b most xs n (omega arith) e ∙ ap (are_within b) (take_all most xs (omega arith))

products_places : (cs us : List ℤ) (n k : ℤ) → us ≡ trim cs → (i : ℕ) → part (trimmed (products k us) (n *ℤ k)) i ≡ scaled k (listed (n ∷ cs)) i
products_places cs us n k u zero = refl
products_places cs us n k u (suc s) =
    trim_at (products k us) s ∙ products_at k us s ∙ ap (λ (ys : List ℤ). get_or ys s (pos 0) *ℤ k) u ∙ ap (λ (z : ℤ). z *ℤ k) (trim_at cs s)

-- the numbers of a combination that is made of products, up to the last number that isn't 0
pub products_part : (ns cs us : List ℤ) (n k : ℤ) → ns ≡ n ∷ cs → us ≡ trim cs → part (trimmed (products k us) (n *ℤ k)) ≡ scaled k (listed ns)
products_part ns cs us n k e u =
    let each : (i : ℕ) → part (trimmed (products k us) (n *ℤ k)) i ≡ scaled k (listed (n ∷ cs)) i = products_places cs us n k u in
    (λ j i. each i j) ∙ ap (λ (ms : List ℤ). scaled k (listed ms)) (sym e)

-- the zeros at the end of a list are no matter for the bounds of products
products_within : (b : ℕ) (cs us : List ℤ) (k : ℤ) → us ≡ trim cs → are_within b (products k cs) ≡ are_within b (products k us)
products_within b cs us k u =
    let same : trim (products k cs) ≡ trim (products k us) =
    trim_by_items (products k cs) (products k us)
    (λ s. products_at k cs s ∙ sym (products_at k us s ∙ ap (λ (ys : List ℤ). get_or ys s (pos 0) *ℤ k) u ∙ ap (λ (z : ℤ). z *ℤ k) (trim_at cs s))) in
    sym (trim_within b (products k cs)) ∙ ap (are_within b) same ∙ trim_within b (products k us)

pub products_fit : (ns cs us : List ℤ) (n k : ℤ) → ns ≡ n ∷ cs → us ≡ trim cs → length ns ≡ 513
    → fits (scaled k (listed ns)) ≡ (is_within (2 ^ 90) (n *ℤ k) && are_within (2 ^ 24) (products k us))
products_fit ns cs us n k e u l =
    let length_is : suc (length cs) ≡ 513 = ap length (sym e) ∙ l in
    let long : length (products k cs) ≡ most = products_length k cs ∙ (let c : length cs ≡ 512 = omega arith in c) ∙ sym most_is in
    ap (λ (ms : List ℤ). fits (scaled k (listed ms))) e
    ∙ ap (λ t. is_within (2 ^ 90) (n *ℤ k) && t)
    (above_is (2 ^ 24) (products k cs) (scaled k (listed (n ∷ cs))) long (λ s. sym (products_at k cs s)) ∙ products_within (2 ^ 24) cs us k u)

-- the products are no more than a term has places
pub few_used : (ns cs us : List ℤ) (n k : ℤ) → ns ≡ n ∷ cs → us ≡ trim cs → length ns ≡ 513 → length (products k us) ≤ 512
few_used ns cs us n k e u l =
    let whole : suc (length cs) ≡ 513 = ap length (sym e) ∙ l in
    let short : length (trim cs) ≤ length cs = trim_shorter cs in
    let same : length us ≡ length (trim cs) = ap length u in
    few_products k us (omega arith)

pub scaled_one : (n : Numbers) → scaled (pos 1) n ≡ n
scaled_one n = λ j i. times_one (n i) j
