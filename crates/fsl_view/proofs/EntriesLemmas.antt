-- What raising and joining do to ascending entries, what a search finds there, and how many entries a join adds.
use Rattle.std.proofs.Common.{◌≡◌, ℕ, ℤ, ◌≤◌, ◌<ℤ◌, max, Bool, true, false, cond, ◌⊎◌, inl, inr, List, [], ◌∷◌, length, refl, sym, ap, ◌∙◌, subst, arith, Less, Equal, Greater, int_cmp, int_eq, zero, suc, ◌<◌, get_or, take, drop, set, insert, Result, Ok, Err, add-one, is_lt, ◌+◌, is_ok, ◌||◌}
use Rattle.std.proofs.Math.Path.{fun_ext}
use Rattle.std.proofs.lemmas.Cmp.{int_ranked, by_ranked, int_cmp_total}
use Rattle.std.specs.Cmp.{int_cmp_is, int_chain}
use Rattle.fsl_view.specs.declared.entry.Entry.{Entry}
use Rattle.fsl_view.specs.Seen.{joined, only, raised}
use Rattle.fsl_view.specs.Entries.{at, raise_in, join_in, Above, Ascends, IsAscending, Below, IsIndexOf, has}
use Rattle.std.specs.List.Sorted.{IsBinarySearchResult, IsSearchInRange, IsNonDecreasingBy}
use Rattle.std.specs.Ordering.{ordering_index}
use Rattle.std.proofs.lemmas.List.Sorted.{searchable_from_sorted}

-- how two locations compare, with what that says
pub ranks : (x y : ℤ) → ((int_cmp x y ≡ Less) × (x <ℤ y)) ⊎ (((int_cmp x y ≡ Equal) × (x ≡ y)) ⊎ ((int_cmp x y ≡ Greater) × (y <ℤ x)))
ranks x y = by_ranked (x <ℤ y) (x ≡ y) (y <ℤ x) (int_cmp x y) (int_ranked x y (int_cmp x y) refl)
    (λ e h. inl (e, h)) (λ e h. inr (inl (e, h))) (λ e h. inr (inr (e, h)))

pub less : (x y : ℤ) → x <ℤ y → int_cmp x y ≡ Less
less x y h = sym (int_cmp_is x y Less h)

pub equal : (x y : ℤ) → x ≡ y → int_cmp x y ≡ Equal
equal x y h = sym (int_cmp_is x y Equal h)

pub greater : (x y : ℤ) → y <ℤ x → int_cmp x y ≡ Greater
greater x y h = sym (int_cmp_is x y Greater h)

pub is_true : (x y : ℤ) → int_eq x y ≡ true → x ≡ y
is_true x y e = elim (ranks x y) [ inl h ↦ cc (h.0) | inr (inl h) ↦ h.1 | inr (inr h) ↦ cc (h.0) ]

pub is_false : (x y : ℤ) → y <ℤ x → int_eq x y ≡ false
is_false x y h = let g = greater x y h in rw g

pub is_false_below : (x y : ℤ) → x <ℤ y → int_eq x y ≡ false
is_false_below x y h = let g = less x y h in rw g

pub above_more : (k l : ℤ) (es : List Entry) → k <ℤ l → Above l es → Above k es
above_more k l [] lt h = tt
above_more k l (e ∷ es) lt h = (int_chain k l e.loc lt h.0, above_more k l es lt h.1)

pub at_above : (l : ℤ) (es : List Entry) → Above l es → at es l ≡ 0
at_above l [] h = refl
at_above l (e ∷ es) h = let c = is_false e.loc l h.0 in rw c (at_above l es h.1)

less_case : (b d : Bool) (t u m n : ℕ) → (b ≡ true → d ≡ false) → m ≡ max n (cond d u 0)
    → cond b t m ≡ max (cond b t n) (cond d u 0)
less_case true true t u m n apart same = cc (apart refl)
less_case true false t u m n apart same = omega arith
less_case false d t u m n apart same = same

equal_case : (b : Bool) (t u n : ℕ) → cond b (max t u) n ≡ max (cond b t n) (cond b u 0)
equal_case true t u n = refl
equal_case false t u n = omega arith

greater_case : (d : Bool) (u n : ℕ) → (d ≡ true → n ≡ 0) → cond d u n ≡ max n (cond d u 0)
greater_case true u n none = let z = none refl in omega arith
greater_case false u n none = omega arith

pub at_raise : (es : List Entry) (by : Entry) → Ascends es → (l : ℤ)
    → at (raise_in es by) l ≡ max (at es l) (only by.loc by.to l)
at_raise [] by h l = omega arith
at_raise (e ∷ es) by h l = elim (ranks e.loc by.loc) [
  | inl c ↦ rw (c.0) (less_case (int_eq e.loc l) (int_eq by.loc l) e.to by.to (at (raise_in es by) l) (at es l)
      (λ t. is_false by.loc l (subst (λ x. x <ℤ by.loc) (is_true e.loc l t) c.1)) (at_raise es by h.1 l))
  | inr (inl c) ↦ rw (c.0) (subst (λ x. cond (int_eq e.loc l) (max e.to by.to) (at es l) ≡ max (cond (int_eq e.loc l) e.to (at es l)) (only x by.to l)) c.1
      (equal_case (int_eq e.loc l) e.to by.to (at es l)))
  | inr (inr c) ↦ rw (c.0) (greater_case (int_eq by.loc l) by.to (at (e ∷ es) l)
      (λ t. at_above l (e ∷ es) (subst (λ x. Above x (e ∷ es)) (is_true by.loc l t) (c.1, above_more by.loc e.loc es c.1 h.0))))
]

pub raise_above : (k : ℤ) (es : List Entry) (by : Entry) → k <ℤ by.loc → Above k es → Above k (raise_in es by)
raise_above k [] by lt h = (lt, tt)
raise_above k (e ∷ es) by lt h = elim (ranks e.loc by.loc) [
  | inl c ↦ rw (c.0) (h.0, raise_above k es by lt h.1)
  | inr (inl c) ↦ rw (c.0) h
  | inr (inr c) ↦ rw (c.0) (lt, h)
]

pub raise_ascends : (es : List Entry) (by : Entry) → Ascends es → Ascends (raise_in es by)
raise_ascends [] by h = (tt, tt)
raise_ascends (e ∷ es) by h = elim (ranks e.loc by.loc) [
  | inl c ↦ rw (c.0) (raise_above e.loc es by c.1 h.0, raise_ascends es by h.1)
  | inr (inl c) ↦ rw (c.0) h
  | inr (inr c) ↦ rw (c.0) ((c.1, above_more by.loc e.loc es c.1 h.0), h)
]

pub raise_longer : (es : List Entry) (by : Entry) → length es ≤ length (raise_in es by)
raise_longer [] by = omega arith
raise_longer (e ∷ es) by = elim (ranks e.loc by.loc) [
  | inl c ↦ rw (c.0) (let m = raise_longer es by in omega arith)
  | inr (inl c) ↦ rw (c.0) (omega arith)
  | inr (inr c) ↦ rw (c.0) (omega arith)
]

pub join_longer : (es others : List Entry) → length es ≤ length (join_in es others)
join_longer es [] = omega arith
join_longer es (by ∷ others) =
    let m = raise_longer es by in let n = join_longer (raise_in es by) others in omega arith

-- a raise adds one entry at most, and a join as many as there are others
pub raise_few : (es : List Entry) (by : Entry) → length (raise_in es by) ≤ length es + 1
raise_few [] by = omega arith
raise_few (e ∷ es) by = elim (ranks e.loc by.loc) [
  | inl c ↦ rw (c.0) (let m = raise_few es by in omega arith)
  | inr (inl c) ↦ rw (c.0) (omega arith)
  | inr (inr c) ↦ rw (c.0) (omega arith)
]

pub join_few : (es others : List Entry) → length (join_in es others) ≤ length es + length others
join_few es [] = omega arith
join_few es (by ∷ others) =
    let m = raise_few es by in let n = join_few (raise_in es by) others in omega arith

pub join_ascends : (es others : List Entry) → Ascends es → Ascends (join_in es others)
join_ascends es [] h = h
join_ascends es (by ∷ others) h = join_ascends (raise_in es by) others (raise_ascends es by h)

join_case : (d : Bool) (u m n : ℕ) → (d ≡ true → n ≡ 0) → max (max m (cond d u 0)) n ≡ max m (cond d u n)
join_case true u m n none = let z = none refl in omega arith
join_case false u m n none = omega arith

pub at_join : (es others : List Entry) → Ascends es → Ascends others → (l : ℤ)
    → at (join_in es others) l ≡ max (at es l) (at others l)
at_join es [] h k l = omega arith
at_join es (by ∷ others) h k l =
    at_join (raise_in es by) others (raise_ascends es by h) k.1 l
    ∙ ap (λ n. max n (at others l)) (at_raise es by h l)
    ∙ join_case (int_eq by.loc l) by.to (at es l) (at others l)
    (λ t. at_above l others (subst (λ x. Above x others) (is_true by.loc l t) k.0))

-- the same, as equations of functions
pub seen_raise : (es new : List Entry) (by : Entry) → Ascends es → new ≡ raise_in es by → at new ≡ raised (at es) by.loc by.to
seen_raise es new by h is = ap at is ∙ fun_ext (λ l. at_raise es by h l)

pub seen_join : (es others new : List Entry) → Ascends es → Ascends others → new ≡ join_in es others
    → at new ≡ joined (at es) (at others)
seen_join es others new h k is = ap at is ∙ fun_ext (λ l. at_join es others h k l)

pub raised_ascends : (es new : List Entry) (by : Entry) → IsAscending es → new ≡ raise_in es by → IsAscending new
raised_ascends es new by h is = subst IsAscending (sym is) (record { ascends = raise_ascends es by h.ascends })

-- ---- what binary search finds in ascending entries, and what follows for a look and for a raise

pub above_at : (l : ℤ) (es : List Entry) (i : ℕ) (d : Entry) → Above l es → i < length es → l <ℤ (get_or es i d).loc
above_at l [] i d h lt = absurd (omega arith)
above_at l (e ∷ es) zero d h lt = h.0
above_at l (e ∷ es) (suc i) d h lt = above_at l es i d h.1 (omega arith)

sorted : (es : List Entry) (k : ℕ) (d : Entry) → Ascends es → suc k < length es
    → is_lt (int_cmp (get_or es (suc k) d).loc (get_or es k d).loc) ≡ false
sorted [] k d h lt = absurd (omega arith)
sorted (e ∷ es) zero d h lt =
    let g = greater (get_or es 0 d).loc e.loc (above_at e.loc es 0 d h.0 (omega arith)) in rw g
sorted (e ∷ es) (suc k) d h lt = sorted es k d h.1 (omega arith)

searchable : (es : List Entry) (l : ℤ) → Ascends es → IsNonDecreasingBy (λ (e : Entry). ordering_index (int_cmp e.loc l)) es
searchable es l h = searchable_from_sorted int_cmp_total (λ (e : Entry). e.loc) es l
    (λ k d from to. rw add-one (sorted es k d h (omega arith)))

below_from : (es : List Entry) (i : ℕ) (l : ℤ) → i ≤ length es
    → ((k : ℕ) (d : Entry) → 0 ≤ k → k < i → int_cmp (get_or es k d).loc l ≡ Less) → Below l (take i es)
below_from es zero l within p = tt
below_from [] (suc i) l within p = tt
below_from (e ∷ es) (suc i) l within p = (
  int_ranked e.loc l Less (sym (p 0 e (omega arith) (omega arith))),
  below_from es i l (omega arith) (λ k d from to. p (suc k) d (omega arith) (omega arith)),
)

above_from : (es : List Entry) (i : ℕ) (l : ℤ)
    → ((k : ℕ) (d : Entry) → i ≤ k → k < length es → int_cmp (get_or es k d).loc l ≡ Greater) → Above l (drop i es)
above_from [] zero l p = tt
above_from [] (suc i) l p = tt
above_from (e ∷ es) zero l p = (
  int_ranked e.loc l Greater (sym (p 0 e (omega arith) (omega arith))),
  above_from es zero l (λ k d from to. p (suc k) d (omega arith) (omega arith)),
)
above_from (e ∷ es) (suc i) l p = above_from es i l (λ k d from to. p (suc k) d (omega arith) (omega arith))

pub index_from : (es : List Entry) (l : ℤ) (r : Result ℕ ℕ) → IsSearchInRange r (length es)
    → IsBinarySearchResult (λ (e : Entry). int_cmp e.loc l) es r → Ascends es → IsIndexOf es l r
index_from es l (Ok i) within found h = record {
  within = within;
  loc = λ d. int_ranked (get_or es i d).loc l Equal (sym (found d));
}
index_from es l (Err i) within found h =
    let parts = found (searchable es l h) in
    record { within = within; below = below_from es i l within parts.0; above = above_from es i l parts.1 }

pub at_found : (es : List Entry) (i : ℕ) (l : ℤ) (d : Entry) → Ascends es → i < length es → (get_or es i d).loc ≡ l
    → (get_or es i d).to ≡ at es l
at_found [] i l d h lt same = absurd (omega arith)
at_found (e ∷ es) zero l d h lt same = let q = equal e.loc l same in rw q
at_found (e ∷ es) (suc i) l d h lt same =
    let a = above_at e.loc es i d h.0 (omega arith) in
    let q = is_false_below e.loc l (subst (λ (x : ℤ). e.loc <ℤ x) same a) in
    rw q (at_found es i l d h.1 (omega arith) same)

pub at_missing : (es : List Entry) (i : ℕ) (l : ℤ) → Below l (take i es) → Above l (drop i es) → 0 ≡ at es l
at_missing es zero l below above = sym (at_above l es above)
at_missing [] (suc i) l below above = refl
at_missing (e ∷ es) (suc i) l below above =
    let q = is_false_below e.loc l below.0 in rw q (at_missing es i l below.1 above)

pub raise_found : (es : List Entry) (i : ℕ) (by : Entry) (d : Entry) → Ascends es → i < length es → (get_or es i d).loc ≡ by.loc
    → set es i (record { loc = (get_or es i d).loc; to = max (get_or es i d).to by.to }) ≡ raise_in es by
raise_found [] i by d h lt same = absurd (omega arith)
raise_found (e ∷ es) zero by d h lt same = let q = equal e.loc by.loc same in rw q
raise_found (e ∷ es) (suc i) by d h lt same =
    let a = above_at e.loc es i d h.0 (omega arith) in
    let q = less e.loc by.loc (subst (λ (x : ℤ). e.loc <ℤ x) same a) in
    rw q (ap (λ (xs : List Entry). e ∷ xs) (raise_found es i by d h.1 (omega arith) same))

pub raise_missing : (es : List Entry) (i : ℕ) (by : Entry) → Below by.loc (take i es) → Above by.loc (drop i es)
    → insert es i by ≡ raise_in es by
raise_missing [] zero by below above = refl
raise_missing [] (suc i) by below above = refl
raise_missing (e ∷ es) zero by below above = let q = greater e.loc by.loc above.0 in rw q
raise_missing (e ∷ es) (suc i) by below above =
    let q = less e.loc by.loc below.0 in
    rw q (ap (λ (xs : List Entry). e ∷ xs) (raise_missing es i by below.1 above))

-- the same, of an entry that was read
pub raise_read : (es : List Entry) (i : ℕ) (by e : Entry) (to : ℕ) → Ascends es → i < length es
    → ((d : Entry) → (get_or es i d).loc ≡ by.loc) → e ≡ get_or es i e → to ≡ max e.to by.to
    → set es i (record { loc = e.loc; to = to }) ≡ raise_in es by
raise_read es i by e to h lt same read is =
    ap (λ (n : ℕ). set es i (record { loc = e.loc; to = n })) is
    ∙ ap (λ (x : Entry). set es i (record { loc = x.loc; to = max x.to by.to })) read
    ∙ raise_found es i by e h lt (same e)

-- ---- how many entries a join adds

abbrev pub new_one : List Entry → Entry → ℕ
new_one es by = cond (has es by.loc) 0 1

abbrev pub new_ones : List Entry → List Entry → ℕ
new_ones es [] = 0
new_ones es (by ∷ others) = new_one es by + new_ones es others

has_above : (l : ℤ) (es : List Entry) → Above l es → has es l ≡ false
has_above l [] h = refl
has_above l (e ∷ es) h = let q = is_false e.loc l h.0 in rw q (has_above l es h.1)

has_found : (es : List Entry) (i : ℕ) (l : ℤ) (d : Entry) → i < length es → (get_or es i d).loc ≡ l → has es l ≡ true
has_found [] i l d lt same = absurd (omega arith)
has_found (e ∷ es) zero l d lt same = let q = equal e.loc l same in rw q
has_found (e ∷ es) (suc i) l d lt same =
    elim (int_eq e.loc l) as (λ b. (b || has es l) ≡ true) [ true ↦ refl | false ↦ has_found es i l d (omega arith) same ]

has_missing : (es : List Entry) (i : ℕ) (l : ℤ) → Below l (take i es) → Above l (drop i es) → has es l ≡ false
has_missing es zero l below above = has_above l es above
has_missing [] (suc i) l below above = refl
has_missing (e ∷ es) (suc i) l below above =
    let q = is_false_below e.loc l below.0 in rw q (has_missing es i l below.1 above)

pub has_index : (es : List Entry) (l : ℤ) (r : Result ℕ ℕ) → IsIndexOf es l r → is_ok r ≡ has es l
has_index [] l (Ok i) p = absurd (let w = p.within in omega arith)
has_index (e ∷ es) l (Ok i) p = sym (has_found (e ∷ es) i l e p.within (p.loc e))
has_index es l (Err i) p = sym (has_missing es i l p.below p.above)

length_raise : (es : List Entry) (by : Entry) → Ascends es → length (raise_in es by) ≡ length es + new_one es by
length_raise [] by h = refl
length_raise (e ∷ es) by h = elim (ranks e.loc by.loc) [
  | inl c ↦ rw (c.0) (let n = length_raise es by h.1 in omega arith)
  | inr (inl c) ↦ rw (c.0) (omega arith)
  | inr (inr c) ↦ let none = has_above by.loc (e ∷ es) (c.1, above_more by.loc e.loc es c.1 h.0) in
      let one : new_one (e ∷ es) by ≡ 1 = ap (λ (b : Bool). cond b 0 1) none in
      let more : length (raise_in (e ∷ es) by) ≡ length (e ∷ es) + 1 = rw (c.0) (omega arith) in
      more ∙ ap (λ (n : ℕ). length (e ∷ es) + n) (sym one)
]

has_raise : (es : List Entry) (by : Entry) (l : ℤ) → int_eq by.loc l ≡ false → has (raise_in es by) l ≡ has es l
has_raise [] by l apart = rw apart
has_raise (e ∷ es) by l apart = elim (ranks e.loc by.loc) [
  | inl c ↦ rw (c.0) (ap (λ b. int_eq e.loc l || b) (has_raise es by l apart))
  | inr (inl c) ↦ rw (c.0)
  | inr (inr c) ↦ rw (c.0, apart)
]

new_ones_raise : (es : List Entry) (by : Entry) (others : List Entry) → Above by.loc others
    → new_ones (raise_in es by) others ≡ new_ones es others
new_ones_raise es by [] h = refl
new_ones_raise es by (o ∷ others) h =
    let one = has_raise es by o.loc (is_false_below by.loc o.loc h.0) in
    let rest = new_ones_raise es by others h.1 in cc

pub length_join : (es others : List Entry) → Ascends es → Ascends others
    → length es + new_ones es others ≡ length (join_in es others)
length_join es [] h k = omega arith
length_join es (by ∷ others) h k =
    let one = length_raise es by h in
    let rest = length_join (raise_in es by) others (raise_ascends es by h) k.1 in
    let same = new_ones_raise es by others k.0 in
    omega arith
