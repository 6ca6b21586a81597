-- Orders by ascending locations: what a search finds there, and what one more write does.
use Rattle.std.proofs.Common.{◌≡◌, ◌<◌, ◌≤◌, ◌++◌, ℕ, zero, suc, Bool, true, false, cond, List, [], ◌∷◌, length, slice_get, get_or, take, drop, set, ℤ, ◌<ℤ◌, ◌≤ℤ◌, int_lt, refl, ap, sym, subst, ◌∙◌, arith, Some}
use Rattle.std.proofs.lemmas.Int.{ints, by_lt_z}
use Rattle.std.specs.Int.Signed.{<ℤ-≤ℤ_trans}
use Rattle.std.proofs.lemmas.Bool.Decides.{Decides-int_eq}
use Rattle.std.specs.Ordering.{int_eq}
use Rattle.fsl_graph.specs.declared.graph.Order.{Order}
use Rattle.fsl_machine.specs.Orders.{writes_of, index_of, is_at, begun, longer, put, AreAbove, Ascends, put_here}
use Rattle.fsl_machine.specs.Serial.{AreBegun}

lt_trans : (a b c : ℤ) → a <ℤ b → int_lt b c ≡ true → int_lt a c ≡ true
lt_trans a b c h k = grind (arith, ints)

lt_is : (a b : ℤ) → a <ℤ b → int_lt a b ≡ true
lt_is a b h = grind (arith, ints)

above_at : (l : ℤ) (os : List Order) (i : ℕ) (d : Order) → AreAbove l os → i < length os → l <ℤ (get_or os i d).loc
above_at l [] i d h k = absurd (omega arith)
above_at l (o ∷ os) zero d h k = h.0
above_at l (o ∷ os) (suc i) d h k = above_at l os i d h.1 (omega arith)

pub ascend_at : (os : List Order) (i j : ℕ) (d : Order) → Ascends os → i < j → j < length os → (get_or os i d).loc <ℤ (get_or os j d).loc
ascend_at [] i j d h k m = absurd (omega arith)
ascend_at (o ∷ os) zero zero d h k m = absurd (omega arith)
ascend_at (o ∷ os) zero (suc j) d h k m = above_at o.loc os j d h.0 (omega arith)
ascend_at (o ∷ os) (suc i) zero d h k m = absurd (omega arith)
ascend_at (o ∷ os) (suc i) (suc j) d h k m = ascend_at os i j d h.1 (omega arith) (omega arith)

pub below_too : (os : List Order) (l : ℤ) (i j : ℕ) (d : Order) → Ascends os → i ≤ j → j < length os
    → int_lt (get_or os j d).loc l ≡ true → int_lt (get_or os i d).loc l ≡ true
below_too [] l i j d h k m t = absurd (omega arith)
below_too (o ∷ os) l zero zero d h k m t = t
below_too (o ∷ os) l zero (suc j) d h k m t = lt_trans o.loc (get_or os j d).loc l (above_at o.loc os j d h.0 (omega arith)) t
below_too (o ∷ os) l (suc i) zero d h k m t = absurd (omega arith)
below_too (o ∷ os) l (suc i) (suc j) d h k m t = below_too os l i j d h.1 (omega arith) (omega arith) t

pub index_is : (l : ℤ) (os : List Order) (r : ℕ) (d : Order) → r ≤ length os → ((k : ℕ) → k < r → int_lt (get_or os k d).loc l ≡ true)
    → (r < length os → int_lt (get_or os r d).loc l ≡ false) → index_of l os ≡ r
index_is l [] r d h t f = omega arith
index_is l (o ∷ os) zero d h t f = rw (f (omega arith)) refl
index_is l (o ∷ os) (suc r) d h t f =
    rw (t 0 (omega arith)) (ap suc (index_is l os r d (omega arith) (λ k m. t (suc k) (omega arith)) (λ m. f (omega arith))))

pub not_true : (b : Bool) → (b ≡ true → ⊥) → b ≡ false
not_true true h = absurd (h refl)
not_true false h = refl

not_below_itself : (a : ℤ) → int_lt a a ≡ true → ⊥
not_below_itself a h = grind (arith, ints)

le_lt : (a b : ℤ) → a ≤ℤ b → int_lt b a ≡ true → int_lt a a ≡ true
le_lt a b h k = grind (arith, ints)

pub not_equal : (a b : ℤ) → int_lt a b ≡ true → int_eq a b ≡ false
not_equal a b h = not_true (int_eq a b) (λ e. not_below_itself b (subst (λ (z : ℤ). int_lt z b ≡ true) ((Decides-int_eq a b).0 e) h))

pub not_above : (a b : ℤ) → a <ℤ b → int_eq b a ≡ false
not_above a b h = not_true (int_eq b a) (λ e. not_below_itself a (subst (λ (z : ℤ). int_lt a z ≡ true) ((Decides-int_eq b a).0 e) (lt_is a b h)))

-- the order at the place of its location has the writes
writes_found : (l : ℤ) (os : List Order) (d : Order) → index_of l os < length os → int_eq (get_or os (index_of l os) d).loc l ≡ true
    → writes_of os l ≡ (get_or os (index_of l os) d).writes
writes_found l [] d k e = absurd (omega arith)
writes_found l (o ∷ os) d k e = split (writes_found l os d) (int_lt o.loc l) refl where
  split : (index_of l os < length os → int_eq (get_or os (index_of l os) d).loc l ≡ true → writes_of os l ≡ (get_or os (index_of l os) d).writes)
      → (b : Bool) → int_lt o.loc l ≡ b → writes_of (o ∷ os) l ≡ (get_or (o ∷ os) (index_of l (o ∷ os)) d).writes
  split rest true t =
      let k2 = rw t at k in
      rw (not_equal o.loc l t, t) (rest (omega arith) (rw t at e))
  split rest false t = let e2 : int_eq o.loc l ≡ true = subst (λ (x : Bool). int_eq (get_or (o ∷ os) (cond x (suc (index_of l os)) 0) d).loc l ≡ true) t e in rw (e2, t) refl

lt_le : {a b : ℤ} → a <ℤ b → a ≤ℤ b
lt_le {a} {b} h = omega (arith, ints)

pub between : (a b : ℤ) → int_lt b a ≡ false → int_eq b a ≡ false → a <ℤ b
between a b h k = by_lt_z a b (λ p. p) (λ q. by_lt_z b a
    (λ p. let t : true ≡ false = sym (lt_is b a p) ∙ h in cc)
    (λ r. let same : b ≡ a = omega (arith, ints) in let t : true ≡ false = sym ((Decides-int_eq b a).1 same) ∙ k in cc))

pub none_above : (l : ℤ) (os : List Order) → AreAbove l os → writes_of os l ≡ []
none_above l [] h = refl
none_above l (o ∷ os) h = rw (not_above l o.loc h.0) (none_above l os h.1)

pub above_below : (l m : ℤ) (os : List Order) → l <ℤ m → AreAbove m os → AreAbove l os
above_below l m [] h k = tt
above_below l m (o ∷ os) h k = (<ℤ-≤ℤ_trans h (lt_le k.0), above_below l m os h k.1)

-- no order has writes of a location that doesn't stand at its place
writes_absent : (l : ℤ) (os : List Order) (d : Order) → Ascends os
    → (index_of l os < length os → int_eq (get_or os (index_of l os) d).loc l ≡ false) → writes_of os l ≡ []
writes_absent l [] d h e = refl
writes_absent l (o ∷ os) d h e = split (writes_absent l os d h.1) (int_lt o.loc l) refl where
  split : ((index_of l os < length os → int_eq (get_or os (index_of l os) d).loc l ≡ false) → writes_of os l ≡ [])
      → (b : Bool) → int_lt o.loc l ≡ b → writes_of (o ∷ os) l ≡ []
  split rest true t = rw (not_equal o.loc l t) (rest (λ k. rw t at (e (rw t (omega arith)))))
  split rest false t =
      let e2 : int_eq o.loc l ≡ false = subst (λ (x : Bool). int_eq (get_or (o ∷ os) (cond x (suc (index_of l os)) 0) d).loc l ≡ false) t (e (rw t (omega arith))) in
      rw e2 (none_above l os (above_below l o.loc os (between l o.loc t e2) h.0))

put_found : (l : ℤ) (e : ℕ) (os : List Order) (d : Order) → index_of l os < length os → int_eq (get_or os (index_of l os) d).loc l ≡ true
    → put l e os ≡ set os (index_of l os) (longer e (get_or os (index_of l os) d))
put_found l w [] d k e = absurd (omega arith)
put_found l w (o ∷ os) d k e = split (put_found l w os d) (int_lt o.loc l) refl where
  split : (index_of l os < length os → int_eq (get_or os (index_of l os) d).loc l ≡ true → put l w os ≡ set os (index_of l os) (longer w (get_or os (index_of l os) d)))
      → (b : Bool) → int_lt o.loc l ≡ b → put l w (o ∷ os) ≡ set (o ∷ os) (index_of l (o ∷ os)) (longer w (get_or (o ∷ os) (index_of l (o ∷ os)) d))
  split rest true t =
      let k2 = rw t at k in
      rw t (ap (λ (r : List Order). o ∷ r) (rest (omega arith) (rw t at e)))
  split rest false t = let e2 : int_eq o.loc l ≡ true = subst (λ (x : Bool). int_eq (get_or (o ∷ os) (cond x (suc (index_of l os)) 0) d).loc l ≡ true) t e in rw (e2, t) refl

put_absent : (l : ℤ) (e : ℕ) (os : List Order) (d : Order)
    → (index_of l os < length os → int_eq (get_or os (index_of l os) d).loc l ≡ false)
    → put l e os ≡ take (index_of l os) os ++ begun l e ∷ drop (index_of l os) os
put_absent l w [] d e = refl
put_absent l w (o ∷ os) d e = split (put_absent l w os d) (int_lt o.loc l) refl where
  split : ((index_of l os < length os → int_eq (get_or os (index_of l os) d).loc l ≡ false) → put l w os ≡ take (index_of l os) os ++ begun l w ∷ drop (index_of l os) os)
      → (b : Bool) → int_lt o.loc l ≡ b → put l w (o ∷ os) ≡ take (index_of l (o ∷ os)) (o ∷ os) ++ begun l w ∷ drop (index_of l (o ∷ os)) (o ∷ os)
  split rest true t = rw t (ap (λ (r : List Order). o ∷ r) (rest (λ k. rw t at (e (rw t (omega arith))))))
  split rest false t =
      let e2 : int_eq o.loc l ≡ false = subst (λ (x : Bool). int_eq (get_or (o ∷ os) (cond x (suc (index_of l os)) 0) d).loc l ≡ false) t (e (rw t (omega arith))) in
      rw (e2, t) refl

there : (l : ℤ) (os : List Order) (k : ℕ) (d : Order) → is_at l (slice_get os k) ≡ true → (k < length os) × (int_eq (get_or os k d).loc l ≡ true)
there l [] k d h = cc
there l (o ∷ os) zero d h = (omega arith, h)
there l (o ∷ os) (suc k) d h = let rest = there l os k d h in (omega (arith, rest.0), rest.1)

not_there : (l : ℤ) (os : List Order) (k : ℕ) (d : Order) → is_at l (slice_get os k) ≡ false → k < length os → int_eq (get_or os k d).loc l ≡ false
not_there l [] k d h m = absurd (omega arith)
not_there l (o ∷ os) zero d h m = h
not_there l (o ∷ os) (suc k) d h m = not_there l os k d h (omega arith)

-- what stands at the place of a location are its writes
pub has_writes : (l : ℤ) (os : List Order) (k : ℕ) (d : Order) → k ≡ index_of l os → is_at l (slice_get os k) ≡ true
    → writes_of os l ≡ (get_or os k d).writes
has_writes l os k d place is =
    let found = there l os (index_of l os) d (subst (λ n. is_at l (slice_get os n) ≡ true) place is) in
    writes_found l os d found.0 found.1 ∙ ap (λ n. (get_or os n d).writes) (sym place)

pub has_no_writes : (l : ℤ) (os : List Order) (k : ℕ) → Ascends os → k ≡ index_of l os → is_at l (slice_get os k) ≡ false → writes_of os l ≡ []
has_no_writes l os k h place is =
    writes_absent l os (begun l 0) h (not_there l os (index_of l os) (begun l 0) (subst (λ n. is_at l (slice_get os n) ≡ false) place is))

-- a write is put behind those at the place of its location; s and t are the orders again
pub puts_behind : (l : ℤ) (e : ℕ) (os s t : List Order) (k : ℕ) (o : Order) (writes : List ℕ) → s ≡ os → t ≡ os → k ≡ index_of l s
    → is_at l (slice_get t k) ≡ true → o ≡ get_or os k o → writes ≡ o.writes ++ e ∷ []
    → set os k (record { loc = o.loc; writes = writes }) ≡ put l e os
puts_behind l e os s t k o writes ss ts place is at more =
    let k_is : k ≡ index_of l os = place ∙ ap (index_of l) ss in
    let found = there l os (index_of l os) o (subst (λ n. is_at l (slice_get os n) ≡ true) k_is (subst (λ (x : List Order). is_at l (slice_get x k) ≡ true) ts is)) in
    ap (λ (ws : List ℕ). set os k (record { loc = o.loc; writes = ws })) more
    ∙ ap (λ (x : Order). set os k (longer e x)) at
    ∙ ap (λ n. set os n (longer e (get_or os n o))) k_is
    ∙ sym (put_found l e os o found.0 found.1)

-- or begins an order there
pub puts_first : (l : ℤ) (e : ℕ) (os s t : List Order) (k : ℕ) (writes : List ℕ) → s ≡ os → t ≡ os → k ≡ index_of l s
    → is_at l (slice_get t k) ≡ false → writes ≡ e ∷ []
    → take k os ++ record { loc = l; writes = writes } ∷ drop k os ≡ put l e os
puts_first l e os s t k writes ss ts place is one =
    let k_is : k ≡ index_of l os = place ∙ ap (index_of l) ss in
    ap (λ (ws : List ℕ). take k os ++ record { loc = l; writes = ws } ∷ drop k os) one
    ∙ ap (λ n. take n os ++ begun l e ∷ drop n os) k_is
    ∙ sym (put_absent l e os (begun l e) (not_there l os (index_of l os) (begun l e)
    (subst (λ n. is_at l (slice_get os n) ≡ false) k_is (subst (λ (x : List Order). is_at l (slice_get x k) ≡ false) ts is))))

pub below : (a b : ℤ) → int_lt a b ≡ true → a <ℤ b
below a b h = by_lt_z a b (λ p. p) (λ q. absurd (not_below_itself b (le_lt b a q h)))

pub below_other : (a b : ℤ) → a <ℤ b → int_eq a b ≡ false
below_other a b h = not_equal a b (lt_is a b h)

-- ---- orders with one more write

above_here : (b : Bool) (m l : ℤ) (e : ℕ) (o : Order) (os : List Order) → m <ℤ l → AreAbove m (o ∷ os) → AreAbove m (put_here b l e o os)
above_here true m l e o os h k = k
above_here false m l e o os h k = (h, k)

above_put : (m l : ℤ) (e : ℕ) (os : List Order) → m <ℤ l → AreAbove m os → AreAbove m (put l e os)
above_put m l e [] h k = (h, tt)
above_put m l e (o ∷ os) h k = split (int_lt o.loc l) (above_put m l e os h k.1) where
  split : (b : Bool) → AreAbove m (put l e os) → AreAbove m (cond b (o ∷ put l e os) (put_here (int_eq o.loc l) l e o os))
  split true rest = (k.0, rest)
  split false rest = above_here (int_eq o.loc l) m l e o os h k

ascends_here : (b : Bool) (l : ℤ) (e : ℕ) (o : Order) (os : List Order) → int_eq o.loc l ≡ b → int_lt o.loc l ≡ false → Ascends (o ∷ os) → Ascends (put_here b l e o os)
ascends_here true l e o os is t h = h
ascends_here false l e o os is t h = let under = between l o.loc t is in ((under, above_below l o.loc os under h.0), h)

pub ascends_put : (l : ℤ) (e : ℕ) (os : List Order) → Ascends os → Ascends (put l e os)
ascends_put l e [] h = (tt, tt)
ascends_put l e (o ∷ os) h = split (int_lt o.loc l) refl (ascends_put l e os h.1) where
  split : (b : Bool) → int_lt o.loc l ≡ b → Ascends (put l e os) → Ascends (cond b (o ∷ put l e os) (put_here (int_eq o.loc l) l e o os))
  split true t rest = (above_put o.loc l e os (below o.loc l t) h.0, rest)
  split false t rest = ascends_here (int_eq o.loc l) l e o os refl t h

begun_longer : (e : ℕ) (ws : List ℕ) → (d : ℕ) × (slice_get (ws ++ e ∷ []) 0 ≡ Some d)
begun_longer e [] = (e, refl)
begun_longer e (w ∷ ws) = (w, refl)

begun_here : (b : Bool) (l : ℤ) (e : ℕ) (o : Order) (os : List Order) → AreBegun (o ∷ os) → AreBegun (put_here b l e o os)
begun_here true l e o os h = (begun_longer e o.writes, h.1)
begun_here false l e o os h = ((e, refl), h)

pub begun_put : (l : ℤ) (e : ℕ) (os : List Order) → AreBegun os → AreBegun (put l e os)
begun_put l e [] h = ((e, refl), tt)
begun_put l e (o ∷ os) h = split (int_lt o.loc l) (begun_put l e os h.1) where
  split : (b : Bool) → AreBegun (put l e os) → AreBegun (cond b (o ∷ put l e os) (put_here (int_eq o.loc l) l e o os))
  split true rest = (h.0, rest)
  split false rest = begun_here (int_eq o.loc l) l e o os h

equal_itself : (l : ℤ) → int_eq l l ≡ true
equal_itself l = (Decides-int_eq l l).1 refl

same_here : (b : Bool) (l : ℤ) (e : ℕ) (o : Order) (os : List Order) → int_eq o.loc l ≡ b → int_lt o.loc l ≡ false → Ascends (o ∷ os)
    → writes_of (put_here b l e o os) l ≡ cond b o.writes (writes_of os l) ++ e ∷ []
same_here true l e o os is t h = rw is refl
same_here false l e o os is t h =
    let none = none_above l os (above_below l o.loc os (between l o.loc t is) h.0) in
    rw (equal_itself l, none) refl

-- the write stands behind the others of its location
pub writes_put : (l : ℤ) (e : ℕ) (os : List Order) → Ascends os → writes_of (put l e os) l ≡ writes_of os l ++ e ∷ []
writes_put l e [] h = rw (equal_itself l) refl
writes_put l e (o ∷ os) h = split (int_lt o.loc l) refl (writes_put l e os h.1) where
  split : (b : Bool) → int_lt o.loc l ≡ b → writes_of (put l e os) l ≡ writes_of os l ++ e ∷ []
      → writes_of (cond b (o ∷ put l e os) (put_here (int_eq o.loc l) l e o os)) l ≡ writes_of (o ∷ os) l ++ e ∷ []
  split true t rest = rw (not_equal o.loc l t) rest
  split false t rest = same_here (int_eq o.loc l) l e o os refl t h

other_here : (b : Bool) (l m : ℤ) (e : ℕ) (o : Order) (os : List Order) → int_eq o.loc l ≡ b → int_eq l m ≡ false
    → writes_of (put_here b l e o os) m ≡ writes_of (o ∷ os) m
other_here true l m e o os is not =
    let same : o.loc ≡ l = (Decides-int_eq o.loc l).0 is in
    let other : int_eq o.loc m ≡ false = rw same not in
    rw other refl
other_here false l m e o os is not = rw not refl

-- those of other locations stay
pub writes_put_other : (l m : ℤ) (e : ℕ) (os : List Order) → int_eq l m ≡ false → writes_of (put l e os) m ≡ writes_of os m
writes_put_other l m e [] not = rw not refl
writes_put_other l m e (o ∷ os) not = split (int_lt o.loc l) (writes_put_other l m e os not) where
  split : (b : Bool) → writes_of (put l e os) m ≡ writes_of os m
      → writes_of (cond b (o ∷ put l e os) (put_here (int_eq o.loc l) l e o os)) m ≡ writes_of (o ∷ os) m
  split true rest = ap (λ (ws : List ℕ). cond (int_eq o.loc m) o.writes ws) rest
  split false rest = other_here (int_eq o.loc l) l m e o os refl not
