-- What follows from the steps of asking, and pieces of heaps.
use Rattle.std.proofs.Common.{◌≡◌, ℕ, zero, suc, ◌+◌, ◌-◌, ◌≤◌, Bool, true, false, inl, inr, List, [], ◌∷◌, ◌++◌, Option, Some, None, ℤ, pos, negsuc, ◌+ℤ◌, ◌≤ℤ◌, refl, ap, sym, subst, arith}
use Rattle.std.specs.Ordering.{int_eq}
use Rattle.std.specs.List.{list_any}
use Rattle.std.proofs.lemmas.Int.{ints}
use Rattle.std.proofs.lemmas.Bool.{and_parts, and_from, or_cases}
use Rattle.fsl_core.specs.Values.{with_value}
use Rattle.fsl_meaning.specs.Heaps.{Key, Heap, some_of, less, Claim, Ground, AllKnown, all_in}
use Rattle.fsl_meaning.proofs.Deciding.{equal}
use Rattle.fsl_meaning.proofs.Heaps.{some_self, some_less}
use Rattle.fsl_asserted.specs.Needs.{only_if, positive, natural}

pub some_is : {X : Type 0} {a b : X} → Some a ≡ Some b → a ≡ b
some_is e = cc

pub record IsValue {A B : Type 0} (o : Option A) (f : A → Option B) (b : B) : Type 0 where
  pub value : A
  pub is : o ≡ Some value
  pub then_is : f value ≡ Some b

pub value_asked : {A B : Type 0} (o : Option A) (f : A → Option B) (b : B) → with_value o f ≡ Some b → IsValue o f b
value_asked (Some a) f b h = record { value = a; is = refl; then_is = h }
value_asked None f b h = absurd (let d : None ≡ Some b = h in cc)

pub value_is : {A B : Type 0} (o : Option A) (a : A) (f : A → Option B) → o ≡ Some a → with_value o f ≡ f a
value_is o a f e = ap (λ (z : Option _). with_value z f) e

pub if_asked : {X : Type 0} (test : Bool) (o : Option X) (x : X) → only_if test o ≡ Some x → (test ≡ true) × (o ≡ Some x)
if_asked true o x h = (refl, h)
if_asked false o x h = absurd (let d : None ≡ Some x = h in cc)

pub record IsShare (z : ℤ) (k : ℕ) : Type 0 where
  pub is : z ≡ pos k
  pub some : 1 ≤ k

pub positive_is : (z : ℤ) (k : ℕ) → positive z ≡ Some k → IsShare z k
positive_is (pos zero) k h = absurd (let d : None ≡ Some k = h in cc)
positive_is (pos (suc n)) k h = let e : suc n ≡ k = some_is h in record { is = ap pos e; some = subst (λ (m : ℕ). 1 ≤ m) e (omega arith) }
positive_is (negsuc n) k h = absurd (let d : None ≡ Some k = h in cc)

pub natural_is : (z : ℤ) (k : ℕ) → natural z ≡ Some k → z ≡ pos k
natural_is (pos n) k h = ap pos (some_is h)
natural_is (negsuc n) k h = absurd (let d : None ≡ Some k = h in cc)

-- the number of a share that is at least 1
pub record HasShare (z : ℤ) : Type 0 where
  pub amount : ℕ
  pub is : z ≡ pos amount
  pub some : 1 ≤ amount
  pub positive : positive z ≡ Some amount

pub share_of : (z : ℤ) → (pos 1 +ℤ pos 0) ≤ℤ z → HasShare z
share_of (pos zero) h = absurd (omega (arith, ints))
share_of (pos (suc n)) h = record { amount = suc n; is = refl; some = omega arith; positive = refl }
share_of (negsuc n) h = absurd (omega (arith, ints))

pub record HasNatural (z : ℤ) : Type 0 where
  pub amount : ℕ
  pub is : z ≡ pos amount
  pub natural : natural z ≡ Some amount

pub natural_of : (z : ℤ) → (pos 0 +ℤ pos 0) ≤ℤ z → HasNatural z
natural_of (pos n) h = record { amount = n; is = refl; natural = refl }
natural_of (negsuc n) h = absurd (omega (arith, ints))

-- ---- claims

pub known_left : (g : Ground) (cs ds : List Claim) → AllKnown g (cs ++ ds) → AllKnown g cs
known_left g [] ds k = tt
known_left g (c ∷ cs) ds k = (k.0, known_left g cs ds k.1)

pub known_right : (g : Ground) (cs ds : List Claim) → AllKnown g (cs ++ ds) → AllKnown g ds
known_right g [] ds k = k
known_right g (c ∷ cs) ds k = known_right g cs ds k.1

pub known_both : (g : Ground) (cs ds : List Claim) → AllKnown g cs → AllKnown g ds → AllKnown g (cs ++ ds)
known_both g [] ds k l = l
known_both g (c ∷ cs) ds k l = (k.0, known_both g cs ds k.1 l)

-- ---- pieces of a heap

line_parts : (h x : ℕ) → x ≤ h → h ≡ (h - x) + x
line_parts h x l = omega arith

pub less_parts : (h : Heap) (k : Key) (n : ℕ) → n ≤ h k → (q : Key) → h q ≡ less h k n q + some_of k n q
less_parts h k n l q = line_parts (h q) (some_of k n q) (some_less k n h l q)

line_taken : (m r h x : ℕ) → m + r ≤ h → x ≤ m → r ≤ h - x
line_taken m r h x j k = omega arith

pub rest_less : (mine rest h : Heap) (k : Key) (n : ℕ) → ((q : Key) → mine q + rest q ≤ h q) → n ≤ mine k → (q : Key) → rest q ≤ less h k n q
rest_less mine rest h k n holds l q = line_taken (mine q) (rest q) (h q) (some_of k n q) (holds q) (some_less k n mine l q)

line_kept : (m r h x : ℕ) → m + r ≤ h → x ≤ m → (m - x) + r ≤ h - x
line_kept m r h x j k = omega arith

pub both_less : (mine rest h : Heap) (k : Key) (n : ℕ) → ((q : Key) → mine q + rest q ≤ h q) → n ≤ mine k → (q : Key) → less mine k n q + rest q ≤ less h k n q
both_less mine rest h k n holds l q = line_kept (mine q) (rest q) (h q) (some_of k n q) (holds q) (some_less k n mine l q)

pub some_there : (k : Key) (n : ℕ) → n ≤ some_of k n k
some_there k n = subst (λ (m : ℕ). n ≤ m) (sym (some_self k n)) (line_self n)
  where
    line_self : (a : ℕ) → a ≤ a
    line_self a = omega arith

line_within : (m r h n : ℕ) → m + r ≤ h → n ≤ m → n ≤ h
line_within m r h n j k = omega arith

pub part_within : (mine rest h : Heap) (k : Key) (n : ℕ) → ((q : Key) → mine q + rest q ≤ h q) → n ≤ mine k → n ≤ h k
part_within mine rest h k n holds l = line_within (mine k) (rest k) (h k) n (holds k) l

-- ---- values within others

any_in : (x : ℤ) (ys zs : List ℤ) → list_any (int_eq x) ys ≡ true → all_in ys zs ≡ true → list_any (int_eq x) zs ≡ true
any_in x [] zs h k = absurd (let d : false ≡ true = h in cc)
any_in x (y ∷ ys) zs h k =
    let p = and_parts (list_any (int_eq y) zs) (all_in ys zs) k in
    elim (or_cases (int_eq x y) (list_any (int_eq x) ys) h) [
      | inl e ↦ subst (λ (z : ℤ). list_any (int_eq z) zs ≡ true) (sym (equal x y e)) p.0
      | inr m ↦ any_in x ys zs m p.1
    ]

pub all_in_then : (xs ys zs : List ℤ) → all_in xs ys ≡ true → all_in ys zs ≡ true → all_in xs zs ≡ true
all_in_then [] ys zs h k = refl
all_in_then (x ∷ xs) ys zs h k =
    let p = and_parts (list_any (int_eq x) ys) (all_in xs ys) h in
    and_from (list_any (int_eq x) zs) (all_in xs zs) (any_in x ys zs p.0 k) (all_in_then xs ys zs p.1 k)
