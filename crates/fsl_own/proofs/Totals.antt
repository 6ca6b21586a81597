-- How much there is together, where one holder gets more, and where a holder is new.
use Rattle.std.proofs.Common.{◌≡◌, ◌≤◌, ◌+◌, ◌-◌, ℕ, zero, suc, Bool, true, false, if◌then◌else◌, ◌&&◌, ◌==◌, ◌⊎◌, inl, inr, List, [], ◌∷◌, ℤ, int_eq, refl, sym, ap, subst, ◌∙◌, arith}
use native.Mathlib.Decide.{ℕ_discrete}
use Rattle.std.proofs.lemmas.Bool.{cases_Bool, and_parts, eqb-true, eq-eqb}
use Rattle.std.proofs.lemmas.Bool.Decides.{Decides-int_eq}
use Rattle.fsl_graph.specs.Positions.{Holder, Holder-discrete}
use Rattle.fsl_own.specs.Owning.{Resource, Cell, Permission, Tokens, Bank, same, Heap, World, only, Among, AllApart, total, Adds, Gives}

-- ---- holders and resources are told apart

pub same_holder : (a b : Holder) → (a ≡ b) ⊎ (a ≡ b → ⊥)
same_holder a b = elim (Holder-discrete ℕ_discrete a b) [ yes e ↦ inl e | no f ↦ inr f ]

pub same_true : (r s : Resource) → same r s ≡ true → r ≡ s
same_true (Cell a) (Cell b) h = ap Cell ((Decides-int_eq a b).0 h)
same_true (Permission a p) (Permission b q) h =
    let t = and_parts (int_eq a b) (p == q) h in
    let e : a ≡ b = (Decides-int_eq a b).0 t.0 in
    let f : p ≡ q = eqb-true p q t.1 in
    cc
same_true (Tokens a) (Tokens b) h = ap Tokens (eqb-true a b h)
same_true (Bank a) (Bank b) h = ap Bank (eqb-true a b h)
same_true (Cell a) (Permission b q) h = absurd (let f : false ≡ true = h in cc)
same_true (Cell a) (Tokens b) h = absurd (let f : false ≡ true = h in cc)
same_true (Cell a) (Bank b) h = absurd (let f : false ≡ true = h in cc)
same_true (Permission a p) (Cell b) h = absurd (let f : false ≡ true = h in cc)
same_true (Permission a p) (Tokens b) h = absurd (let f : false ≡ true = h in cc)
same_true (Permission a p) (Bank b) h = absurd (let f : false ≡ true = h in cc)
same_true (Tokens a) (Cell b) h = absurd (let f : false ≡ true = h in cc)
same_true (Tokens a) (Permission b q) h = absurd (let f : false ≡ true = h in cc)
same_true (Tokens a) (Bank b) h = absurd (let f : false ≡ true = h in cc)
same_true (Bank a) (Cell b) h = absurd (let f : false ≡ true = h in cc)
same_true (Bank a) (Permission b q) h = absurd (let f : false ≡ true = h in cc)
same_true (Bank a) (Tokens b) h = absurd (let f : false ≡ true = h in cc)

pub same_self : (r : Resource) → same r r ≡ true
same_self (Cell a) = (Decides-int_eq a a).1 refl
same_self (Permission a p) = let e = (Decides-int_eq a a).1 refl in let f = eq-eqb p p refl in rw (e, f) refl
same_self (Tokens a) = eq-eqb a a refl
same_self (Bank a) = eq-eqb a a refl

pub same_resource : (r s : Resource) → (r ≡ s) ⊎ (r ≡ s → ⊥)
same_resource r s = elim (cases_Bool (same r s)) [
  | inl t ↦ inl (same_true r s t)
  | inr f ↦ inr (λ e. absurd (let t = subst (λ (x : Resource). same r x ≡ true) e (same_self r) in cc))
]

pub only_here : (r : Resource) (n : ℕ) → only r n r ≡ n
only_here r n = rw (same_self r) refl

pub only_elsewhere : (r s : Resource) (n : ℕ) → (r ≡ s → ⊥) → only r n s ≡ 0
only_elsewhere r s n f = elim (cases_Bool (same r s)) [ inl t ↦ absurd (f (same_true r s t)) | inr e ↦ rw e refl ]

pub only_some : (r s : Resource) (n : ℕ) → 1 ≤ only r n s → r ≡ s
only_some r s n h = elim (cases_Bool (same r s)) [ inl t ↦ same_true r s t | inr e ↦ absurd (let z : only r n s ≡ 0 = rw e refl in omega arith) ]

pub none_or_some : (n : ℕ) → (n ≡ 0) ⊎ (1 ≤ n)
none_or_some zero = inl refl
none_or_some (suc n) = inr (omega arith)

-- ---- totals

pub total_least : (hs : List Holder) (w : World) (r : Resource) (h : Holder) → Among h hs → w h r ≤ total hs w r
total_least [] w r h i = elim i [ ]
total_least (x ∷ xs) w r h (inl e) = let s : w h r ≡ w x r = ap (λ (z : Holder). w z r) e in omega arith
total_least (x ∷ xs) w r h (inr i) = let l = total_least xs w r h i in omega arith

pub total_two : (hs : List Holder) (w : World) (r : Resource) (a b : Holder) → Among a hs → Among b hs → (a ≡ b → ⊥) → w a r + w b r ≤ total hs w r
total_two [] w r a b i j n = elim i [ ]
total_two (x ∷ xs) w r a b (inl e) (inl f) n = absurd (n (e ∙ sym f))
total_two (x ∷ xs) w r a b (inl e) (inr j) n = let s : w a r ≡ w x r = ap (λ (z : Holder). w z r) e in let l = total_least xs w r b j in omega arith
total_two (x ∷ xs) w r a b (inr i) (inl f) n = let s : w b r ≡ w x r = ap (λ (z : Holder). w z r) f in let l = total_least xs w r a i in omega arith
total_two (x ∷ xs) w r a b (inr i) (inr j) n = let l = total_two xs w r a b i j n in omega arith

among_rest : (x y : Holder) (xs : List Holder) → Among y (x ∷ xs) → (y ≡ x → ⊥) → Among y xs
among_rest x y xs (inl q) f = absurd (f q)
among_rest x y xs (inr q) f = q

pub total_three : (hs : List Holder) (w : World) (r : Resource) (a b c : Holder) → AllApart hs → Among a hs → Among b hs → Among c hs
    → (a ≡ b → ⊥) → (a ≡ c → ⊥) → (b ≡ c → ⊥) → w a r + (w b r + w c r) ≤ total hs w r
total_three [] w r a b c p i j k m n o = elim i [ ]
total_three (x ∷ xs) w r a b c p (inl e) j k m n o =
    let s : w a r ≡ w x r = ap (λ (z : Holder). w z r) e in let l = total_two xs w r b c (among_rest x b xs j (λ q. m (e ∙ sym q))) (among_rest x c xs k (λ q. n (e ∙ sym q))) o in omega arith
total_three (x ∷ xs) w r a b c p (inr i) (inl e) k m n o =
    let s : w b r ≡ w x r = ap (λ (z : Holder). w z r) e in let l = total_two xs w r a c i (among_rest x c xs k (λ q. o (e ∙ sym q))) n in omega arith
total_three (x ∷ xs) w r a b c p (inr i) (inr j) (inl e) m n o =
    let s : w c r ≡ w x r = ap (λ (z : Holder). w z r) e in let l = total_two xs w r a b i j m in omega arith
total_three (x ∷ xs) w r a b c p (inr i) (inr j) (inr k) m n o = let l = total_three xs w r a b c p.1 i j k m n o in omega arith

pub total_four : (hs : List Holder) (w : World) (r : Resource) (a b c d : Holder) → AllApart hs → Among a hs → Among b hs → Among c hs → Among d hs
    → (a ≡ b → ⊥) → (a ≡ c → ⊥) → (a ≡ d → ⊥) → (b ≡ c → ⊥) → (b ≡ d → ⊥) → (c ≡ d → ⊥) → w a r + (w b r + (w c r + w d r)) ≤ total hs w r
total_four [] w r a b c d p i j k l ab ac ad bc bd cd = elim i [ ]
total_four (x ∷ xs) w r a b c d p (inl e) j k l ab ac ad bc bd cd =
    let s : w a r ≡ w x r = ap (λ (z : Holder). w z r) e in
    let m = total_three xs w r b c d p.1 (among_rest x b xs j (λ q. ab (e ∙ sym q))) (among_rest x c xs k (λ q. ac (e ∙ sym q))) (among_rest x d xs l (λ q. ad (e ∙ sym q))) bc bd cd in
    omega arith
total_four (x ∷ xs) w r a b c d p (inr i) (inl e) k l ab ac ad bc bd cd =
    let s : w b r ≡ w x r = ap (λ (z : Holder). w z r) e in
    let m = total_three xs w r a c d p.1 i (among_rest x c xs k (λ q. bc (e ∙ sym q))) (among_rest x d xs l (λ q. bd (e ∙ sym q))) ac ad cd in
    omega arith
total_four (x ∷ xs) w r a b c d p (inr i) (inr j) (inl e) l ab ac ad bc bd cd =
    let s : w c r ≡ w x r = ap (λ (z : Holder). w z r) e in
    let m = total_three xs w r a b d p.1 i j (among_rest x d xs l (λ q. cd (e ∙ sym q))) ab ad bd in
    omega arith
total_four (x ∷ xs) w r a b c d p (inr i) (inr j) (inr k) (inl e) ab ac ad bc bd cd =
    let s : w d r ≡ w x r = ap (λ (z : Holder). w z r) e in
    let m = total_three xs w r a b c p.1 i j k ab ac bc in
    omega arith
total_four (x ∷ xs) w r a b c d p (inr i) (inr j) (inr k) (inr l) ab ac ad bc bd cd =
    let m = total_four xs w r a b c d p.1 i j k l ab ac ad bc bd cd in omega arith

-- of holders among whom the one isn't that gets more
pub total_outside : (hs : List Holder) (u v : World) (b : Holder) (d : Heap) (r : Resource) → Adds u v b d → (Among b hs → ⊥) → total hs v r ≡ total hs u r
total_outside [] u v b d r a n = refl
total_outside (x ∷ xs) u v b d r a n =
    let s = a.others x r (λ e. n (inl (sym e))) in
    let t = total_outside xs u v b d r a (λ i. n (inr i)) in
    omega arith

pub total_adds : (hs : List Holder) (u v : World) (b : Holder) (d : Heap) (r : Resource) → Adds u v b d → AllApart hs → Among b hs → total hs v r ≡ total hs u r + d r
total_adds [] u v b d r a p i = elim i [ ]
total_adds (x ∷ xs) u v b d r a p (inl e) =
    let s : v x r ≡ u x r + d r = subst (λ (z : Holder). v z r ≡ u z r + d r) e (a.here r) in
    let t = total_outside xs u v b d r a (λ i. p.0 (subst (λ (z : Holder). Among z xs) e i)) in
    omega arith
total_adds (x ∷ xs) u v b d r a p (inr i) =
    let s = a.others x r (λ e. p.0 (subst (λ (z : Holder). Among z xs) (sym e) i)) in
    let t = total_adds xs u v b d r a p.1 i in
    omega arith

-- ---- one more holder

pub record Wide (hs : List Holder) (b : Holder) : Type 0 where
  pub list : List Holder
  pub apart : AllApart list
  pub there : Among b list
  pub more : (h : Holder) → Among h hs → Among h list
  pub same : (w : World) (r : Resource) → ((h : Holder) → 1 ≤ w h r → Among h hs) → total list w r ≡ total hs w r

among_or : (b : Holder) (hs : List Holder) → Among b hs ⊎ (Among b hs → ⊥)
among_or b [] = inr (λ i. elim i [ ])
among_or b (x ∷ xs) = elim (same_holder b x) [
  | inl e ↦ inl (inl e)
  | inr f ↦ elim (among_or b xs) [ inl i ↦ inl (inr i) | inr n ↦ inr (λ i. elim i [ inl e ↦ f e | inr j ↦ n j ]) ]
]

pub widen : (hs : List Holder) → AllApart hs → (b : Holder) → Wide hs b
widen hs p b = elim (among_or b hs) [
  | inl i ↦ record { list = hs; apart = p; there = i; more = λ h j. j; same = λ w r s. refl }
  | inr n ↦ record {
    list = b ∷ hs;
    apart = (n, p);
    there = inl refl;
    more = λ h j. inr j;
    same = λ w r s. elim (none_or_some (w b r)) [ inl z ↦ (omega arith) | inr l ↦ absurd (n (s b l)) ];
  }
]

-- ---- worlds with more, with less, and with something handed over

abbrev by_same : {A : Type 0} → A ⊎ (A → ⊥) → ℕ → ℕ → ℕ
by_same (inl e) m n = m
by_same (inr f) m n = n

by_same_yes : {A : Type 0} (s : A ⊎ (A → ⊥)) (m n : ℕ) → A → by_same s m n ≡ m
by_same_yes (inl e) m n a = refl
by_same_yes (inr f) m n a = absurd (f a)

by_same_no : {A : Type 0} (s : A ⊎ (A → ⊥)) (m n : ℕ) → (A → ⊥) → by_same s m n ≡ n
by_same_no (inl e) m n f = absurd (f e)
by_same_no (inr f) m n g = refl

pub more_at : (w : World) (b : Holder) (d : Heap) → (v : World) × Adds w v b d
more_at w b d = (
  (λ h r. by_same (same_holder h b) (w h r + d r) (w h r)),
  record {
    here = λ r. by_same_yes (same_holder b b) (w b r + d r) (w b r) refl;
    others = λ h r f. by_same_no (same_holder h b) (w h r + d r) (w h r) f;
  },
)

pub less_at : (w : World) (b : Holder) (d : Heap) → ((r : Resource) → d r ≤ w b r) → (u : World) × Adds u w b d
less_at w b d l = (
  (λ h r. by_same (same_holder h b) (w h r - d r) (w h r)),
  record {
    here = λ r. let e = by_same_yes (same_holder b b) (w b r - d r) (w b r) refl in let m = l r in omega arith;
    others = λ h r f. sym (by_same_no (same_holder h b) (w h r - d r) (w h r) f);
  },
)

pub give_to : (w : World) (a b : Holder) (d : Heap) → ((r : Resource) → d r ≤ w a r) → (v : World) × Gives w v a b d
give_to w a b d l =
    let u = less_at w a d l in
    let v = more_at u.0 b d in
    (v.0, record { mid = u.0; loses = u.1; gains = v.1 })
