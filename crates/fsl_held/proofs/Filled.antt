-- What both sides of a cut say: who has a part of a cell says its value, and a permission, an authority and the leave
-- beside a permission are said by who has them. Of one of these there is one piece alone.
use Rattle.std.proofs.Common.{◌≡◌, ◌≤◌, ◌+◌, ◌==◌, ℕ, Bool, true, false, ◌&&◌, ◌⊎◌, inl, inr, List, [], ◌∷◌, Option, Some, None, ℤ, pos, negsuc, refl, sym, ap, subst, ◌∙◌, arith, if◌then◌else◌}
use Rattle.std.specs.Ordering.{int_eq}
use Rattle.std.proofs.lemmas.Bool.{cases_Bool, and_parts, and_from, eqb-true, eq-eqb}
use Rattle.fsl_core.specs.declared.mode.Rung.{Rung}
use Rattle.fsl_core.specs.declared.mode.Rung.TheVariants.{Plain, Up, Down, Msg}
use Rattle.fsl_meaning.specs.Heaps.{Key, Key as key, Heap as Amounts, MayRead, Agrees}
use Rattle.fsl_meaning.proofs.Deciding.{equal, is_equal}
use Rattle.fsl_own.specs.Owning.{Resource, Cell, Permission, Bank, Heap, Deal, Known}
use Rattle.fsl_own.specs.Atoms.{Atom, Points, Init, Rel, Acq, RmwAcq, Tok, Auth, asked, demand, Says, IsFor}
use Rattle.fsl_own.proofs.Totals.{none_or_some, only_elsewhere, only_some}
use Rattle.fsl_good.specs.Pieces.{Level, AtPlain, AtUp, AtDown, same_level, Piece, asked_at, demand_at, IsPossible}
use Rattle.fsl_held.specs.Heaps.{heap_of, truth_of, is_at, same_numbers, same_leave, says, knows_in, or_else, or_this, value_by, value_in, out_by, out_in, count_by, count_in, bank_in}
use Rattle.fsl_held.specs.Parts.{atoms_of}
use Rattle.fsl_held.proofs.Cuts.{Values, sized}
use Rattle.fsl_held.proofs.Heaps.{Speaks, out_speaks, count_speaks}
use Rattle.fsl_held.proofs.Given.{EachOf, Turns, SaysPiece, each_says}

-- ---- a resource of which pieces say something

-- a piece says v, or has nothing of the resource and says nothing
abbrev pub Tells : {X : Type 0} → (Atom → Option X) → Resource → X → Piece → Type 0
Tells say r v x = (say x.atom ≡ Some v) ⊎ ((say x.atom ≡ None) × (asked x.atom r ≡ 0))

none_at : (b : Bool) (n : ℕ) → n ≡ 0 → (if b then n else 0) ≡ 0
none_at true n e = e
none_at false n e = refl

-- who has some of it says v; `look` gives what the first piece says
pub told : {X : Type 0} (say : Atom → Option X) (look : List Piece → Option X) → ((x : Piece) (xs : List Piece) → look (x ∷ xs) ≡ or_else (say x.atom) (look xs))
    → (r : Resource) (v : X) (a : Level) (xs : List Piece) → EachOf (Tells say r v) xs → 1 ≤ demand_at a xs r → look xs ≡ Some v
told say look is r v a [] p l = absurd (let z : 1 ≤ 0 = l in omega arith)
told {X = X} say look is r v a (x ∷ xs) p l = is x xs ∙ elim p.0 [
  | inl e ↦ ap (λ (o : Option X). or_else o (look xs)) e
  | inr z ↦ ap (λ (o : Option X). or_else o (look xs)) z.0 ∙ told say look is r v a xs p.1 (let n : asked_at a x r ≡ 0 = none_at (same_level x.level a) (asked x.atom r) z.1 in omega (arith, n, l))
]

-- ---- resources of which there is one alone

-- at all levels
abbrev pub in_all : List Piece → Heap
in_all xs r = demand_at AtPlain xs r + (demand_at AtUp xs r + demand_at AtDown xs r)

in_all_more : (x : Piece) (xs : List Piece) (r : Resource) → in_all (x ∷ xs) r ≡ asked x.atom r + in_all xs r
in_all_more x xs r = by_level x.level (asked x.atom r) (demand_at AtPlain xs r) (demand_at AtUp xs r) (demand_at AtDown xs r)
  where
    by_level : (a : Level) (n i j k : ℕ)
        → ((if same_level a AtPlain then n else 0) + i) + (((if same_level a AtUp then n else 0) + j) + ((if same_level a AtDown then n else 0) + k)) ≡ n + (i + (j + k))
    by_level AtPlain n i j k = omega arith
    by_level AtUp n i j k = omega arith
    by_level AtDown n i j k = omega arith

-- it is what the atoms ask for
pub atoms_demand : (xs : List Piece) (r : Resource) → demand (atoms_of xs) r ≡ in_all xs r
atoms_demand [] r = refl
atoms_demand (x ∷ xs) r = let m = in_all_more x xs r in let e = atoms_demand xs r in omega (arith, m, e)

pub in_all_least : (a : Level) (xs : List Piece) (r : Resource) → demand_at a xs r ≤ in_all xs r
in_all_least AtPlain xs r = omega arith
in_all_least AtUp xs r = omega arith
in_all_least AtDown xs r = omega arith

silent : {X : Type 0} (say : Atom → Option X) (r : Resource) → Speaks say r → (v : X) (xs : List Piece) → in_all xs r ≤ 0 → EachOf (Tells say r v) xs
silent say r s v [] l = tt
silent say r s v (x ∷ xs) l =
    let m = in_all_more x xs r in
    (elim (s x.atom) [ inl o ↦ absurd (let h = o.has in omega (arith, m, h, l)) | inr z ↦ inr z ], silent say r s v xs (omega (arith, m, l)))

-- of one that is there, all say the same
sole : {X : Type 0} (say : Atom → Option X) (r : Resource) → Speaks say r → (xs : List Piece) → in_all xs r ≤ 1 → 1 ≤ in_all xs r → (v : X) × EachOf (Tells say r v) xs
sole say r s [] l h = absurd (let z : 1 ≤ 0 + (0 + 0) = h in omega arith)
sole say r s (x ∷ xs) l h =
    let m = in_all_more x xs r in
    elim (s x.atom) [
      | inl o ↦ let n = o.has in (o.what, (inl o.is, silent say r s o.what xs (omega (arith, m, n, l))))
      | inr z ↦ let n = z.1 in let t = sole say r s xs (omega (arith, m, n, l)) (omega (arith, m, n, h)) in (t.0, (inr z, t.1))
    ]

-- ---- parts say what was said

out_turn : (f : Values) (l : ℤ) (p : ℕ) (v : List ℤ) → Turns f (Tells (λ x. out_by x l p) (Permission l p) v) (Tells (λ x. out_by x l p) (Permission l p) v)
out_turn f l p v a (Points c n w) m s h = inr (refl, refl)
out_turn f l p v a (Init c) m s h = h
out_turn f l p v a (Rel c inv args) m s h = h
out_turn f l p v a (Acq c inv args q out) m s h = h
out_turn f l p v a (RmwAcq c inv args) m s h = h
out_turn f l p v a (Tok b n) m s h = inr (refl, refl)
out_turn f l p v a (Auth b n) m s h = h

count_turn : (f : Values) (b n : ℕ) → Turns f (Tells (λ x. count_by x b) (Bank b) n) (Tells (λ x. count_by x b) (Bank b) n)
count_turn f b n a (Points c i w) m s h = inr (refl, refl)
count_turn f b n a (Init c) m s h = h
count_turn f b n a (Rel c inv args) m s h = h
count_turn f b n a (Acq c inv args q out) m s h = h
count_turn f b n a (RmwAcq c inv args) m s h = h
count_turn f b n a (Tok c i) m s h = inr (refl, refl)
count_turn f b n a (Auth c i) m s h = h

-- each share of a cell says the value that the list says
pub value_sized : (f : Values) (l v : ℤ) → f l ≡ Some v → (a : Level) (x : Atom) (m : ℕ) → Tells (λ y. value_by y l) (Cell l) v (record { level = a; atom = sized f x m })
value_sized f l v e a (Points c n w) m = elim (cases_Bool (int_eq l c)) [
  | inl t ↦ inl (rw t (ap f (sym (equal l c t)) ∙ e))
  | inr t ↦ inr (rw t refl, only_elsewhere (Cell c) (Cell l) m (λ q. absurd (let i : l ≡ c = cc in let j : int_eq l c ≡ true = is_equal l c i in cc)))
]
value_sized f l v e a (Init c) m = inr (refl, refl)
value_sized f l v e a (Rel c inv args) m = inr (refl, refl)
value_sized f l v e a (Acq c inv args q out) m = inr (refl, refl)
value_sized f l v e a (RmwAcq c inv args) m = inr (refl, refl)
value_sized f l v e a (Tok b n) m = inr (refl, refl)
value_sized f l v e a (Auth b n) m = inr (refl, refl)

value_turn : (f : Values) (l v : ℤ) → f l ≡ Some v → (P : Piece → Type 0) → Turns f P (Tells (λ x. value_by x l) (Cell l) v)
value_turn f l v e P a x m s h = value_sized f l v e a x m

-- two lists say the same
record SaySame {X : Type 0} (o p : Option X) : Type 0 where
  what : X
  before : o ≡ Some what
  after : p ≡ Some what

-- who still has one of what there is one alone says what was said of it
still_said : {X : Type 0} (say : Atom → Option X) (look : List Piece → Option X) → ((x : Piece) (xs : List Piece) → look (x ∷ xs) ≡ or_else (say x.atom) (look xs))
    → (r : Resource) → Speaks say r → (xs ys : List Piece) → ((v : X) → EachOf (Tells say r v) xs → EachOf (Tells say r v) ys)
    → in_all xs r ≤ 1 → demand_at AtPlain ys r ≤ demand_at AtPlain xs r → 1 ≤ demand_at AtPlain ys r → SaySame (look xs) (look ys)
still_said say look is r speaks xs ys each one within here =
    let there : 1 ≤ demand_at AtPlain xs r = omega (arith, within, here) in
    let s = sole say r speaks xs one (let m = in_all_least AtPlain xs r in omega (arith, m, there)) in
    record { what = s.0; before = told say look is r s.0 AtPlain xs s.1 there; after = told say look is r s.0 AtPlain ys (each s.0 s.1) here }

-- ys are parts of xs: what is so of each of xs is so of each of ys, in the sense of `Turns`
pub parts_agree : (xs ys : List Piece) → IsPossible xs → ((P Q : Piece → Type 0) → Turns (value_in xs) P Q → EachOf P xs → EachOf Q ys)
    → ((r : Resource) → demand_at AtPlain ys r ≤ demand_at AtPlain xs r) → (h : Amounts) → ((k : Key) → h k ≤ heap_of ys k) → Agrees (truth_of xs) (truth_of ys) h
parts_agree xs ys possible each within h enough = record { value = value; out = out; bank = bank }
  where
    value_at : (a : Level) (l x : ℤ) → 1 ≤ demand_at a ys (Cell l) → value_in xs l ≡ Some x → value_in ys l ≡ Some x
    value_at a l x i e =
        told (λ y. value_by y l) (λ zs. value_in zs l) (λ z zs. refl) (Cell l) x a ys
        (each (SaysPiece possible.known) (Tells (λ y. value_by y l) (Cell l) x) (value_turn (value_in xs) l x e (SaysPiece possible.known)) (each_says possible.known xs possible.agree)) i

    value : (r : Rung) (l x : ℤ) → 1 ≤ h (key.Cell r l) → value_in xs l ≡ Some x → value_in ys l ≡ Some x
    value Plain l x i e = value_at AtPlain l x (let m = enough (key.Cell Plain l) in omega (arith, m, i)) e
    value Up l x i e = value_at AtUp l x (let m = enough (key.Cell Up l) in omega (arith, m, i)) e
    value Down l x i e = value_at AtDown l x (let m = enough (key.Cell Down l) in omega (arith, m, i)) e
    value Msg l x i e = absurd (let m : h (key.Cell Msg l) ≤ 0 = enough (key.Cell Msg l) in omega (arith, m, i))

    out : (l : ℤ) (p : ℕ) → 1 ≤ h (key.Permission l p) → or_this (out_in ys l p) [] ≡ or_this (out_in xs l p) []
    out l p i =
        let r = Permission l p in
        let say : Atom → Option (List ℤ) = λ x. out_by x l p in
        let s = still_said say (λ zs. out_in zs l p) (λ z zs. refl) r (out_speaks l p) xs ys (λ v. each (Tells say r v) (Tells say r v) (out_turn (value_in xs) l p v)) (possible.within r) (within r)
        (let m = enough (key.Permission l p) in omega (arith, m, i)) in
        ap (λ (o : Option (List ℤ)). or_this o []) (s.after ∙ sym s.before)

    bank : (b : ℤ) → 1 ≤ h (key.Bank b) → bank_in ys b ≡ bank_in xs b
    bank (negsuc b) i = refl
    bank (pos b) i =
        let r = Bank b in
        let say : Atom → Option ℕ = λ x. count_by x b in
        let s = still_said say (λ zs. count_in zs b) (λ z zs. refl) r (count_speaks b) xs ys (λ n. each (Tells say r n) (Tells say r n) (count_turn (value_in xs) b n)) (possible.within r) (within r)
        (let m = enough (key.Bank (pos b)) in omega (arith, m, i)) in
        rw (s.before, s.after) refl

-- ---- leave to read

same_numbers_self : (xs : List ℤ) → same_numbers xs xs ≡ true
same_numbers_self [] = refl
same_numbers_self (x ∷ xs) = and_from (int_eq x x) (same_numbers xs xs) (is_equal x x refl) (same_numbers_self xs)

same_numbers_is : (xs ys : List ℤ) → same_numbers xs ys ≡ true → xs ≡ ys
same_numbers_is [] [] h = refl
same_numbers_is (x ∷ xs) (y ∷ ys) h =
    let p = and_parts (int_eq x y) (same_numbers xs ys) h in
    let e = equal x y p.0 in
    let f = same_numbers_is xs ys p.1 in
    λ i. e i ∷ f i
same_numbers_is xs ys h = absurd (let f : false ≡ true = h in cc)

leave_from : (c l : ℤ) (i j : ℕ) (xs ys : List ℤ) → c ≡ l → i ≡ j → xs ≡ ys → same_leave c i xs l j ys ≡ true
leave_from c l i j xs ys e f g =
    and_from (int_eq c l) (i == j && same_numbers xs ys) (is_equal c l e)
    (and_from (i == j) (same_numbers xs ys) (eq-eqb i j f) (subst (λ (zs : List ℤ). same_numbers xs zs ≡ true) g (same_numbers_self xs)))

-- what a location was made for is known of all that speak of it
deal_by : (k : Known) (b : Level) (x : Atom) (l : ℤ) (i : ℕ) (xs : List ℤ) → Says k x → says b x (MayRead l i xs) ≡ true → IsFor k l false i xs
deal_by k b (Acq c j ys q out) l i xs s h =
    let p = and_parts (is_at b Plain) (same_leave c j ys l i xs) h in
    let n = and_parts (int_eq c l) (j == i && same_numbers ys xs) p.1 in
    let m = and_parts (j == i) (same_numbers ys xs) n.1 in
    let e : c ≡ l = equal c l n.0 in
    let f : j ≡ i = eqb-true j i m.0 in
    let g : ys ≡ xs = same_numbers_is ys xs m.1 in
    ap k.deals (sym e) ∙ (s.0 ∙ (λ z. Some (record { rmw = false; inv = f z; args = g z })))
deal_by k b x l i xs s h = absurd (let f : false ≡ true = h in cc)

pub deal_of : (k : Known) (zs : List Piece) (l : ℤ) (i : ℕ) (xs : List ℤ) → EachOf (SaysPiece k) zs → knows_in zs (MayRead l i xs) ≡ true → IsFor k l false i xs
deal_of k [] l i xs s h = absurd (let f : false ≡ true = h in cc)
deal_of k (z ∷ zs) l i xs s h = by_case (says z.level z.atom (MayRead l i xs)) refl h (deal_of k zs l i xs s.1)
  where
    by_case : (b : Bool) → says z.level z.atom (MayRead l i xs) ≡ b → (if b then true else knows_in zs (MayRead l i xs)) ≡ true
        → (knows_in zs (MayRead l i xs) ≡ true → IsFor k l false i xs) → IsFor k l false i xs
    by_case true e h r = deal_by k z.level z.atom l i xs s.0 e
    by_case false e h r = r h

one_deal : (a b : Deal) → Some a ≡ Some b → a ≡ b
one_deal a b e = cc

reads_one : (k : Known) (b : Level) (x : Atom) (l : ℤ) (i : ℕ) (xs : List ℤ) (p : ℕ) → Says k x → IsFor k l false i xs
    → 1 ≤ (if same_level b AtPlain then asked x (Permission l p) else 0) → says b x (MayRead l i xs) ≡ true
reads_one k AtPlain (Acq c j ys q out) l i xs p s d h =
    let e = only_some (Permission c q) (Permission l p) 1 h in
    let f : c ≡ l = cc in
    let same = one_deal (record { rmw = false; inv = j; args = ys }) (record { rmw = false; inv = i; args = xs }) (sym s.0 ∙ (ap k.deals f ∙ d)) in
    leave_from c l j i ys xs f (ap (λ (z : Deal). z.inv) same) (ap (λ (z : Deal). z.args) same)
reads_one k AtUp (Acq c j ys q out) l i xs p s d h = absurd (let z : 1 ≤ 0 = h in omega arith)
reads_one k AtDown (Acq c j ys q out) l i xs p s d h = absurd (let z : 1 ≤ 0 = h in omega arith)
reads_one k b (Points c n v) l i xs p s d h = absurd (let z = none_at (same_level b AtPlain) 0 refl in omega (arith, z, h))
reads_one k b (Init c) l i xs p s d h = absurd (let z = none_at (same_level b AtPlain) 0 refl in omega (arith, z, h))
reads_one k b (Rel c j ys) l i xs p s d h = absurd (let z = none_at (same_level b AtPlain) 0 refl in omega (arith, z, h))
reads_one k b (RmwAcq c j ys) l i xs p s d h = absurd (let z = none_at (same_level b AtPlain) 0 refl in omega (arith, z, h))
reads_one k b (Tok c n) l i xs p s d h = absurd (let z = none_at (same_level b AtPlain) 0 refl in omega (arith, z, h))
reads_one k b (Auth c n) l i xs p s d h = absurd (let z = none_at (same_level b AtPlain) 0 refl in omega (arith, z, h))

-- who has a permission has the leave to read beside it
pub reads_known : (k : Known) (zs : List Piece) (l : ℤ) (i : ℕ) (xs : List ℤ) (p : ℕ) → EachOf (SaysPiece k) zs → IsFor k l false i xs
    → 1 ≤ demand_at AtPlain zs (Permission l p) → knows_in zs (MayRead l i xs) ≡ true
reads_known k [] l i xs p s d h = absurd (let z : 1 ≤ 0 = h in omega arith)
reads_known k (z ∷ zs) l i xs p s d h = elim (none_or_some (asked_at AtPlain z (Permission l p))) [
  | inl n ↦ last (says z.level z.atom (MayRead l i xs)) (reads_known k zs l i xs p s.1 d (omega (arith, n, h)))
  | inr n ↦ first (says z.level z.atom (MayRead l i xs)) (reads_one k z.level z.atom l i xs p s.0 d n)
]
  where
    last : (b : Bool) → knows_in zs (MayRead l i xs) ≡ true → (if b then true else knows_in zs (MayRead l i xs)) ≡ true
    last true e = refl
    last false e = e

    first : (b : Bool) → b ≡ true → (if b then true else knows_in zs (MayRead l i xs)) ≡ true
    first true e = refl
    first false e = absurd (cc)
