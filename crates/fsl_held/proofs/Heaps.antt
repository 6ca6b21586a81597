-- The heap of a list, and what its first pieces say: of lists one behind the other, and against what is known.
use Rattle.std.proofs.Common.{◌≡◌, ◌⊎◌, inl, inr, ℕ, zero, suc, ◌+◌, ◌≤◌, ◌==◌, Bool, true, false, ◌&&◌, List, [], ◌∷◌, ◌++◌, Option, Some, None, ℤ, pos, negsuc, if◌then◌else◌, refl, ap, sym, subst, ◌∙◌, arith}
use Rattle.std.specs.Ordering.{int_eq}
use Rattle.std.proofs.lemmas.Bool.{cases_Bool, and_parts, and_from, eqb-true, eq-eqb}
use Rattle.fsl_core.specs.declared.mode.Rung.TheVariants.{Plain, Up, Down, Msg}
use Rattle.fsl_meaning.specs.Heaps.{Key, Key as key, Claim, Knows}
use Rattle.fsl_meaning.proofs.Deciding.{equal, is_equal}
use Rattle.fsl_own.specs.Owning.{Resource, Permission, Bank, only, Known}
use Rattle.fsl_own.specs.Atoms.{Atom, Points, Init, Rel, Acq, RmwAcq, Tok, Auth, asked, Says}
use Rattle.fsl_own.proofs.Totals.{only_here, only_elsewhere}
use Rattle.fsl_good.specs.Pieces.{Level, AtPlain, AtUp, AtDown, same_level, Piece, asked_at, demand_at, AllSay}
use Rattle.fsl_good.proofs.Pieces.{demand_more}
use Rattle.fsl_held.specs.Heaps.{heap_of, or_else, value_by, value_in, out_by, out_in, count_by, count_in, says, knows_in, ground_of}

-- ---- lists one behind the other

pub heap_more : (xs ys : List Piece) (k : Key) → heap_of (xs ++ ys) k ≡ heap_of xs k + heap_of ys k
heap_more xs ys (key.Cell Plain l) = demand_more AtPlain xs ys _
heap_more xs ys (key.Cell Up l) = demand_more AtUp xs ys _
heap_more xs ys (key.Cell Down l) = demand_more AtDown xs ys _
heap_more xs ys (key.Cell Msg l) = refl
heap_more xs ys (key.Permission l p) = demand_more AtPlain xs ys _
heap_more xs ys (key.Tokens (pos b)) = demand_more AtPlain xs ys _
heap_more xs ys (key.Tokens (negsuc b)) = refl
heap_more xs ys (key.Bank (pos b)) = demand_more AtPlain xs ys _
heap_more xs ys (key.Bank (negsuc b)) = refl

pub same_level_self : (a : Level) → same_level a a ≡ true
same_level_self AtPlain = refl
same_level_self AtUp = refl
same_level_self AtDown = refl

-- a claim is known of a list, where it is of a part of it
pub knows_front : (xs ys : List Piece) (c : Claim) → Knows (ground_of xs) c → Knows (ground_of (xs ++ ys)) c
knows_front [] ys c k = absurd (let f : false ≡ true = k in cc)
knows_front (x ∷ xs) ys c k = by_case (says x.level x.atom c) k (knows_front xs ys c)
  where
    by_case : (b : Bool) → (if b then true else knows_in xs c) ≡ true → (knows_in xs c ≡ true → knows_in (xs ++ ys) c ≡ true) → (if b then true else knows_in (xs ++ ys) c) ≡ true
    by_case true h r = refl
    by_case false h r = r h

pub knows_behind : (xs ys : List Piece) (c : Claim) → Knows (ground_of ys) c → Knows (ground_of (xs ++ ys)) c
knows_behind [] ys c k = k
knows_behind (x ∷ xs) ys c k = by_case (says x.level x.atom c) (knows_behind xs ys c k)
  where
    by_case : (b : Bool) → knows_in (xs ++ ys) c ≡ true → (if b then true else knows_in (xs ++ ys) c) ≡ true
    by_case true r = refl
    by_case false r = r

-- ---- what the first piece says that says anything

abbrev pub first : {X : Type 0} → (Atom → Option X) → List Piece → Option X
first f [] = None
first f (x ∷ xs) = or_else (f x.atom) (first f xs)

pub value_first : (l : ℤ) (xs : List Piece) → value_in xs l ≡ first (λ y. value_by y l) xs
value_first l [] = refl
value_first l (x ∷ xs) = ap (or_else (value_by x.atom l)) (value_first l xs)

pub out_first : (l : ℤ) (part : ℕ) (xs : List Piece) → out_in xs l part ≡ first (λ y. out_by y l part) xs
out_first l part [] = refl
out_first l part (x ∷ xs) = ap (or_else (out_by x.atom l part)) (out_first l part xs)

pub count_first : (b : ℕ) (xs : List Piece) → count_in xs b ≡ first (λ y. count_by y b) xs
count_first b [] = refl
count_first b (x ∷ xs) = ap (or_else (count_by x.atom b)) (count_first b xs)

-- in front of others it is said still
pub first_front : {X : Type 0} (f : Atom → Option X) (xs ys : List Piece) (z : X) → first f xs ≡ Some z → first f (xs ++ ys) ≡ Some z
first_front f [] ys z h = absurd (let e : None ≡ Some z = h in cc)
first_front {X = X} f (x ∷ xs) ys z h = by_case (f x.atom) h (first_front f xs ys z)
  where
    by_case : (o : Option X) → or_else o (first f xs) ≡ Some z → (first f xs ≡ Some z → first f (xs ++ ys) ≡ Some z) → or_else o (first f (xs ++ ys)) ≡ Some z
    by_case None h r = r h
    by_case (Some w) h r = h

-- behind others that don't say anything, too
pub first_behind : {X : Type 0} (f : Atom → Option X) (xs ys : List Piece) → first f xs ≡ None → first f (xs ++ ys) ≡ first f ys
first_behind f [] ys h = refl
first_behind {X = X} f (x ∷ xs) ys h = by_case (f x.atom) h (first_behind f xs ys)
  where
    by_case : (o : Option X) → or_else o (first f xs) ≡ None → (first f xs ≡ None → first f (xs ++ ys) ≡ first f ys) → or_else o (first f (xs ++ ys)) ≡ first f ys
    by_case None h r = r h
    by_case (Some w) h r = absurd (let e : Some w ≡ None = h in cc)

-- ---- resources that one piece alone has: who has some of it says something, and nobody else does

pub record SaysOne {X : Type 0} (say : Atom → Option X) (r : Resource) (x : Atom) : Type 0 where
  pub what : X
  pub is : say x ≡ Some what
  pub has : 1 ≤ asked x r

abbrev pub Speaks : {X : Type 0} → (Atom → Option X) → Resource → Type 0
Speaks say r = (x : Atom) → SaysOne say r x ⊎ ((say x ≡ None) × (asked x r ≡ 0))

split : (b : Bool) (n m : ℕ) → 1 ≤ (if b then n else 0) + m → (1 ≤ n) ⊎ (1 ≤ m)
split true zero m h = inr (omega arith)
split true (suc n) m h = inl (omega arith)
split false n m h = inr (omega arith)

or_some : {X : Type 0} (o p : Option X) → (z : X) × (p ≡ Some z) → (z : X) × (or_else o p ≡ Some z)
or_some None p h = h
or_some (Some w) p h = (w, refl)

pub no_share : 1 ≤ 0 → ⊥
no_share h = omega arith

pub first_there : {X : Type 0} (say : Atom → Option X) (r : Resource) → Speaks say r → (a : Level) (xs : List Piece) → 1 ≤ demand_at a xs r → (z : X) × (first say xs ≡ Some z)
first_there say r s a [] h = absurd (no_share h)
first_there say r s a (x ∷ xs) h = elim (s x.atom) [
  | inl o ↦ (o.what, ap (λ p. or_else p (first say xs)) o.is)
  | inr z ↦ elim (split (same_level x.level a) (asked x.atom r) (demand_at a xs r) h) [
    | inl i ↦ absurd (let e = z.1 in omega (arith, e, i))
    | inr i ↦ or_some (say x.atom) (first say xs) (first_there say r s a xs i)
  ]
]

head_none : (b : Bool) (n m : ℕ) → b ≡ true → (if b then n else 0) + m ≡ 0 → n ≡ 0
head_none true n m e h = omega arith
head_none false n m e h = absurd (cc)

tail_none : (n m : ℕ) → n + m ≡ 0 → m ≡ 0
tail_none n m h = omega arith

pub first_none : {X : Type 0} (say : Atom → Option X) (r : Resource) → Speaks say r → (xs : List Piece) → ((a : Level) → demand_at a xs r ≡ 0) → first say xs ≡ None
first_none say r s [] h = refl
first_none say r s (x ∷ xs) h = elim (s x.atom) [
  | inl o ↦
      let n : asked x.atom r ≡ 0 = head_none (same_level x.level x.level) (asked x.atom r) (demand_at x.level xs r) (same_level_self x.level) (h x.level) in
      absurd (let m = o.has in omega (arith, n, m))
  | inr z ↦ ap (λ p. or_else p (first say xs)) z.0 ∙ first_none say r s xs (λ a. tail_none (asked_at a x r) (demand_at a xs r) (h a))
]

-- ---- permissions and authorities

pub out_speaks : (l : ℤ) (p : ℕ) → Speaks (λ x. out_by x l p) (Permission l p)
out_speaks l p (Acq c inv args q out) = elim (cases_Bool (int_eq l c && p == q)) [
  | inl t ↦
      let i = and_parts (int_eq l c) (p == q) t in
      let e : l ≡ c = equal l c i.0 in
      let f : p ≡ q = eqb-true p q i.1 in
      let same : Permission c q ≡ Permission l p = λ j. Permission (sym e j) (sym f j) in
      let has : only (Permission c q) 1 (Permission l p) ≡ 1 = subst (λ (r : Resource). only (Permission c q) 1 r ≡ 1) same (only_here (Permission c q) 1) in
      inl (record { what = out; is = rw t refl; has = omega (arith, has) })
  | inr t ↦ inr (
    rw t refl,
    only_elsewhere (Permission c q) (Permission l p) 1 (λ e. absurd (
        let f : l ≡ c = cc in
        let g : p ≡ q = cc in
        let j : (int_eq l c && p == q) ≡ true = and_from (int_eq l c) (p == q) (is_equal l c f) (eq-eqb p q g) in
        cc)),
  )
]
out_speaks l p (Points c n v) = inr (refl, refl)
out_speaks l p (Init c) = inr (refl, refl)
out_speaks l p (Rel c inv args) = inr (refl, refl)
out_speaks l p (RmwAcq c inv args) = inr (refl, refl)
out_speaks l p (Tok b n) = inr (refl, refl)
out_speaks l p (Auth b n) = inr (refl, refl)

pub count_speaks : (b : ℕ) → Speaks (λ x. count_by x b) (Bank b)
count_speaks b (Auth c n) = elim (cases_Bool (b == c)) [
  | inl t ↦
      let has : only (Bank c) 1 (Bank b) ≡ 1 = subst (λ (r : Resource). only (Bank c) 1 r ≡ 1) (ap Bank (sym (eqb-true b c t))) (only_here (Bank c) 1) in
      inl (record { what = n; is = rw t refl; has = omega (arith, has) })
  | inr t ↦ inr (rw t refl, only_elsewhere (Bank c) (Bank b) 1 (λ e. absurd (let f : b ≡ c = cc in let j : (b == c) ≡ true = eq-eqb b c f in cc)))
]
count_speaks b (Points c n v) = inr (refl, refl)
count_speaks b (Init c) = inr (refl, refl)
count_speaks b (Rel c inv args) = inr (refl, refl)
count_speaks b (Acq c inv args q out) = inr (refl, refl)
count_speaks b (RmwAcq c inv args) = inr (refl, refl)
count_speaks b (Tok c n) = inr (refl, refl)

-- ---- what pieces say is known

pub value_said : (k : Known) (l v : ℤ) (xs : List Piece) → AllSay k xs → value_in xs l ≡ Some v → k.values l ≡ Some v
value_said k l v [] s h = absurd (let e : None ≡ Some v = h in cc)
value_said k l v (x ∷ xs) s h = one x.atom (value_in xs l) s.0 (value_said k l v xs s.1) h
  where
    by_case : (c w : ℤ) (o : Option ℤ) (b : Bool) → int_eq l c ≡ b → k.values c ≡ Some w → (o ≡ Some v → k.values l ≡ Some v) → or_else (if b then Some w else None) o ≡ Some v → k.values l ≡ Some v
    by_case c w o true e known r h = ap k.values (equal l c e) ∙ known ∙ h
    by_case c w o false e known r h = r h

    nothing : (o : Option ℤ) (b : Bool) → (o ≡ Some v → k.values l ≡ Some v) → or_else (if b then None else None) o ≡ Some v → k.values l ≡ Some v
    nothing o true r h = r h
    nothing o false r h = r h

    one : (y : Atom) (o : Option ℤ) → Says k y → (o ≡ Some v → k.values l ≡ Some v) → or_else (value_by y l) o ≡ Some v → k.values l ≡ Some v
    one (Points c n None) o s r h = nothing o (int_eq l c) r h
    one (Points c n (Some w)) o s r h = by_case c w o (int_eq l c) refl s.1 r h
    one (Init c) o s r h = r h
    one (Rel c i ys) o s r h = r h
    one (Acq c i ys q out) o s r h = r h
    one (RmwAcq c i ys) o s r h = r h
    one (Tok c n) o s r h = r h
    one (Auth c n) o s r h = r h

pub count_said : (k : Known) (b n : ℕ) (xs : List Piece) → AllSay k xs → count_in xs b ≡ Some n → k.counts b ≡ n
count_said k b n [] s h = absurd (let e : None ≡ Some n = h in cc)
count_said k b n (x ∷ xs) s h = one x.atom (count_in xs b) s.0 (count_said k b n xs s.1) h
  where
    by_case : (c m : ℕ) (o : Option ℕ) (t : Bool) → (b == c) ≡ t → k.counts c ≡ m → (o ≡ Some n → k.counts b ≡ n) → or_else (if t then Some m else None) o ≡ Some n → k.counts b ≡ n
    by_case c m o true e known r h = ap k.counts (eqb-true b c e) ∙ known ∙ (let d : Some m ≡ Some n = h in cc)
    by_case c m o false e known r h = r h

    one : (y : Atom) (o : Option ℕ) → Says k y → (o ≡ Some n → k.counts b ≡ n) → or_else (count_by y b) o ≡ Some n → k.counts b ≡ n
    one (Points c m v) o s r h = r h
    one (Init c) o s r h = r h
    one (Rel c i ys) o s r h = r h
    one (Acq c i ys q out) o s r h = r h
    one (RmwAcq c i ys) o s r h = r h
    one (Tok c m) o s r h = r h
    one (Auth c m) o s r h = by_case c m o (b == c) refl s r h
