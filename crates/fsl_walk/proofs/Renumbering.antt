-- One token step on pieces: the authority gets another number, and tokens come or go. All else is as it was.
use Rattle.std.proofs.Common.{◌≡◌, ◌⊎◌, inl, inr, ℕ, ◌+◌, ◌-◌, ◌≤◌, ◌==◌, Bool, true, false, if◌then◌else◌, List, [], ◌∷◌, ◌++◌, Option, Some, None, ℤ, pos, negsuc, ◌+ℤ◌, ◌-ℤ◌, ◌≤ℤ◌, refl, sym, ap, subst, ◌∙◌, arith}
use Rattle.std.specs.Ordering.{int_eq}
use Rattle.std.proofs.lemmas.Bool.{eq-eqb, eqb-true}
use Rattle.std.proofs.lemmas.Int.{ints}
use Rattle.fsl_core.specs.declared.mode.Rung.{Rung}
use Rattle.fsl_core.specs.declared.mode.Rung.TheVariants.{Plain, Up, Down, Msg}
use Rattle.fsl_meaning.specs.Heaps.{Key, Key as key, Heap, some_of, less, Holds, Claim, Claim as claim, Needs, Agrees}
use Rattle.fsl_meaning.proofs.Deciding.{equal, is_equal}
use Rattle.fsl_meaning.proofs.Heaps.{some_self, some_less}
use Rattle.fsl_kept.specs.Changes.{allowing, with_more}
use Rattle.fsl_updated.specs.Steps.{stepped, tokens_stepped}
use Rattle.fsl_own.specs.Owning.{Resource, Resource as resource, Known}
use Rattle.fsl_own.specs.Atoms.{Atom, Points, Init, Rel, Acq, RmwAcq, Tok, Auth, Says}
use Rattle.fsl_good.specs.Pieces.{Level, AtPlain, AtUp, AtDown, same_level, Piece, plain, all_placed, demand_at, asked_at, Entails, AllSay, IsPossible}
use Rattle.fsl_good.specs.Good.{Shifts, Shifts as shift}
use Rattle.fsl_held.specs.Heaps.{heap_of, truth_of, knows_in, or_else, or_this, value_by, value_in, count_by, count_in, tokens_at, bank_in, Kept}
use Rattle.fsl_held.specs.Parts.{rung_of, Cut, IsInFront}
use Rattle.fsl_held.proofs.Heaps.{heap_more, same_level_self, first_there, count_first, count_speaks}
use Rattle.fsl_held.proofs.Cutting.{heap_cut}
use Rattle.fsl_held.proofs.Fronts.{front_is_kept}
use Rattle.fsl_walk.proofs.Rounds.{kept_less, kept_then, bounded, left_within}
use Rattle.fsl_walk.proofs.Agreeing.{AgreesAt, agrees_at, agrees_by, at_then, entails_then, entails_both, entails_self, under_rest}
use Rattle.fsl_walk.proofs.Finding.{same_banks, authority_follows, entails_pair}

-- ---- who says a value has a share

line_behind : (n m : ℕ) → 1 ≤ m → 1 ≤ n + m
line_behind n m h = omega arith

line_front : (n m : ℕ) → 1 ≤ n → 1 ≤ n + m
line_front n m h = omega arith

counted : (a b : Bool) (n : ℕ) → a ≡ true → b ≡ true → 1 ≤ n → 1 ≤ (if a then (if b then n else 0) else 0)
counted true true n e f h = h
counted true false n e f h = absurd (cc)
counted false b n e f h = absurd (cc)

-- a share of a cell stands at some level
abbrev HasShare : ℤ → List Piece → Type 0
HasShare l xs = (a : Level) × (1 ≤ demand_at a xs (resource.Cell l))

share_first : (a : Level) (c l : ℤ) (n : ℕ) (o : Option ℤ) (xs : List Piece) → int_eq l c ≡ true → 1 ≤ n → HasShare l (record { level = a; atom = Points c n o } ∷ xs)
share_first a c l n o xs e some =
    let x : Piece = record { level = a; atom = Points c n o } in
    (a, line_front (asked_at a x (resource.Cell l)) (demand_at a xs (resource.Cell l)) (counted (same_level a a) (int_eq c l) n (same_level_self a) (is_equal c l (sym (equal l c e))) some))

share_more : (l : ℤ) (x : Piece) (xs : List Piece) → HasShare l xs → HasShare l (x ∷ xs)
share_more l x xs s = (s.0, line_behind (asked_at s.0 x (resource.Cell l)) (demand_at s.0 xs (resource.Cell l)) s.1)

said_behind : (b : Bool) (o : Option ℤ) (v : ℤ) → or_else (if b then None else None) o ≡ Some v → o ≡ Some v
said_behind true o v h = h
said_behind false o v h = h

share_said : (k : Known) (l v : ℤ) (xs : List Piece) → AllSay k xs → value_in xs l ≡ Some v → HasShare l xs
share_said k l v [] s h = absurd (let e : None ≡ Some v = h in cc)
share_said k l v (x ∷ xs) s h = one x.atom s.0 h (share_said k l v xs s.1)
  where
    by_case : (c w : ℤ) (n : ℕ) (b : Bool) → int_eq l c ≡ b → 1 ≤ n → or_else (if b then Some w else None) (value_in xs l) ≡ Some v → (value_in xs l ≡ Some v → HasShare l xs)
        → HasShare l (record { level = x.level; atom = Points c n (Some w) } ∷ xs)
    by_case c w n true e some h more = share_first x.level c l n (Some w) xs e some
    by_case c w n false e some h more = share_more l (record { level = x.level; atom = Points c n (Some w) }) xs (more h)

    one : (y : Atom) → Says k y → or_else (value_by y l) (value_in xs l) ≡ Some v → (value_in xs l ≡ Some v → HasShare l xs) → HasShare l (record { level = x.level; atom = y } ∷ xs)
    one (Points c n None) says h more = share_more l (record { level = x.level; atom = Points c n None }) xs (more (said_behind (int_eq l c) (value_in xs l) v h))
    one (Points c n (Some w)) says h more = by_case c w n (int_eq l c) refl says.0 h more
    one (Init c) says h more = share_more l (record { level = x.level; atom = Init c }) xs (more h)
    one (Rel c i ys) says h more = share_more l (record { level = x.level; atom = Rel c i ys }) xs (more h)
    one (Acq c i ys p o) says h more = share_more l (record { level = x.level; atom = Acq c i ys p o }) xs (more h)
    one (RmwAcq c i ys) says h more = share_more l (record { level = x.level; atom = RmwAcq c i ys }) xs (more h)
    one (Tok c n) says h more = share_more l (record { level = x.level; atom = Tok c n }) xs (more h)
    one (Auth c n) says h more = share_more l (record { level = x.level; atom = Auth c n }) xs (more h)

cell_at : (l : ℤ) (xs : List Piece) (a : Level) → 1 ≤ demand_at a xs (resource.Cell l) → 1 ≤ heap_of xs (key.Cell (rung_of a) l)
cell_at l xs AtPlain h = h
cell_at l xs AtUp h = h
cell_at l xs AtDown h = h

-- what is taken out has no cells: then what was said of values is said of them by what is left
still_valued : {xs : List Piece} (d : Heap) → IsPossible xs → ((r : Rung) (l : ℤ) → d (key.Cell r l) ≡ 0) → (c : Cut AtPlain d xs) (l v : ℤ) → value_in xs l ≡ Some v
    → (r : Rung) × (1 ≤ heap_of c.rest (key.Cell r l)) × (value_in c.rest l ≡ Some v)
still_valued {xs = xs} d possible free c l v is =
    let s = share_said possible.known l v xs possible.agree is in
    let k = key.Cell (rung_of s.0) l in
    let there = line_same (heap_of xs k) (heap_of c.rest k) (d k) (cell_at l xs s.0 s.1) (c.is.left k) (free (rung_of s.0) l) in
    (rung_of s.0, there, c.is.kept.agrees.value (rung_of s.0) l v there is)
  where
    line_same : (x r d : ℕ) → 1 ≤ x → x ≡ r + d → d ≡ 0 → 1 ≤ r
    line_same x r d h e f = omega arith

-- ---- authorities and tokens as heaps

line_zero : (n : ℕ) → n + 0 ≡ n
line_zero n = omega arith

if_as : (b c : Bool) (n : ℕ) → b ≡ c → ◌≡◌ {A = ℕ} ((if c then n else 0) + 0) (if b then n else 0)
if_as b c n e = line_zero (if c then n else 0) ∙ ap (λ (d : Bool). if d then n else 0) (sym e)

pub auth_heap : (b n : ℕ) (k : Key) → heap_of (plain (Auth b n) ∷ []) k ≡ some_of (key.Bank (pos b)) 1 k
auth_heap b n (key.Cell Plain l) = refl
auth_heap b n (key.Cell Up l) = refl
auth_heap b n (key.Cell Down l) = refl
auth_heap b n (key.Cell Msg l) = refl
auth_heap b n (key.Permission l p) = refl
auth_heap b n (key.Tokens (pos c)) = refl
auth_heap b n (key.Tokens (negsuc c)) = refl
auth_heap b n (key.Bank (pos c)) = if_as (int_eq (pos b) (pos c)) (b == c) 1 (same_banks b c)
auth_heap b n (key.Bank (negsuc c)) = refl

tok_heap : (b n : ℕ) (k : Key) → heap_of (plain (Tok b n) ∷ []) k ≡ some_of (key.Tokens (pos b)) n k
tok_heap b n (key.Cell Plain l) = refl
tok_heap b n (key.Cell Up l) = refl
tok_heap b n (key.Cell Down l) = refl
tok_heap b n (key.Cell Msg l) = refl
tok_heap b n (key.Permission l p) = refl
tok_heap b n (key.Bank (pos c)) = refl
tok_heap b n (key.Bank (negsuc c)) = refl
tok_heap b n (key.Tokens (pos c)) = if_as (int_eq (pos b) (pos c)) (b == c) n (same_banks b c)
tok_heap b n (key.Tokens (negsuc c)) = refl

auth_by : (b n : ℕ) (t : Bool) (o : Option ℕ) (m : ℕ) → (b == b) ≡ t → t ≡ true → pos (or_this (or_else (if t then Some n else None) o) m) ≡ pos n
auth_by b n true o m e f = refl
auth_by b n false o m e f = absurd (cc)

pub auth_says : (b n : ℕ) (zs : List Piece) → bank_in (plain (Auth b n) ∷ zs) (pos b) ≡ pos n
auth_says b n zs = auth_by b n (b == b) (count_in zs b) (tokens_at (plain (Auth b n) ∷ zs) (pos b)) refl (eq-eqb b b refl)

-- ---- an authority is renumbered

-- what a step has made of pieces `xs`: there may be x tokens of the bank, and `more` is what the path has
pub record Renumbered (number x : ℤ) (more under : Heap) (xs zs : List Piece) : Type 0 where
  pub possible : IsPossible zs
  pub kept : Kept xs under zs
  pub knows : (a : Claim) → Needs more a → knows_in xs a ≡ true → knows_in zs a ≡ true
  pub agrees : Agrees (allowing number x (truth_of xs)) (truth_of zs) more
  pub values : (l v : ℤ) → value_in xs l ≡ Some v → value_in zs l ≡ Some v
  pub parts : Holds more under (heap_of zs)

-- nothing but one bank and its tokens
record IsOfBank (b : ℕ) (d : Heap) : Type 0 where
  pub cells : (r : Rung) (l : ℤ) → d (key.Cell r l) ≡ 0
  pub permissions : (l : ℤ) (p : ℕ) → d (key.Permission l p) ≡ 0
  pub banks : (c : ℤ) → int_eq c (pos b) ≡ false → d (key.Bank c) ≡ 0

line_still : (n m u x r d : ℕ) → 1 ≤ n → n ≤ m → m + u ≤ x → x ≡ r + d → d ≡ 0 → 1 ≤ r
line_still n m u x r d a b c e f = omega arith

-- all but tokens, of which nothing is said
abbrev IsSaid : Key → Type 0
IsSaid (key.Tokens c) = ⊥
IsSaid _ = Unit {0}

-- d was cut out, and an authority with tokens put in front of the rest
renumbered : {xs : List Piece} {under mine : Heap} (b q : ℕ) (x : ℤ) (ts : List Piece) (d more : Heap) → IsOfBank b d → IsPossible xs → Holds mine under (heap_of xs) → ((k : Key) → d k ≤ mine k)
    → (c : Cut AtPlain d xs) → IsPossible ((plain (Auth b q) ∷ ts) ++ c.rest) → pos q ≡ x → ((k : Key) → IsSaid k → more k ≤ mine k)
    → Holds more under (heap_of ((plain (Auth b q) ∷ ts) ++ c.rest)) → Renumbered (pos b) x more under xs ((plain (Auth b q) ∷ ts) ++ c.rest)
renumbered {xs = xs} {under = under} {mine = mine} b q x ts d more of before holds taken c possible is less parts = record {
  possible = possible;
  kept = kept_less under (heap_of c.rest) (under_rest d mine under (heap_of xs) (heap_of c.rest) taken holds c.is.left) (kept_then c.is.kept f.behind);
  knows = knows;
  agrees = agrees_by more each;
  values = λ l v said. let s = still_valued d before of.cells c l v said in f.behind.agrees.value s.0 l v s.1 s.2;
  parts = parts;
}
  where
    f : IsInFront (plain (Auth b q) ∷ ts) c.rest
    f = front_is_kept (plain (Auth b q) ∷ ts) c.rest possible

    there : (k : Key) → IsSaid k → d k ≡ 0 → 1 ≤ more k → 1 ≤ heap_of c.rest k
    there k said none some = line_still (more k) (mine k) (under k) (heap_of xs k) (heap_of c.rest k) (d k) some (less k said) (holds k) (c.is.left k) none

    still : (k : Key) → IsSaid k → d k ≡ 0 → 1 ≤ more k → AgreesAt (truth_of xs) (truth_of ((plain (Auth b q) ∷ ts) ++ c.rest)) k
    still k said none some =
        let r = there k said none some in
        at_then (truth_of xs) (truth_of c.rest) (truth_of ((plain (Auth b q) ∷ ts) ++ c.rest)) k (agrees_at c.is.kept.agrees k r) (agrees_at f.behind.agrees k r)

    bank : (a : ℤ) (t : Bool) → int_eq a (pos b) ≡ t → 1 ≤ more (key.Bank a) → bank_in ((plain (Auth b q) ∷ ts) ++ c.rest) a ≡ (if t then x else bank_in xs a)
    bank a true e some = subst (λ (z : ℤ). bank_in ((plain (Auth b q) ∷ ts) ++ c.rest) z ≡ x) (sym (equal a (pos b) e)) (auth_says b q (ts ++ c.rest) ∙ is)
    bank a false e some = still (key.Bank a) tt (of.banks a e) some

    each : (k : Key) → 1 ≤ more k → AgreesAt (allowing (pos b) x (truth_of xs)) (truth_of ((plain (Auth b q) ∷ ts) ++ c.rest)) k
    each (key.Cell r l) some = still (key.Cell r l) tt (of.cells r l) some
    each (key.Permission l p) some = still (key.Permission l p) tt (of.permissions l p) some
    each (key.Tokens a) some = tt
    each (key.Bank a) some = bank a (int_eq a (pos b)) refl some

    by_rest : (a : Claim) → Needs (heap_of c.rest) a → knows_in xs a ≡ true → knows_in ((plain (Auth b q) ∷ ts) ++ c.rest) a ≡ true
    by_rest a n k = f.behind.knows.more a n (c.is.kept.knows.more a n k)

    knows : (a : Claim) → Needs more a → knows_in xs a ≡ true → knows_in ((plain (Auth b q) ∷ ts) ++ c.rest) a ≡ true
    knows (claim.IsInit r l) n k = by_rest (claim.IsInit r l) tt k
    knows (claim.MayWrite l i ys) n k = by_rest (claim.MayWrite l i ys) tt k
    knows (claim.MayUpdate l i ys) n k = by_rest (claim.MayUpdate l i ys) tt k
    knows (claim.MayRead l i ys) n k = by_rest (claim.MayRead l i ys) (n.0, there (key.Permission l n.0) tt (of.permissions l n.0) n.1) k

not_turned : (b : ℕ) (a : ℤ) → int_eq a (pos b) ≡ false → int_eq (pos b) a ≡ false
not_turned b a e = by_case (int_eq (pos b) a) refl
  where
    by_case : (t : Bool) → int_eq (pos b) a ≡ t → t ≡ false
    by_case false f = refl
    by_case true f = absurd (let g : int_eq a (pos b) ≡ true = is_equal a (pos b) (sym (equal (pos b) a f)) in let h : true ≡ false = sym g ∙ e in cc)

none_of : (b : Bool) (n : ℕ) → b ≡ false → ◌≡◌ {A = ℕ} (if b then n else 0) 0
none_of true n e = absurd (cc)
none_of false n e = refl

line_within : (d m x : ℕ) → d ≤ m → m ≤ x → d ≤ x
line_within d m x a b = omega arith

line_one : (a b : ℕ) → a ≡ b → b ≡ 1 → 1 ≤ a
line_one a b e f = omega arith

-- the authority that was cut out, and what it says
record Authority (b : ℕ) (d : Heap) (xs : List Piece) (c : Cut AtPlain d xs) : Type 0 where
  pub count : ℕ
  pub is : bank_in xs (pos b) ≡ pos count
  pub follows : Entails (all_placed AtPlain c.atoms) (plain (Auth b count) ∷ [])

authority : (b : ℕ) (d : Heap) (xs : List Piece) (c : Cut AtPlain d xs) → d (key.Bank (pos b)) ≡ 1 → Authority b d xs c
authority b d xs c one =
    let ys = all_placed AtPlain c.atoms in
    let there = first_there (λ y. count_by y b) (resource.Bank b) (count_speaks b) AtPlain ys (line_one (heap_of ys (key.Bank (pos b))) (d (key.Bank (pos b))) (c.is.taken (key.Bank (pos b))) one) in
    let counted : count_in ys b ≡ Some there.0 = count_first b ys ∙ there.1 in
    record {
      count = there.0;
      is = sym (c.is.agrees.bank (pos b) (line_one (d (key.Bank (pos b))) 1 one refl)) ∙ ap (λ (o : Option ℕ). pos (or_this o (tokens_at ys (pos b)))) counted;
      follows = authority_follows b there.0 c.atoms counted;
    }

-- ---- minting

auth_alone : (b : ℕ) → IsOfBank b (some_of (key.Bank (pos b)) 1)
auth_alone b = record { cells = λ r l. refl; permissions = λ l p. refl; banks = λ a e. none_of (int_eq (pos b) a) 1 (not_turned b a e) }

line_mint : (t m u x r d y z : ℕ) → m + u ≤ x → x ≡ r + d → y ≡ d + t → z ≡ y + r → (t + m) + u ≤ z
line_mint t m u x r d y z a b c e = omega arith

line_plus_none : (n : ℕ) → 0 + n ≤ n
line_plus_none n = omega arith

line_sum : (a b c d e : ℕ) → a ≡ b + c → b ≡ d → c ≡ e → a ≡ d + e
line_sum a b c d e p q r = omega arith

pair_heap : (b q n : ℕ) (k : Key) → heap_of (plain (Auth b q) ∷ plain (Tok b n) ∷ []) k ≡ some_of (key.Bank (pos b)) 1 k + some_of (key.Tokens (pos b)) n k
pair_heap b q n k =
    line_sum (heap_of (plain (Auth b q) ∷ plain (Tok b n) ∷ []) k) (heap_of (plain (Auth b q) ∷ []) k) (heap_of (plain (Tok b n) ∷ []) k) (some_of (key.Bank (pos b)) 1 k)
    (some_of (key.Tokens (pos b)) n k)
    (heap_more (plain (Auth b q) ∷ []) (plain (Tok b n) ∷ []) k) (auth_heap b q k) (tok_heap b n k)

more_said : (mine : Heap) (b n : ℕ) (k : Key) → IsSaid k → with_more mine (key.Tokens (pos b)) n k ≤ mine k
more_said mine b n (key.Cell r l) said = line_plus_none (mine (key.Cell r l))
more_said mine b n (key.Permission l p) said = line_plus_none (mine (key.Permission l p))
more_said mine b n (key.Bank c) said = line_plus_none (mine (key.Bank c))
more_said mine b n (key.Tokens c) said = absurd said

sum_is : (n m : ℕ) (x : ℤ) → x ≡ pos n → pos (n + m) ≡ x +ℤ pos m
sum_is n m x e = omega (arith, ints, e)

-- what a step of n tokens leads to
abbrev Goes : Bool → ℤ → ℕ → Heap → Heap → List Piece → (List Piece → Type 0) → Type 0
Goes mint number n mine under xs K = (zs : List Piece) → Renumbered number (stepped mint (bank_in xs number) (pos n)) (tokens_stepped mint number n mine) under xs zs → Shifts K zs

mints : {K : List Piece → Type 0} {xs : List Piece} {under : Heap} (mine : Heap) (b n : ℕ) → IsPossible xs → Holds mine under (heap_of xs) → 1 ≤ mine (key.Bank (pos b))
    → Goes true (pos b) n mine under xs K → Shifts K xs
mints {xs = xs} {under = under} mine b n possible holds there goes =
    let d = some_of (key.Bank (pos b)) 1 in
    let less = some_less (key.Bank (pos b)) 1 mine there in
    let c = heap_cut AtPlain d xs possible (λ r l other. refl) (λ k. line_within (d k) (mine k) (heap_of xs k) (less k) (left_within mine under (heap_of xs) holds k)) in
    let a = authority b d xs c (some_self (key.Bank (pos b)) 1) in
    let ys = plain (Auth b (a.count + n)) ∷ plain (Tok b n) ∷ [] in
    let zs = ys ++ c.rest in
    shift.mints b a.count n (entails_then c.is.gives (entails_both (all_placed AtPlain c.atoms) c.rest (plain (Auth b a.count) ∷ []) c.rest a.follows (entails_self c.rest))) (λ possible2.
    let f = front_is_kept ys c.rest possible2 in
    goes zs (renumbered b (a.count + n) (bank_in xs (pos b) +ℤ pos n) (plain (Tok b n) ∷ []) d (with_more mine (key.Tokens (pos b)) n) (auth_alone b) possible holds less c possible2
    (sum_is a.count n (bank_in xs (pos b)) a.is) (more_said mine b n)
    (λ k. line_mint (some_of (key.Tokens (pos b)) n k) (mine k) (under k) (heap_of xs k) (heap_of c.rest k) (d k) (heap_of ys k) (heap_of zs k) (holds k) (c.is.left k)
    (pair_heap b (a.count + n) n k) (f.sum k))))

-- ---- burning

abbrev burned : ℕ → ℕ → Heap
burned b n = λ k. some_of (key.Bank (pos b)) 1 k + some_of (key.Tokens (pos b)) n k

line_first : (n m : ℕ) → n ≤ m → n + 0 ≤ m
line_first n m h = omega arith

line_last : (n m : ℕ) → n ≤ m → 0 + n ≤ m
line_last n m h = omega arith

line_nothing : (n : ℕ) → 0 + 0 ≤ n
line_nothing n = omega arith

line_none : (n : ℕ) → n ≡ 0 → n + 0 ≡ 0
line_none n e = omega arith

burned_less : (mine : Heap) (b n : ℕ) → 1 ≤ mine (key.Bank (pos b)) → n ≤ mine (key.Tokens (pos b)) → (k : Key) → burned b n k ≤ mine k
burned_less mine b n there enough (key.Cell r l) = line_nothing (mine (key.Cell r l))
burned_less mine b n there enough (key.Permission l p) = line_nothing (mine (key.Permission l p))
burned_less mine b n there enough (key.Bank c) = line_first (some_of (key.Bank (pos b)) 1 (key.Bank c)) (mine (key.Bank c)) (some_less (key.Bank (pos b)) 1 mine there (key.Bank c))
burned_less mine b n there enough (key.Tokens c) = line_last (some_of (key.Tokens (pos b)) n (key.Tokens c)) (mine (key.Tokens c)) (some_less (key.Tokens (pos b)) n mine enough (key.Tokens c))

burned_alone : (b n : ℕ) → IsOfBank b (burned b n)
burned_alone b n = record { cells = λ r l. refl; permissions = λ l p. refl; banks = λ a e. line_none (some_of (key.Bank (pos b)) 1 (key.Bank a)) (none_of (int_eq (pos b) a) 1 (not_turned b a e)) }

line_empty : (n : ℕ) → 0 + 0 ≤ n
line_empty n = omega arith

line_tokens : (n m : ℕ) → m ≡ n → n + 0 ≤ m
line_tokens n m e = omega arith

tokens_by : (b c n : ℕ) (ys : List Piece) (t : Bool) → (b == c) ≡ t → demand_at AtPlain ys (resource.Tokens b) ≡ n → (if t then n else 0) + 0 ≤ demand_at AtPlain ys (resource.Tokens c)
tokens_by b c n ys true e is = subst (λ (a : ℕ). n + 0 ≤ demand_at AtPlain ys (resource.Tokens a)) (eqb-true b c e) (line_tokens n (demand_at AtPlain ys (resource.Tokens b)) is)
tokens_by b c n ys false e is = line_empty (demand_at AtPlain ys (resource.Tokens c))

-- several pieces of tokens are one
tokens_follow : (b n : ℕ) (ys : List Piece) → demand_at AtPlain ys (resource.Tokens b) ≡ n → Entails ys (plain (Tok b n) ∷ [])
tokens_follow b n ys is = record { enough = enough; right = λ g done k t p. (tt, tt) }
  where
    enough : (a : Level) (r : Resource) → demand_at a (plain (Tok b n) ∷ []) r ≤ demand_at a ys r
    enough AtPlain (resource.Tokens c) = tokens_by b c n ys (b == c) refl is
    enough AtPlain (resource.Cell c) = line_empty (demand_at AtPlain ys (resource.Cell c))
    enough AtPlain (resource.Permission l p) = line_empty (demand_at AtPlain ys (resource.Permission l p))
    enough AtPlain (resource.Bank c) = line_empty (demand_at AtPlain ys (resource.Bank c))
    enough AtUp r = line_empty (demand_at AtUp ys r)
    enough AtDown r = line_empty (demand_at AtDown ys r)

bank_apart : (b q n : ℕ) (a : Level) (r : Resource) → (asked_at a (plain (Auth b q)) r ≡ 0) ⊎ (asked_at a (plain (Tok b n)) r ≡ 0)
bank_apart b q n AtUp r = inl refl
bank_apart b q n AtDown r = inl refl
bank_apart b q n AtPlain (resource.Cell c) = inl refl
bank_apart b q n AtPlain (resource.Permission l p) = inl refl
bank_apart b q n AtPlain (resource.Tokens c) = inl refl
bank_apart b q n AtPlain (resource.Bank c) = inr refl

line_burn : (t m u x r a y z : ℕ) → t ≤ m → m + u ≤ x → x ≡ r + (a + t) → y ≡ a → z ≡ y + r → (m - t) + u ≤ z
line_burn t m u x r a y z e f g h i = omega arith

line_minus : (n m : ℕ) → n - m ≤ n
line_minus n m = omega arith

difference_is : (n m k : ℕ) (x : ℤ) → x ≡ pos n → m ≤ k → pos k ≤ℤ x → pos (n - m) ≡ x -ℤ pos m
difference_is n m k x e a b = omega (arith, ints, e, a, b)

line_one_more : (n : ℕ) → n ≡ 1 → n + 0 ≡ 1
line_one_more n e = omega arith

line_all : (n a b : ℕ) → n ≡ 0 + a → a ≡ b → n ≡ b
line_all n a b e f = omega arith

burns : {K : List Piece → Type 0} {xs : List Piece} {under : Heap} (mine : Heap) (b n : ℕ) → IsPossible xs → Holds mine under (heap_of xs) → 1 ≤ mine (key.Bank (pos b)) → n ≤ mine (key.Tokens (pos b))
    → Goes false (pos b) n mine under xs K → Shifts K xs
burns {xs = xs} {under = under} mine b n possible holds there enough goes =
    let one = key.Tokens (pos b) in
    let d = burned b n in
    let within = left_within mine under (heap_of xs) holds in
    let less_mine = burned_less mine b n there enough in
    let c = heap_cut AtPlain d xs possible (λ r l other. refl) (λ k. line_within (d k) (mine k) (heap_of xs k) (less_mine k) (within k)) in
    let ps = all_placed AtPlain c.atoms in
    let a = authority b d xs c (line_one_more (some_of (key.Bank (pos b)) 1 (key.Bank (pos b))) (some_self (key.Bank (pos b)) 1)) in
    let tokens = tokens_follow b n ps (line_all (heap_of ps one) (some_of one n one) n (c.is.taken one) (some_self one n)) in
    let pair = entails_pair (plain (Auth b a.count)) (plain (Tok b n)) ps (bank_apart b a.count n) a.follows tokens in
    let ys = plain (Auth b (a.count - n)) ∷ [] in
    let zs = ys ++ c.rest in
    shift.burns b a.count n (entails_then c.is.gives (entails_both ps c.rest (plain (Auth b a.count) ∷ plain (Tok b n) ∷ []) c.rest pair (entails_self c.rest))) (λ possible2.
    let f = front_is_kept ys c.rest possible2 in
    goes zs (renumbered b (a.count - n) (bank_in xs (pos b) -ℤ pos n) [] d (less mine one n) (burned_alone b n) possible holds less_mine c possible2
    (difference_is a.count n (mine one) (bank_in xs (pos b)) a.is enough ((bounded xs mine possible within).tokens (pos b))) (λ k said. line_minus (mine k) (some_of one n k))
    (λ k. line_burn (some_of one n k) (mine k) (under k) (heap_of xs k) (heap_of c.rest k) (some_of (key.Bank (pos b)) 1 k) (heap_of ys k) (heap_of zs k)
    (some_less one n mine enough k) (holds k) (c.is.left k) (auth_heap b (a.count - n) k) (f.sum k))))

-- ---- a step

no_bank : 1 ≤ 0 → ⊥
no_bank h = omega arith

line_there : (m x : ℕ) → 1 ≤ m → m ≤ x → 1 ≤ x
line_there m x a b = omega arith

-- n tokens are minted, or burned where the path has them
pub step_shifts : {K : List Piece → Type 0} {xs : List Piece} {under : Heap} (mine : Heap) (mint : Bool) (number : ℤ) (n : ℕ) → IsPossible xs → Holds mine under (heap_of xs) → 1 ≤ mine (key.Bank number)
    → (mint ≡ false → n ≤ mine (key.Tokens number))
    → ((zs : List Piece) → Renumbered number (stepped mint (bank_in xs number) (pos n)) (tokens_stepped mint number n mine) under xs zs → Shifts K zs) → Shifts K xs
step_shifts mine true (pos b) n possible holds there enough goes = mints mine b n possible holds there goes
step_shifts mine false (pos b) n possible holds there enough goes = burns mine b n possible holds there (enough refl) goes
step_shifts {xs = xs} {under = under} mine mint (negsuc b) n possible holds there enough goes =
    let k = key.Bank (negsuc b) in absurd (no_bank (line_there (mine k) (heap_of xs k) there (left_within mine under (heap_of xs) holds k)))
