-- All of a cell taken out of a list, and its value read.
use Rattle.std.proofs.Common.{◌≡◌, inl, inr, ℕ, ◌+◌, ◌≤◌, Bool, true, false, List, [], ◌∷◌, Option, Some, None, ℤ, pos, negsuc, if◌then◌else◌, refl, ap, sym, subst, ◌∙◌, arith}
use Rattle.std.specs.Ordering.{int_eq}
use Rattle.fsl_core.specs.declared.mode.Rung.{Rung}
use Rattle.fsl_core.specs.declared.mode.Rung.TheVariants.{Plain, Up, Down, Msg}
use Rattle.fsl_graph.specs.declared.graph.Graph.{Graph}
use Rattle.fsl_meaning.specs.Heaps.{Key, Key as key, some_of, Claim, Agrees}
use Rattle.fsl_meaning.proofs.Deciding.{equal, is_equal, not_equal}
use Rattle.fsl_own.specs.Owning.{Resource, Resource as resource, only, full, Known}
use Rattle.fsl_own.specs.Atoms.{Atom, Points, Init, Rel, Acq, RmwAcq, Tok, Auth, asked, Says}
use Rattle.fsl_own.proofs.Totals.{same_resource, only_here, only_elsewhere}
use Rattle.fsl_good.specs.Pieces.{Level, AtPlain, AtUp, AtDown, same_level, Piece, plain, asked_at, demand_at, RightPieces, IsPossible}
use Rattle.fsl_good.proofs.Pieces.{all_say}
use Rattle.fsl_held.specs.Heaps.{heap_of, or_else, or_this, value_by, value_in, out_by, out_in, count_by, count_in, tokens_at, bank_in, truth_of, says, knows_in, Kept}
use Rattle.fsl_held.specs.Laws.{CellIsTaken, CellIsRead}
use Rattle.fsl_held.proofs.Heaps.{first, value_first, out_first, count_first, value_said}

-- ---- a list without its shares of a cell

abbrev pub is_of : ℤ → Atom → Bool
is_of c (Points l n v) = int_eq c l
is_of c _ = false

abbrev pub without : ℤ → List Piece → List Piece
without c [] = []
without c (x ∷ xs) = if is_of c x.atom then without c xs else x ∷ without c xs

record IsShare (c : ℤ) (y : Atom) : Type 0 where
  pub share : ℕ
  pub value : Option ℤ
  pub is : Points c share value ≡ y

share_of : (c : ℤ) (y : Atom) → is_of c y ≡ true → IsShare c y
share_of c (Points l n v) e = record { share = n; value = v; is = ap (λ z. Points z n v) (equal c l e) }
share_of c (Init l) e = absurd (let f : false ≡ true = e in cc)
share_of c (Rel l i ys) e = absurd (let f : false ≡ true = e in cc)
share_of c (Acq l i ys q out) e = absurd (let f : false ≡ true = e in cc)
share_of c (RmwAcq l i ys) e = absurd (let f : false ≡ true = e in cc)
share_of c (Tok b n) e = absurd (let f : false ≡ true = e in cc)
share_of c (Auth b n) e = absurd (let f : false ≡ true = e in cc)

-- ---- what is asked for without them

-- who isn't a share of the cell asks for none
asks_none : (c : ℤ) (y : Atom) → is_of c y ≡ false → asked y (resource.Cell c) ≡ 0
asks_none c (Points l n v) e = only_elsewhere (resource.Cell l) (resource.Cell c) n (λ d. absurd (let f : c ≡ l = cc in let g = is_equal c l f in cc))
asks_none c (Init l) e = refl
asks_none c (Rel l i ys) e = refl
asks_none c (Acq l i ys q out) e = refl
asks_none c (RmwAcq l i ys) e = refl
asks_none c (Tok b n) e = refl
asks_none c (Auth b n) e = refl

-- a share of the cell asks for nothing else
asks_else : (c : ℤ) (y : Atom) (r : Resource) → is_of c y ≡ true → (resource.Cell c ≡ r → ⊥) → asked y r ≡ 0
asks_else c y r e h = let s = share_of c y e in subst (λ z. asked z r ≡ 0) s.is (only_elsewhere (resource.Cell c) r s.share h)

zero_by : (b : Bool) (n : ℕ) → n ≡ 0 → (if b then n else 0) ≡ 0
zero_by true n e = e
zero_by false n e = refl

line_zero : (n m : ℕ) → n ≡ 0 → m ≡ 0 → n + m ≡ 0
line_zero n m e d = omega arith

line_first : (n m k : ℕ) → n ≡ 0 → m ≡ k → m ≡ n + k
line_first n m k e d = omega arith

pub without_none : (c : ℤ) (a : Level) (xs : List Piece) → demand_at a (without c xs) (resource.Cell c) ≡ 0
without_none c a [] = refl
without_none c a (x ∷ xs) = by_case (is_of c x.atom) refl (without_none c a xs)
  where
    by_case : (b : Bool) → is_of c x.atom ≡ b → demand_at a (without c xs) (resource.Cell c) ≡ 0 → demand_at a (if b then without c xs else x ∷ without c xs) (resource.Cell c) ≡ 0
    by_case true e r = r
    by_case false e r =
        line_zero (asked_at a x (resource.Cell c)) (demand_at a (without c xs) (resource.Cell c)) (zero_by (same_level x.level a) (asked x.atom (resource.Cell c)) (asks_none c x.atom e)) r

pub without_demand : (c : ℤ) (a : Level) (r : Resource) (xs : List Piece) → (resource.Cell c ≡ r → ⊥) → demand_at a (without c xs) r ≡ demand_at a xs r
without_demand c a r [] h = refl
without_demand c a r (x ∷ xs) h = by_case (is_of c x.atom) refl (without_demand c a r xs h)
  where
    by_case : (b : Bool) → is_of c x.atom ≡ b → demand_at a (without c xs) r ≡ demand_at a xs r → demand_at a (if b then without c xs else x ∷ without c xs) r ≡ asked_at a x r + demand_at a xs r
    by_case true e d =
        line_first (asked_at a x r) (demand_at a (without c xs) r) (demand_at a xs r) (zero_by (same_level x.level a) (asked x.atom r) (asks_else c x.atom r e h)) d
    by_case false e d = ap (λ m. asked_at a x r + m) d

-- ---- what is said without them

pub first_without : {X : Type 0} (c : ℤ) (f : Atom → Option X) → ((y : Atom) → is_of c y ≡ true → f y ≡ None) → (xs : List Piece) → first f (without c xs) ≡ first f xs
first_without c f h [] = refl
first_without c f h (x ∷ xs) = by_case (is_of c x.atom) refl (first_without c f h xs)
  where
    by_case : (b : Bool) → is_of c x.atom ≡ b → first f (without c xs) ≡ first f xs → first f (if b then without c xs else x ∷ without c xs) ≡ or_else (f x.atom) (first f xs)
    by_case true e r = r ∙ sym (ap (λ o. or_else o (first f xs)) (h x.atom e))
    by_case false e r = ap (or_else (f x.atom)) r

if_no : {X : Type 0} (b : Bool) (o : Option X) → b ≡ false → (if b then o else None) ≡ None
if_no true o e = absurd (cc)
if_no false o e = refl

without_value : (c l : ℤ) (xs : List Piece) → (l ≡ c → ⊥) → value_in (without c xs) l ≡ value_in xs l
without_value c l xs h = value_first l (without c xs) ∙ first_without c (λ y. value_by y l) none xs ∙ sym (value_first l xs)
  where
    none : (y : Atom) → is_of c y ≡ true → value_by y l ≡ None
    none y e = let s = share_of c y e in subst (λ z. value_by z l ≡ None) s.is (if_no (int_eq l c) s.value (not_equal l c h))

without_out : (c l : ℤ) (part : ℕ) (xs : List Piece) → out_in (without c xs) l part ≡ out_in xs l part
without_out c l part xs = out_first l part (without c xs) ∙ first_without c (λ y. out_by y l part) none xs ∙ sym (out_first l part xs)
  where
    none : (y : Atom) → is_of c y ≡ true → out_by y l part ≡ None
    none y e = subst (λ z. out_by z l part ≡ None) (share_of c y e).is refl

without_count : (c : ℤ) (b : ℕ) (xs : List Piece) → count_in (without c xs) b ≡ count_in xs b
without_count c b xs = count_first b (without c xs) ∙ first_without c (λ y. count_by y b) none xs ∙ sym (count_first b xs)
  where
    none : (y : Atom) → is_of c y ≡ true → count_by y b ≡ None
    none y e = subst (λ z. count_by z b ≡ None) (share_of c y e).is refl

without_bank : (c b : ℤ) (xs : List Piece) → bank_in (without c xs) b ≡ bank_in xs b
without_bank c (pos b) xs =
    let n = without_count c b xs in
    let m : tokens_at (without c xs) (pos b) ≡ tokens_at xs (pos b) = without_demand c AtPlain (resource.Tokens b) xs (λ e. absurd (cc)) in
    ap (λ o. pos (or_this o (tokens_at (without c xs) (pos b)))) n ∙ ap (λ t. pos (or_this (count_in xs b) t)) m
without_bank c (negsuc b) xs = refl

without_knows : (c : ℤ) (q : Claim) (xs : List Piece) → knows_in (without c xs) q ≡ knows_in xs q
without_knows c q [] = refl
without_knows c q (x ∷ xs) = by_case (is_of c x.atom) refl (without_knows c q xs)
  where
    none : (y : Atom) → is_of c y ≡ true → says x.level y q ≡ false
    none y e = subst (λ z. says x.level z q ≡ false) (share_of c y e).is refl

    by_case : (b : Bool) → is_of c x.atom ≡ b → knows_in (without c xs) q ≡ knows_in xs q
        → knows_in (if b then without c xs else x ∷ without c xs) q ≡ (if says x.level x.atom q then true else knows_in xs q)
    by_case true e r = r ∙ sym (ap (λ t. if t then true else knows_in xs q) (none x.atom e))
    by_case false e r = ap (λ t. if says x.level x.atom q then true else t) r

right_without : (g : Graph) (done : List ℕ) (k : Known) (t : ℕ) (c : ℤ) (xs : List Piece) → RightPieces g done k t xs → RightPieces g done k t (without c xs)
right_without g done k t c [] p = tt
right_without g done k t c (x ∷ xs) p = by_case (is_of c x.atom) (right_without g done k t c xs p.1)
  where
    by_case : (b : Bool) → RightPieces g done k t (without c xs) → RightPieces g done k t (if b then without c xs else x ∷ without c xs)
    by_case true r = r
    by_case false r = (p.0, r)

-- ---- all of a cell

-- nothing of the cell is left
none_left : (c : ℤ) (r : Rung) (xs : List Piece) → heap_of (without c xs) (key.Cell r c) ≡ 0
none_left c Plain xs = without_none c AtPlain xs
none_left c Up xs = without_none c AtUp xs
none_left c Down xs = without_none c AtDown xs
none_left c Msg xs = refl

none_less : (n : ℕ) → n ≡ 0 → 1 ≤ n → ⊥
none_less n e h = omega arith

left_apart : (c l : ℤ) (r : Rung) (xs : List Piece) → 1 ≤ heap_of (without c xs) (key.Cell r l) → l ≡ c → ⊥
left_apart c l r xs h e = none_less (heap_of (without c xs) (key.Cell r l)) (subst (λ z. heap_of (without c xs) (key.Cell r z) ≡ 0) (sym e) (none_left c r xs)) h

without_kept : (c : ℤ) (xs : List Piece) → Kept xs (heap_of (without c xs)) (without c xs)
without_kept c xs = record { knows = record { more = λ q n k. without_knows c q xs ∙ k }; agrees = agrees }
  where
    agrees : Agrees (truth_of xs) (truth_of (without c xs)) (heap_of (without c xs))
    agrees = record {
      value = λ r l x h e. without_value c l xs (left_apart c l r xs h) ∙ e;
      out = λ l part h. ap (λ (o : Option (List ℤ)). or_this o []) (without_out c l part xs);
      bank = λ b h. without_bank c b xs;
    }

line_same : (n m : ℕ) → n ≡ m → m ≡ n + 0
line_same n m e = omega arith

abbrev shares_at : Level → List Piece → ℤ → ℕ
shares_at a xs l = demand_at a xs (resource.Cell l)

line_all : (p u d n : ℕ) → full ≤ p → p + (u + d) ≤ full → n ≡ 0 → p ≡ n + full
line_all p u d n h l e = omega arith

line_up : (p u d n : ℕ) → full ≤ p → p + (u + d) ≤ full → n ≡ 0 → u ≡ n + 0
line_up p u d n h l e = omega arith

line_down : (p u d n : ℕ) → full ≤ p → p + (u + d) ≤ full → n ≡ 0 → d ≡ n + 0
line_down p u d n h l e = omega arith

-- who has all shares of a cell at plain has none elsewhere, and of others as many as before
all_left : (c : ℤ) (xs : List Piece) → IsPossible xs → full ≤ shares_at AtPlain xs c → (k : Key) → heap_of xs k ≡ heap_of (without c xs) k + some_of (key.Cell Plain c) full k
all_left c xs p h = parts
  where
    most : shares_at AtPlain xs c + (shares_at AtUp xs c + shares_at AtDown xs c) ≤ full
    most = p.within (resource.Cell c)

    other : (a : Level) (l : ℤ) → int_eq c l ≡ false → shares_at a xs l ≡ shares_at a (without c xs) l + 0
    other a l e = line_same _ _ (without_demand c a (resource.Cell l) xs (λ d. absurd (let f : c ≡ l = cc in let g = is_equal c l f in cc)))

    at_plain : (l : ℤ) (b : Bool) → int_eq c l ≡ b → shares_at AtPlain xs l ≡ shares_at AtPlain (without c xs) l + (if b then full else 0)
    at_plain l true e =
        let all = line_all (shares_at AtPlain xs c) (shares_at AtUp xs c) (shares_at AtDown xs c) (shares_at AtPlain (without c xs) c) h most (without_none c AtPlain xs) in
        subst (λ z. shares_at AtPlain xs z ≡ shares_at AtPlain (without c xs) z + full) (equal c l e) all
    at_plain l false e = other AtPlain l e

    elsewhere : (a : Level) (l : ℤ) (b : Bool) → int_eq c l ≡ b → shares_at a xs c ≡ shares_at a (without c xs) c + 0 → shares_at a xs l ≡ shares_at a (without c xs) l + 0
    elsewhere a l true e none = subst (λ z. shares_at a xs z ≡ shares_at a (without c xs) z + 0) (equal c l e) none
    elsewhere a l false e none = other a l e

    at_up : shares_at AtUp xs c ≡ shares_at AtUp (without c xs) c + 0
    at_up = line_up (shares_at AtPlain xs c) (shares_at AtUp xs c) (shares_at AtDown xs c) (shares_at AtUp (without c xs) c) h most (without_none c AtUp xs)

    at_down : shares_at AtDown xs c ≡ shares_at AtDown (without c xs) c + 0
    at_down = line_down (shares_at AtPlain xs c) (shares_at AtUp xs c) (shares_at AtDown xs c) (shares_at AtDown (without c xs) c) h most (without_none c AtDown xs)

    parts : (k : Key) → heap_of xs k ≡ heap_of (without c xs) k + some_of (key.Cell Plain c) full k
    parts (key.Cell Plain l) = at_plain l (int_eq c l) refl
    parts (key.Cell Up l) = elsewhere AtUp l (int_eq c l) refl at_up
    parts (key.Cell Down l) = elsewhere AtDown l (int_eq c l) refl at_down
    parts (key.Cell Msg l) = refl
    parts (key.Permission l part) = line_same _ _ (without_demand c AtPlain (resource.Permission l part) xs (λ e. absurd (cc)))
    parts (key.Tokens (pos b)) = line_same _ _ (without_demand c AtPlain (resource.Tokens b) xs (λ e. absurd (cc)))
    parts (key.Tokens (negsuc b)) = refl
    parts (key.Bank (pos b)) = line_same _ _ (without_demand c AtPlain (resource.Bank b) xs (λ e. absurd (cc)))
    parts (key.Bank (negsuc b)) = refl

-- n shares of a cell in front of what asks for no more than was there
line_most : (n m k : ℕ) → m ≡ 0 → n ≤ k → n + m ≤ k
line_most n m k e h = omega arith

line_none : (n m k : ℕ) → n ≡ 0 → m ≡ k → n + m ≤ k
line_none n m k e d = omega arith

line_less : (m k : ℕ) → m ≡ 0 → 0 + m ≤ k
line_less m k e = omega arith

line_equal : (m k : ℕ) → m ≡ k → 0 + m ≤ k
line_equal m k e = omega arith

taken_enough : (c : ℤ) (xs : List Piece) (n : ℕ) (v : Option ℤ) → n ≤ shares_at AtPlain xs c → (a : Level) (r : Resource)
    → demand_at a (plain (Points c n v) ∷ without c xs) r ≤ demand_at a xs r
taken_enough c xs n v h a r = elim (same_resource (resource.Cell c) r) [
  | inl e ↦ subst (λ z. demand_at a (plain (Points c n v) ∷ without c xs) z ≤ demand_at a xs z) e (here a)
  | inr f ↦ there a f
]
  where
    here : (a : Level) → demand_at a (plain (Points c n v) ∷ without c xs) (resource.Cell c) ≤ shares_at a xs c
    here AtPlain =
        let l : only (resource.Cell c) n (resource.Cell c) ≤ shares_at AtPlain xs c = subst (λ m. m ≤ shares_at AtPlain xs c) (sym (only_here (resource.Cell c) n)) h in
        line_most (only (resource.Cell c) n (resource.Cell c)) (shares_at AtPlain (without c xs) c) (shares_at AtPlain xs c) (without_none c AtPlain xs) l
    here AtUp = line_less (shares_at AtUp (without c xs) c) (shares_at AtUp xs c) (without_none c AtUp xs)
    here AtDown = line_less (shares_at AtDown (without c xs) c) (shares_at AtDown xs c) (without_none c AtDown xs)

    there : (a : Level) → (resource.Cell c ≡ r → ⊥) → demand_at a (plain (Points c n v) ∷ without c xs) r ≤ demand_at a xs r
    there AtPlain f =
        let none = only_elsewhere (resource.Cell c) r n f in
        line_none (only (resource.Cell c) n r) (demand_at AtPlain (without c xs) r) (demand_at AtPlain xs r) none (without_demand c AtPlain r xs f)
    there AtUp f = line_equal (demand_at AtUp (without c xs) r) (demand_at AtUp xs r) (without_demand c AtUp r xs f)
    there AtDown f = line_equal (demand_at AtDown (without c xs) r) (demand_at AtDown xs r) (without_demand c AtDown r xs f)

-- the value that a list says of a cell is known where its pieces are right
value_known : (g : Graph) (done : List ℕ) (k : Known) (t : ℕ) (c : ℤ) (n : ℕ) (xs : List Piece) → 1 ≤ n → RightPieces g done k t xs → (o : Option ℤ) → value_in xs c ≡ o → Says k (Points c n o)
value_known g done k t c n xs l p None e = l
value_known g done k t c n xs l p (Some v) e = (l, value_said k c v xs (all_say g done k t xs p) e)

one_full : 1 ≤ full
one_full = omega arith

pub cell_is_taken : CellIsTaken
cell_is_taken c xs p h = record {
  old = value_in xs c;
  rest = without c xs;
  gives = record {
    enough = taken_enough c xs full (value_in xs c) h;
    right = λ g done k t r. (value_known g done k t c full xs one_full r (value_in xs c) refl, right_without g done k t c xs r);
  };
  left = all_left c xs p h;
  kept = without_kept c xs;
}

line_fewer : (n m k : ℕ) → n + m ≤ k → n + 0 ≤ k
line_fewer n m k h = omega arith

pub cell_is_read : CellIsRead
cell_is_read c v xs p h e = record {
  share = 1;
  owns = record {
    enough = λ a r. line_fewer (asked_at a (plain (Points c 1 (Some v))) r) (demand_at a (without c xs) r) (demand_at a xs r) (taken_enough c xs 1 (Some v) h a r);
    right = λ g done k t r. (value_known g done k t c 1 xs (omega arith) r (Some v) e, tt);
  };
}
