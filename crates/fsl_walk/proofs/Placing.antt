-- Atoms that stand at another level: they say the same, own the same there, and are possible as they were.
use Rattle.std.proofs.Common.{◌≡◌, ℕ, ◌+◌, ◌≤◌, Bool, true, false, if◌then◌else◌, List, [], ◌∷◌, ◌++◌, Option, ℤ, pos, negsuc, refl, sym, ap, ◌∙◌, arith}
use Rattle.std.specs.Ordering.{int_eq}
use Rattle.std.proofs.lemmas.Bool.{and_parts, and_from}
use Rattle.fsl_core.specs.declared.mode.Rung.{Rung}
use Rattle.fsl_core.specs.declared.mode.Rung.TheVariants.{Plain, Up, Down, Msg}
use Rattle.fsl_meaning.specs.Heaps.{Key, Key as key, Claim, Claim as claim}
use Rattle.fsl_asserted.specs.Carried.{moved, claim_at}
use Rattle.fsl_own.specs.Owning.{Resource, Resource as resource, Known, limit}
use Rattle.fsl_own.specs.Atoms.{Atom, Points, Init, Rel, Acq, RmwAcq, Tok, Auth, asked, demand}
use Rattle.fsl_good.specs.Pieces.{Level, AtPlain, AtUp, AtDown, same_level, Piece, placed, level_at, all_placed, demand_at, asked_at, AllSay, IsPossible}
use Rattle.fsl_good.specs.Good.{raised_level, raised}
use Rattle.fsl_good.proofs.Pieces.{placed_cells}
use Rattle.fsl_held.specs.Heaps.{heap_of, truth_of, or_else, or_this, value_by, value_in, out_by, out_in, count_by, count_in, tokens_at, bank_in, is_at, says, knows_in}
use Rattle.fsl_held.specs.Parts.{rung_of}
use Rattle.fsl_walk.proofs.Agreeing.{AgreesAt}

-- ---- what they say

value_placed : (a b : Level) (ys : List Atom) (l : ℤ) → value_in (all_placed a ys) l ≡ value_in (all_placed b ys) l
value_placed a b [] l = refl
value_placed a b (y ∷ ys) l = ap (λ (o : Option ℤ). or_else (value_by y l) o) (value_placed a b ys l)

out_placed : (a b : Level) (ys : List Atom) (l : ℤ) (p : ℕ) → out_in (all_placed a ys) l p ≡ out_in (all_placed b ys) l p
out_placed a b [] l p = refl
out_placed a b (y ∷ ys) l p = ap (λ (o : Option (List ℤ)). or_else (out_by y l p) o) (out_placed a b ys l p)

count_placed : (a b : Level) (ys : List Atom) (c : ℕ) → count_in (all_placed a ys) c ≡ count_in (all_placed b ys) c
count_placed a b [] c = refl
count_placed a b (y ∷ ys) c = ap (λ (o : Option ℕ). or_else (count_by y c) o) (count_placed a b ys c)

-- ---- what they own

if_none : (b : Bool) → ◌≡◌ {A = ℕ} (if b then 0 else 0) 0
if_none true = refl
if_none false = refl

-- what isn't a cell is plain at each level
abbrev NoCell : Resource → Type 0
NoCell (resource.Cell c) = ⊥
NoCell _ = Unit {0}

other_one : (a b : Level) (y : Atom) (r : Resource) → NoCell r → asked_at AtPlain (placed a y) r ≡ asked_at AtPlain (placed b y) r
other_one a b y (resource.Cell c) free = absurd free
other_one a b (Points c n v) (resource.Permission l p) free = if_none (same_level a AtPlain) ∙ sym (if_none (same_level b AtPlain))
other_one a b (Points c n v) (resource.Tokens d) free = if_none (same_level a AtPlain) ∙ sym (if_none (same_level b AtPlain))
other_one a b (Points c n v) (resource.Bank d) free = if_none (same_level a AtPlain) ∙ sym (if_none (same_level b AtPlain))
other_one a b (Init l) r free = if_none (same_level a AtPlain) ∙ sym (if_none (same_level b AtPlain))
other_one a b (Rel l i xs) r free = refl
other_one a b (Acq l i xs p o) r free = refl
other_one a b (RmwAcq l i xs) r free = refl
other_one a b (Tok c n) r free = refl
other_one a b (Auth c n) r free = refl

line_plus : (a b c d : ℕ) → a ≡ b → c ≡ d → a + c ≡ b + d
line_plus a b c d p q = omega arith

other_placed : (a b : Level) (ys : List Atom) (r : Resource) → NoCell r → demand_at AtPlain (all_placed a ys) r ≡ demand_at AtPlain (all_placed b ys) r
other_placed a b [] r free = refl
other_placed a b (y ∷ ys) r free =
    line_plus (asked_at AtPlain (placed a y) r) (asked_at AtPlain (placed b y) r) (demand_at AtPlain (all_placed a ys) r) (demand_at AtPlain (all_placed b ys) r) (other_one a b y r free)
    (other_placed a b ys r free)

tokens_placed : (a b : Level) (ys : List Atom) (c : ℤ) → tokens_at (all_placed a ys) c ≡ tokens_at (all_placed b ys) c
tokens_placed a b ys (pos c) = other_placed a b ys (resource.Tokens c) tt
tokens_placed a b ys (negsuc c) = refl

bank_placed : (a b : Level) (ys : List Atom) (c : ℤ) → bank_in (all_placed a ys) c ≡ bank_in (all_placed b ys) c
bank_placed a b ys (pos c) =
    ap (λ (o : Option ℕ). pos (or_this o (tokens_at (all_placed a ys) (pos c)))) (count_placed a b ys c)
    ∙ ap (λ (n : ℕ). pos (or_this (count_in (all_placed b ys) c) n)) (tokens_placed a b ys (pos c))
bank_placed a b ys (negsuc c) = refl

pub placed_agrees : (a b : Level) (ys : List Atom) (k : Key) → AgreesAt (truth_of (all_placed a ys)) (truth_of (all_placed b ys)) k
placed_agrees a b ys (key.Cell r l) = λ x is. value_placed b a ys l ∙ is
placed_agrees a b ys (key.Permission l p) = ap (λ (o : Option (List ℤ)). or_this o []) (out_placed b a ys l p)
placed_agrees a b ys (key.Tokens c) = tt
placed_agrees a b ys (key.Bank c) = bank_placed b a ys c

pub cells_placed : (a : Level) (ys : List Atom) (l : ℤ) → heap_of (all_placed a ys) (key.Cell (rung_of a) l) ≡ demand ys (resource.Cell l)
cells_placed AtPlain ys l = placed_cells AtPlain ys l
cells_placed AtUp ys l = placed_cells AtUp ys l
cells_placed AtDown ys l = placed_cells AtDown ys l

line_at_most : (a b : ℕ) → a ≡ b → a ≤ b
line_at_most a b e = omega arith

line_nothing : (a : ℕ) → 0 ≤ a
line_nothing a = omega arith

cells_moved : (a b : Level) (ys : List Atom) (r : Rung) (l : ℤ) → moved (rung_of a) (rung_of b) (heap_of (all_placed a ys)) (key.Cell r l) ≤ heap_of (all_placed b ys) (key.Cell r l)
cells_moved a b ys r l = by_level b r
  where
    same : (b : Level) → heap_of (all_placed a ys) (key.Cell (rung_of a) l) ≤ heap_of (all_placed b ys) (key.Cell (rung_of b) l)
    same b = line_at_most (heap_of (all_placed a ys) (key.Cell (rung_of a) l)) (heap_of (all_placed b ys) (key.Cell (rung_of b) l)) (cells_placed a ys l ∙ sym (cells_placed b ys l))

    by_level : (b : Level) (r : Rung) → moved (rung_of a) (rung_of b) (heap_of (all_placed a ys)) (key.Cell r l) ≤ heap_of (all_placed b ys) (key.Cell r l)
    by_level AtPlain Plain = same AtPlain
    by_level AtPlain Up = line_nothing (heap_of (all_placed AtPlain ys) (key.Cell Up l))
    by_level AtPlain Down = line_nothing (heap_of (all_placed AtPlain ys) (key.Cell Down l))
    by_level AtPlain Msg = line_nothing (heap_of (all_placed AtPlain ys) (key.Cell Msg l))
    by_level AtUp Plain = line_nothing (heap_of (all_placed AtUp ys) (key.Cell Plain l))
    by_level AtUp Up = same AtUp
    by_level AtUp Down = line_nothing (heap_of (all_placed AtUp ys) (key.Cell Down l))
    by_level AtUp Msg = line_nothing (heap_of (all_placed AtUp ys) (key.Cell Msg l))
    by_level AtDown Plain = line_nothing (heap_of (all_placed AtDown ys) (key.Cell Plain l))
    by_level AtDown Up = line_nothing (heap_of (all_placed AtDown ys) (key.Cell Up l))
    by_level AtDown Down = same AtDown
    by_level AtDown Msg = line_nothing (heap_of (all_placed AtDown ys) (key.Cell Msg l))

banks_placed : (a b : Level) (ys : List Atom) (c : ℤ) → heap_of (all_placed a ys) (key.Bank c) ≡ heap_of (all_placed b ys) (key.Bank c)
banks_placed a b ys (pos c) = other_placed a b ys (resource.Bank c) tt
banks_placed a b ys (negsuc c) = refl

-- what atoms own at one level, they own at the other
pub moved_placed : (a b : Level) (ys : List Atom) (k : Key) → moved (rung_of a) (rung_of b) (heap_of (all_placed a ys)) k ≤ heap_of (all_placed b ys) k
moved_placed a b ys (key.Cell r l) = cells_moved a b ys r l
moved_placed a b ys (key.Permission l p) =
    line_at_most (heap_of (all_placed a ys) (key.Permission l p)) (heap_of (all_placed b ys) (key.Permission l p)) (other_placed a b ys (resource.Permission l p) tt)
moved_placed a b ys (key.Tokens c) = line_at_most (tokens_at (all_placed a ys) c) (tokens_at (all_placed b ys) c) (tokens_placed a b ys c)
moved_placed a b ys (key.Bank c) = line_at_most (heap_of (all_placed a ys) (key.Bank c)) (heap_of (all_placed b ys) (key.Bank c)) (banks_placed a b ys c)

-- ---- what is known by them

pub at_rung : (b : Level) → is_at b (rung_of b) ≡ true
at_rung AtPlain = refl
at_rung AtUp = refl
at_rung AtDown = refl

says_placed : (a b : Level) (y : Atom) (c : Claim) → says (level_at a y) y c ≡ true → says (level_at b y) y (claim_at (rung_of b) c) ≡ true
says_placed a b (Init l) (claim.IsInit r m) h = let p = and_parts (is_at a r) (int_eq l m) h in and_from (is_at b (rung_of b)) (int_eq l m) (at_rung b) p.1
says_placed a b (Init l) (claim.MayWrite m i xs) h = absurd (let e : false ≡ true = h in cc)
says_placed a b (Init l) (claim.MayRead m i xs) h = absurd (let e : false ≡ true = h in cc)
says_placed a b (Init l) (claim.MayUpdate m i xs) h = absurd (let e : false ≡ true = h in cc)
says_placed a b (Rel l j ys) (claim.MayWrite m i xs) h = h
says_placed a b (Rel l j ys) (claim.IsInit r m) h = absurd (let e : false ≡ true = h in cc)
says_placed a b (Rel l j ys) (claim.MayRead m i xs) h = absurd (let e : false ≡ true = h in cc)
says_placed a b (Rel l j ys) (claim.MayUpdate m i xs) h = absurd (let e : false ≡ true = h in cc)
says_placed a b (Acq l j ys p o) (claim.MayRead m i xs) h = h
says_placed a b (Acq l j ys p o) (claim.IsInit r m) h = absurd (let e : false ≡ true = h in cc)
says_placed a b (Acq l j ys p o) (claim.MayWrite m i xs) h = absurd (let e : false ≡ true = h in cc)
says_placed a b (Acq l j ys p o) (claim.MayUpdate m i xs) h = absurd (let e : false ≡ true = h in cc)
says_placed a b (RmwAcq l j ys) (claim.MayUpdate m i xs) h = h
says_placed a b (RmwAcq l j ys) (claim.IsInit r m) h = absurd (let e : false ≡ true = h in cc)
says_placed a b (RmwAcq l j ys) (claim.MayWrite m i xs) h = absurd (let e : false ≡ true = h in cc)
says_placed a b (RmwAcq l j ys) (claim.MayRead m i xs) h = absurd (let e : false ≡ true = h in cc)
says_placed a b (Points l n v) c h = absurd (let e : false ≡ true = h in cc)
says_placed a b (Tok l n) c h = absurd (let e : false ≡ true = h in cc)
says_placed a b (Auth l n) c h = absurd (let e : false ≡ true = h in cc)

pub knows_placed : (a b : Level) (ys : List Atom) (c : Claim) → knows_in (all_placed a ys) c ≡ true → knows_in (all_placed b ys) (claim_at (rung_of b) c) ≡ true
knows_placed a b [] c h = absurd (let e : false ≡ true = h in cc)
knows_placed a b (y ∷ ys) c h = by_case (says (level_at a y) y c) refl h (knows_placed a b ys c)
  where
    first : (d : Bool) → d ≡ true → (if d then true else knows_in (all_placed b ys) (claim_at (rung_of b) c)) ≡ true
    first true e = refl
    first false e = absurd (cc)

    last : (d : Bool) → knows_in (all_placed b ys) (claim_at (rung_of b) c) ≡ true → (if d then true else knows_in (all_placed b ys) (claim_at (rung_of b) c)) ≡ true
    last true e = refl
    last false e = e

    by_case : (d : Bool) → says (level_at a y) y c ≡ d → (if d then true else knows_in (all_placed a ys) c) ≡ true
        → (knows_in (all_placed a ys) c ≡ true → knows_in (all_placed b ys) (claim_at (rung_of b) c) ≡ true) → knows_in (all_placed b (y ∷ ys)) (claim_at (rung_of b) c) ≡ true
    by_case true e f more = first (says (level_at b y) y (claim_at (rung_of b) c)) (says_placed a b y c e)
    by_case false e f more = last (says (level_at b y) y (claim_at (rung_of b) c)) (more f)

-- ---- what was at down is plain

raised_one : (y : Atom) → record { level = raised_level (level_at AtDown y); atom = y } ≡ placed AtPlain y
raised_one (Points c n v) = refl
raised_one (Init l) = refl
raised_one (Rel l i xs) = refl
raised_one (Acq l i xs p o) = refl
raised_one (RmwAcq l i xs) = refl
raised_one (Tok c n) = refl
raised_one (Auth c n) = refl

pub raised_placed : (ys : List Atom) → raised (all_placed AtDown ys) ≡ all_placed AtPlain ys
raised_placed [] = refl
raised_placed (y ∷ ys) = λ i. raised_one y i ∷ raised_placed ys i

-- ---- they are possible as they were

-- all that pieces ask for, at any level
abbrev asked_in : List Piece → Resource → ℕ
asked_in [] r = 0
asked_in (x ∷ xs) r = asked x.atom r + asked_in xs r

abbrev total_in : List Piece → Resource → ℕ
total_in xs r = demand_at AtPlain xs r + (demand_at AtUp xs r + demand_at AtDown xs r)

at_one : (b : Level) (n : ℕ) → (if same_level b AtPlain then n else 0) + ((if same_level b AtUp then n else 0) + (if same_level b AtDown then n else 0)) ≡ n
at_one AtPlain n = omega arith
at_one AtUp n = omega arith
at_one AtDown n = omega arith

line_total : (a b c d e f n m : ℕ) → a + (b + c) ≡ n → d + (e + f) ≡ m → (a + d) + ((b + e) + (c + f)) ≡ n + m
line_total a b c d e f n m p q = omega arith

total_is : (xs : List Piece) (r : Resource) → total_in xs r ≡ asked_in xs r
total_is [] r = omega arith
total_is (x ∷ xs) r =
    line_total (asked_at AtPlain x r) (asked_at AtUp x r) (asked_at AtDown x r) (demand_at AtPlain xs r) (demand_at AtUp xs r) (demand_at AtDown xs r) (asked x.atom r) (asked_in xs r)
    (at_one x.level (asked x.atom r)) (total_is xs r)

line_assoc : (a b c d : ℕ) → d ≡ b + c → a + d ≡ (a + b) + c
line_assoc a b c d e = omega arith

asked_more : (xs ys : List Piece) (r : Resource) → asked_in (xs ++ ys) r ≡ asked_in xs r + asked_in ys r
asked_more [] ys r = omega arith
asked_more (x ∷ xs) ys r = line_assoc (asked x.atom r) (asked_in xs r) (asked_in ys r) (asked_in (xs ++ ys) r) (asked_more xs ys r)

asked_placed : (a b : Level) (ys : List Atom) (r : Resource) → asked_in (all_placed a ys) r ≡ asked_in (all_placed b ys) r
asked_placed a b [] r = refl
asked_placed a b (y ∷ ys) r = ap (λ (n : ℕ). asked y r + n) (asked_placed a b ys r)

pub say_first : (k : Known) (xs ys : List Piece) → AllSay k (xs ++ ys) → AllSay k xs
say_first k [] ys s = tt
say_first k (x ∷ xs) ys s = (s.0, say_first k xs ys s.1)

pub say_last : (k : Known) (xs ys : List Piece) → AllSay k (xs ++ ys) → AllSay k ys
say_last k [] ys s = s
say_last k (x ∷ xs) ys s = say_last k xs ys s.1

pub say_more : (k : Known) (xs ys : List Piece) → AllSay k xs → AllSay k ys → AllSay k (xs ++ ys)
say_more k [] ys s t = t
say_more k (x ∷ xs) ys s t = (s.0, say_more k xs ys s.1 t)

say_placed : (k : Known) (a b : Level) (ys : List Atom) → AllSay k (all_placed a ys) → AllSay k (all_placed b ys)
say_placed k a b [] s = tt
say_placed k a b (y ∷ ys) s = (s.0, say_placed k a b ys s.1)

line_turned : (t u p q r s m : ℕ) → t ≡ u → u ≡ q + p → s ≡ r → r ≡ p + q → s ≤ m → t ≤ m
line_turned t u p q r s m a b c d l = omega arith

-- atoms at another level, behind the others
pub possible_turned : (a b : Level) (ys : List Atom) (rest : List Piece) → IsPossible (all_placed a ys ++ rest) → IsPossible (rest ++ all_placed b ys)
possible_turned a b ys rest p = record {
  known = p.known;
  within = λ r.
      line_turned (total_in (rest ++ all_placed b ys) r) (asked_in (rest ++ all_placed b ys) r) (asked_in (all_placed a ys) r) (asked_in rest r) (asked_in (all_placed a ys ++ rest) r)
      (total_in (all_placed a ys ++ rest) r) (limit p.known r)
      (total_is (rest ++ all_placed b ys) r) (asked_more rest (all_placed b ys) r ∙ ap (λ (n : ℕ). asked_in rest r + n) (asked_placed b a ys r))
      (total_is (all_placed a ys ++ rest) r) (asked_more (all_placed a ys) rest r) (p.within r);
  agree = say_more p.known rest (all_placed b ys) (say_last p.known (all_placed a ys) rest p.agree) (say_placed p.known a b ys (say_first p.known (all_placed a ys) rest p.agree));
}
