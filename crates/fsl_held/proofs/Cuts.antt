-- A list of pieces in two: of each resource so much as is asked for, piece by piece, and the rest. A share of a cell
-- takes along the value that the whole list says of it; what is known for good goes to both sides.
use Rattle.std.proofs.Common.{◌≡◌, ◌≤◌, ◌+◌, ◌-◌, ℕ, zero, suc, Bool, true, false, List, [], ◌∷◌, Option, ℤ, refl, sym, ap, subst, ◌∙◌, arith, if◌then◌else◌}
use Rattle.fsl_own.specs.Owning.{Resource, Cell, Permission, Tokens, Bank, same, Heap, only}
use Rattle.fsl_own.specs.Atoms.{Atom, Points, Init, Rel, Acq, RmwAcq, Tok, Auth, asked}
use Rattle.fsl_own.proofs.Totals.{same_true}
use Rattle.fsl_good.specs.Pieces.{Level, AtPlain, same_level, Piece, level_at, asked_at, demand_at}

-- ---- what an atom has a part of

-- what is known for good has no part of its resource
abbrev pub kind_of : Atom → Resource
kind_of (Points c n v) = Cell c
kind_of (Init l) = Cell l
kind_of (Rel l inv args) = Permission l 0
kind_of (Acq l inv args p out) = Permission l p
kind_of (RmwAcq l inv args) = Permission l 0
kind_of (Tok b n) = Tokens b
kind_of (Auth b n) = Bank b

abbrev pub size : Atom → ℕ
size (Points c n v) = n
size (Init l) = 0
size (Rel l inv args) = 0
size (Acq l inv args p out) = 1
size (RmwAcq l inv args) = 0
size (Tok b n) = n
size (Auth b n) = 1

-- where a resource is taken from
abbrev pub level_of : Level → Resource → Level
level_of a (Cell c) = a
level_of a (Permission l p) = AtPlain
level_of a (Tokens b) = AtPlain
level_of a (Bank b) = AtPlain

pub level_is : (a : Level) (x : Atom) → level_at a x ≡ level_of a (kind_of x)
level_is a (Points c n v) = refl
level_is a (Init l) = refl
level_is a (Rel l inv args) = refl
level_is a (Acq l inv args p out) = refl
level_is a (RmwAcq l inv args) = refl
level_is a (Tok b n) = refl
level_is a (Auth b n) = refl

-- ---- a part

abbrev pub Values : Type 0
Values = ℤ → Option ℤ

abbrev pub sized : Values → Atom → ℕ → Atom
sized f (Points c n v) m = Points c m (f c)
sized f (Init l) m = Init l
sized f (Rel l inv args) m = Rel l inv args
sized f (Acq l inv args p out) m = Acq l inv args p out
sized f (RmwAcq l inv args) m = RmwAcq l inv args
sized f (Tok b n) m = Tok b m
sized f (Auth b n) m = Auth b n

-- so much of an atom, in front of others; no share of nothing comes to be
abbrev pub part : Values → Level → Atom → ℕ → List Piece → List Piece
part f a (Points c n v) zero zs = zs
part f a (Points c n v) (suc m) zs = record { level = a; atom = Points c (suc m) (f c) } ∷ zs
part f a (Init l) m zs = record { level = a; atom = Init l } ∷ zs
part f a (Rel l inv args) m zs = record { level = a; atom = Rel l inv args } ∷ zs
part f a (Acq l inv args p out) zero zs = zs
part f a (Acq l inv args p out) (suc m) zs = record { level = a; atom = Acq l inv args p out } ∷ zs
part f a (RmwAcq l inv args) m zs = record { level = a; atom = RmwAcq l inv args } ∷ zs
part f a (Tok b n) m zs = record { level = a; atom = Tok b m } ∷ zs
part f a (Auth b n) zero zs = zs
part f a (Auth b n) (suc m) zs = record { level = a; atom = Auth b n } ∷ zs

abbrev pub part_if : Bool → Values → Piece → ℕ → List Piece → List Piece
part_if true f x m zs = part f x.level x.atom m zs
part_if false f x m zs = zs

-- ---- both sides

abbrev pub is_placed : Level → Piece → Bool
is_placed a x = same_level x.level (level_at a x.atom)

-- what is asked for, as far as it is here
abbrev pub taken : Bool → ℕ → ℕ → ℕ
taken true n m = n - (n - m)
taken false n m = 0

abbrev pub take_of : Level → Heap → Piece → ℕ
take_of a d x = taken (is_placed a x) (size x.atom) (d (kind_of x.atom))

abbrev pub less : Level → Heap → Piece → Heap
less a d x = λ r. d r - only (kind_of x.atom) (take_of a d x) r

abbrev pub given : Values → Level → Heap → List Piece → List Piece
given f a d [] = []
given f a d (x ∷ xs) = part_if (is_placed a x) f x (take_of a d x) (given f a (less a d x) xs)

abbrev pub rest : Values → Level → Heap → List Piece → List Piece
rest f a d [] = []
rest f a d (x ∷ xs) = part f x.level x.atom (size x.atom - take_of a d x) (rest f a (less a d x) xs)

-- ---- how much it is

only_by : (b : Bool) → ◌≡◌ {A = ℕ} (if b then 0 else 0) 0
only_by true = refl
only_by false = refl

pub asked_is : (x : Atom) (r : Resource) → asked x r ≡ only (kind_of x) (size x) r
asked_is (Points c n v) r = refl
asked_is (Init l) r = sym (only_by (same (Cell l) r))
asked_is (Rel l inv args) r = sym (only_by (same (Permission l 0) r))
asked_is (Acq l inv args p out) r = refl
asked_is (RmwAcq l inv args) r = sym (only_by (same (Permission l 0) r))
asked_is (Tok b n) r = refl
asked_is (Auth b n) r = refl

-- n of a resource at a level
abbrev amount : Bool → Resource → ℕ → Heap
amount b k n r = if b then only k n r else 0

amount_by : (b c : Bool) → ◌≡◌ {A = ℕ} (if b then if c then 0 else 0 else 0) 0
amount_by true c = only_by c
amount_by false c = refl

amount_none : (b : Bool) (k : Resource) (m : ℕ) (r : Resource) → m ≡ 0 → amount b k m r ≡ 0
amount_none b k m r e = ap (λ n. amount b k n r) e ∙ amount_by b (same k r)

sum_by : (b c : Bool) (m n t : ℕ) → m + n ≡ t → (if b then if c then m else 0 else 0) + (if b then if c then n else 0 else 0) ≡ (if b then if c then t else 0 else 0)
sum_by true true m n t e = e
sum_by true false m n t e = omega arith
sum_by false c m n t e = omega arith

amount_sum : (b : Bool) (k r : Resource) (m n t : ℕ) → m + n ≡ t → amount b k m r + amount b k n r ≡ amount b k t r
amount_sum b k r m n t e = sum_by b (same k r) m n t e

-- none of what has no part
no_part : (b : Bool) (k r : Resource) (m h : ℕ) → m ≤ 0 → (if b then 0 else 0) + h ≡ amount b k m r + h
no_part b k r m h l = let e : m ≡ 0 = omega arith in let z = amount_none b k m r e in let y = only_by b in omega (arith, z, y)

empty_part : (b : Bool) (k r : Resource) (h : ℕ) → h ≡ amount b k 0 r + h
empty_part b k r h = let z = amount_none b k 0 r refl in omega (arith, z)

one_part : (b : Bool) (k r : Resource) (m h : ℕ) → suc m ≤ 1 → amount b k 1 r + h ≡ amount b k (suc m) r + h
one_part b k r m h l = let e : 1 ≡ suc m = omega arith in ap (λ n. amount b k n r + h) e

part_demand : (f : Values) (a : Level) (x : Atom) (m : ℕ) (zs : List Piece) (b : Level) (r : Resource) → m ≤ size x
    → demand_at b (part f a x m zs) r ≡ amount (same_level a b) (kind_of x) m r + demand_at b zs r
part_demand f a (Points c n v) zero zs b r l = empty_part (same_level a b) (Cell c) r (demand_at b zs r)
part_demand f a (Points c n v) (suc m) zs b r l = refl
part_demand f a (Init c) m zs b r l = no_part (same_level a b) (Cell c) r m (demand_at b zs r) l
part_demand f a (Rel c inv args) m zs b r l = no_part (same_level a b) (Permission c 0) r m (demand_at b zs r) l
part_demand f a (Acq c inv args p out) zero zs b r l = empty_part (same_level a b) (Permission c p) r (demand_at b zs r)
part_demand f a (Acq c inv args p out) (suc m) zs b r l = one_part (same_level a b) (Permission c p) r m (demand_at b zs r) l
part_demand f a (RmwAcq c inv args) m zs b r l = no_part (same_level a b) (Permission c 0) r m (demand_at b zs r) l
part_demand f a (Tok c n) m zs b r l = refl
part_demand f a (Auth c n) zero zs b r l = empty_part (same_level a b) (Bank c) r (demand_at b zs r)
part_demand f a (Auth c n) (suc m) zs b r l = one_part (same_level a b) (Bank c) r m (demand_at b zs r) l

taken_none : (c : Bool) (n m : ℕ) → c ≡ false → taken c n m ≡ 0
taken_none true n m e = absurd (cc)
taken_none false n m e = refl

taken_most : (c : Bool) (n m : ℕ) → taken c n m ≤ n
taken_most true n m = omega arith
taken_most false n m = omega arith

part_if_demand : (c : Bool) (f : Values) (x : Piece) (m : ℕ) (zs : List Piece) (b : Level) (r : Resource) → m ≤ size x.atom → (c ≡ false → m ≡ 0)
    → demand_at b (part_if c f x m zs) r ≡ amount (same_level x.level b) (kind_of x.atom) m r + demand_at b zs r
part_if_demand true f x m zs b r l z = part_demand f x.level x.atom m zs b r l
part_if_demand false f x m zs b r l z = let e = amount_none (same_level x.level b) (kind_of x.atom) m r (z refl) in omega (arith, e)

-- of a piece in front
asked_here : (b : Level) (x : Piece) (r : Resource) → asked_at b x r ≡ amount (same_level x.level b) (kind_of x.atom) (size x.atom) r
asked_here b x r = ap (λ n. if same_level x.level b then n else 0) (asked_is x.atom r)

given_demand : (f : Values) (a : Level) (d : Heap) (x : Piece) (xs : List Piece) (b : Level) (r : Resource)
    → demand_at b (given f a d (x ∷ xs)) r ≡ amount (same_level x.level b) (kind_of x.atom) (take_of a d x) r + demand_at b (given f a (less a d x) xs) r
given_demand f a d x xs b r =
    part_if_demand (is_placed a x) f x (take_of a d x) (given f a (less a d x) xs) b r (taken_most (is_placed a x) (size x.atom) (d (kind_of x.atom)))
    (taken_none (is_placed a x) (size x.atom) (d (kind_of x.atom)))

-- both sides together are what was there
pub cut_sum : (f : Values) (a : Level) (d : Heap) (xs : List Piece) (b : Level) (r : Resource) → demand_at b (given f a d xs) r + demand_at b (rest f a d xs) r ≡ demand_at b xs r
cut_sum f a d [] b r = omega arith
cut_sum f a d (x ∷ xs) b r =
    let t = take_of a d x in
    let most : t ≤ size x.atom = taken_most (is_placed a x) (size x.atom) (d (kind_of x.atom)) in
    let g = given_demand f a d x xs b r in
    let k = part_demand f x.level x.atom (size x.atom - t) (rest f a (less a d x) xs) b r (omega arith) in
    let s = amount_sum (same_level x.level b) (kind_of x.atom) r t (size x.atom - t) (size x.atom) (omega (arith, most)) in
    let e = asked_here b x r in
    let i = cut_sum f a (less a d x) xs b r in
    omega (arith, g, k, s, e, i)

-- ---- what is given is what is asked for

-- t of n are taken where m are asked for, with h behind
taking : (s c : Bool) (n t m h g : ℕ) → (s ≡ true → t ≡ taken c n m) → m ≤ (if c then if s then n else 0 else 0) + h → (m - (if s then t else 0) ≤ h → g ≡ m - (if s then t else 0))
    → (if c then if s then t else 0 else 0) + g ≡ m
taking true true n t m h g e l i = let q : t ≡ n - (n - m) = e refl in let j = i (omega (arith, q, l)) in omega (arith, q, l, j)
taking true false n t m h g e l i = let q : t ≡ 0 = e refl in let j = i (omega (arith, q, l)) in omega (arith, q, l, j)
taking false true n t m h g e l i = let j = i (omega (arith, l)) in omega (arith, l, j)
taking false false n t m h g e l i = let j = i (omega (arith, l)) in omega (arith, l, j)

take_same : (a : Level) (d : Heap) (x : Piece) (r : Resource) → kind_of x.atom ≡ r → take_of a d x ≡ taken (same_level x.level (level_of a r)) (size x.atom) (d r)
take_same a d x r e = ap (λ l. taken (same_level x.level l) (size x.atom) (d (kind_of x.atom))) (level_is a x.atom) ∙ ap (λ q. taken (same_level x.level (level_of a q)) (size x.atom) (d q)) e

pub given_is : (f : Values) (a : Level) (d : Heap) (xs : List Piece) (r : Resource) → d r ≤ demand_at (level_of a r) xs r → demand_at (level_of a r) (given f a d xs) r ≡ d r
given_is f a d [] r l = omega arith
given_is f a d (x ∷ xs) r l =
    let g = given_demand f a d x xs (level_of a r) r in
    let e = asked_here (level_of a r) x r in
    g ∙ taking (same (kind_of x.atom) r) (same_level x.level (level_of a r)) (size x.atom) (take_of a d x) (d r)
    (demand_at (level_of a r) xs r) (demand_at (level_of a r) (given f a (less a d x) xs) r)
    (λ s. take_same a d x r (same_true (kind_of x.atom) r s)) (subst (λ n. d r ≤ n + demand_at (level_of a r) xs r) e l) (λ m. given_is f a (less a d x) xs r m)
