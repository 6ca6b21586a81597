-- What is so of each piece of both sides of a cut, since each is a part of a piece that was there: it is right, it stands
-- where it was placed, and what is known for good is known on both sides.
use Rattle.std.proofs.Common.{◌≡◌, ◌≤◌, ℕ, zero, suc, Bool, true, false, inl, inr, List, [], ◌∷◌, Option, Some, None, ℤ, refl, sym, ap, subst, ◌∙◌, arith, if◌then◌else◌}
use Rattle.std.specs.Ordering.{int_eq}
use Rattle.std.proofs.lemmas.Bool.{and_parts}
use Rattle.fsl_core.specs.declared.mode.Rung.{Rung}
use Rattle.fsl_core.specs.declared.mode.Rung.TheVariants.{Plain}
use Rattle.fsl_meaning.specs.Heaps.{Claim, IsInit, MayWrite, MayRead, MayUpdate}
use Rattle.fsl_meaning.proofs.Heaps.{same_rung_is}
use Rattle.fsl_graph.specs.declared.graph.Graph.{Graph}
use Rattle.fsl_graph.specs.Positions.{Holder}
use Rattle.fsl_own.specs.Owning.{Resource, Heap, Known}
use Rattle.fsl_own.specs.Atoms.{Atom, Points, Init, Rel, Acq, RmwAcq, Tok, Auth, asked, Says, IsRight, AreRight}
use Rattle.fsl_own.proofs.Totals.{none_or_some, only_some}
use Rattle.fsl_good.specs.Pieces.{Level, AtPlain, AtUp, AtDown, same_level, holder_of, Piece, level_at, placed, all_placed, demand_at, RightPieces, AllSay}
use Rattle.fsl_good.proofs.Pieces.{right_says}
use Rattle.fsl_held.specs.Heaps.{is_at, same_leave, says, knows_in, value_in}
use Rattle.fsl_held.specs.Parts.{rung_of, is_claim_at, atoms_of}
use Rattle.fsl_held.proofs.Heaps.{value_said}
use Rattle.fsl_held.proofs.Cuts.{kind_of, size, level_of, level_is, Values, sized, part, part_if, is_placed, take_of, less, given, rest, asked_is}

-- ---- each piece

abbrev pub EachOf : (Piece → Type 0) → List Piece → Type 0
EachOf P [] = Unit {0}
EachOf P (x ∷ xs) = P x × EachOf P xs

-- a share has something
abbrev pub HasShare : Atom → ℕ → Type 0
HasShare (Points c n v) m = 1 ≤ m
HasShare (Init l) m = Unit {0}
HasShare (Rel l inv args) m = Unit {0}
HasShare (Acq l inv args p out) m = Unit {0}
HasShare (RmwAcq l inv args) m = Unit {0}
HasShare (Tok b n) m = Unit {0}
HasShare (Auth b n) m = Unit {0}

-- of what P is so, of its parts Q is so
abbrev pub Turns : Values → (Piece → Type 0) → (Piece → Type 0) → Type 0
Turns f P Q = (a : Level) (x : Atom) (m : ℕ) → HasShare x m → P (record { level = a; atom = x }) → Q (record { level = a; atom = sized f x m })

each_part : (f : Values) (P Q : Piece → Type 0) → Turns f P Q → (a : Level) (x : Atom) (m : ℕ) (zs : List Piece) → P (record { level = a; atom = x }) → EachOf Q zs → EachOf Q (part f a x m zs)
each_part f P Q t a (Points c n v) zero zs p q = q
each_part f P Q t a (Points c n v) (suc m) zs p q = (t a (Points c n v) (suc m) (omega arith) p, q)
each_part f P Q t a (Init l) m zs p q = (t a (Init l) m tt p, q)
each_part f P Q t a (Rel l inv args) m zs p q = (t a (Rel l inv args) m tt p, q)
each_part f P Q t a (Acq l inv args o out) zero zs p q = q
each_part f P Q t a (Acq l inv args o out) (suc m) zs p q = (t a (Acq l inv args o out) (suc m) tt p, q)
each_part f P Q t a (RmwAcq l inv args) m zs p q = (t a (RmwAcq l inv args) m tt p, q)
each_part f P Q t a (Tok b n) m zs p q = (t a (Tok b n) m tt p, q)
each_part f P Q t a (Auth b n) zero zs p q = q
each_part f P Q t a (Auth b n) (suc m) zs p q = (t a (Auth b n) (suc m) tt p, q)

part_if_each : (c : Bool) (f : Values) (Q : Piece → Type 0) (x : Piece) (m : ℕ) (zs : List Piece)
    → (c ≡ true → EachOf Q zs → EachOf Q (part f x.level x.atom m zs)) → EachOf Q zs → EachOf Q (part_if c f x m zs)
part_if_each true f Q x m zs p q = p refl q
part_if_each false f Q x m zs p q = q

pub given_each : (f : Values) (P Q : Piece → Type 0) → Turns f P Q → (a : Level) (d : Heap) (xs : List Piece) → EachOf P xs → EachOf Q (given f a d xs)
given_each f P Q t a d [] p = tt
given_each f P Q t a d (x ∷ xs) p =
    part_if_each (is_placed a x) f Q x (take_of a d x) (given f a (less a d x) xs) (λ e. each_part f P Q t x.level x.atom (take_of a d x) (given f a (less a d x) xs) p.0)
    (given_each f P Q t a (less a d x) xs p.1)

pub rest_each : (f : Values) (P Q : Piece → Type 0) → Turns f P Q → (a : Level) (d : Heap) (xs : List Piece) → EachOf P xs → EachOf Q (rest f a d xs)
rest_each f P Q t a d [] p = tt
rest_each f P Q t a d (x ∷ xs) p = each_part f P Q t x.level x.atom _ (rest f a (less a d x) xs) p.0 (rest_each f P Q t a (less a d x) xs p.1)

-- ---- what is right, and what is said

pub says_points : (k : Known) (c : ℤ) (m : ℕ) (o : Option ℤ) → 1 ≤ m → ((v : ℤ) → o ≡ Some v → k.values c ≡ Some v) → Says k (Points c m o)
says_points k c m None l q = l
says_points k c m (Some v) l q = (l, q v refl)

-- the values are those that are known
abbrev pub AreKnown : Values → Known → Type 0
AreKnown f k = (c v : ℤ) → f c ≡ Some v → k.values c ≡ Some v

says_part : (f : Values) (k : Known) → AreKnown f k → (x : Atom) (m : ℕ) → HasShare x m → Says k x → Says k (sized f x m)
says_part f k q (Points c n v) m l p = says_points k c m (f c) l (q c)
says_part f k q (Init l) m h p = p
says_part f k q (Rel l inv args) m h p = p
says_part f k q (Acq l inv args o out) m h p = p
says_part f k q (RmwAcq l inv args) m h p = p
says_part f k q (Tok b n) m h p = p
says_part f k q (Auth b n) m h p = p

right_part : (f : Values) (g : Graph) (done : List ℕ) (k : Known) (h : Holder) → AreKnown f k → (x : Atom) (m : ℕ) → HasShare x m → IsRight g done k h x → IsRight g done k h (sized f x m)
right_part f g done k h q (Points c n v) m l p = says_points k c m (f c) l (q c)
right_part f g done k h q (Init l) m s p = p
right_part f g done k h q (Rel l inv args) m s p = p
right_part f g done k h q (Acq l inv args o out) m s p = p
right_part f g done k h q (RmwAcq l inv args) m s p = p
right_part f g done k h q (Tok b n) m s p = p
right_part f g done k h q (Auth b n) m s p = p

abbrev pub SaysPiece : Known → Piece → Type 0
SaysPiece k x = Says k x.atom

abbrev RightPiece : Graph → List ℕ → Known → ℕ → Piece → Type 0
RightPiece g done k t x = IsRight g done k (holder_of t x.level) x.atom

pub each_says : (k : Known) (xs : List Piece) → AllSay k xs → EachOf (SaysPiece k) xs
each_says k [] p = tt
each_says k (x ∷ xs) p = (p.0, each_says k xs p.1)

pub all_say_by : (k : Known) (xs : List Piece) → EachOf (SaysPiece k) xs → AllSay k xs
all_say_by k [] p = tt
all_say_by k (x ∷ xs) p = (p.0, all_say_by k xs p.1)

each_right : (g : Graph) (done : List ℕ) (k : Known) (t : ℕ) (xs : List Piece) → RightPieces g done k t xs → EachOf (RightPiece g done k t) xs
each_right g done k t [] p = tt
each_right g done k t (x ∷ xs) p = (p.0, each_right g done k t xs p.1)

right_by : (g : Graph) (done : List ℕ) (k : Known) (t : ℕ) (xs : List Piece) → EachOf (RightPiece g done k t) xs → RightPieces g done k t xs
right_by g done k t [] p = tt
right_by g done k t (x ∷ xs) p = (p.0, right_by g done k t xs p.1)

-- parts of what is right are right
right_turn : (f : Values) (g : Graph) (done : List ℕ) (k : Known) (t : ℕ) → AreKnown f k → Turns f (RightPiece g done k t) (RightPiece g done k t)
right_turn f g done k t q a x m s p = right_part f g done k (holder_of t a) q x m s p

pub given_right : (f : Values) (g : Graph) (done : List ℕ) (k : Known) (t : ℕ) → AreKnown f k → (a : Level) (d : Heap) (xs : List Piece)
    → RightPieces g done k t xs → RightPieces g done k t (given f a d xs)
given_right f g done k t q a d xs p =
    right_by g done k t (given f a d xs) (given_each f (RightPiece g done k t) (RightPiece g done k t) (right_turn f g done k t q) a d xs (each_right g done k t xs p))

pub rest_right : (f : Values) (g : Graph) (done : List ℕ) (k : Known) (t : ℕ) → AreKnown f k → (a : Level) (d : Heap) (xs : List Piece)
    → RightPieces g done k t xs → RightPieces g done k t (rest f a d xs)
rest_right f g done k t q a d xs p =
    right_by g done k t (rest f a d xs) (rest_each f (RightPiece g done k t) (RightPiece g done k t) (right_turn f g done k t q) a d xs (each_right g done k t xs p))

-- the same of whoever has the atoms
abbrev HeldPiece : Graph → List ℕ → Known → Holder → Piece → Type 0
HeldPiece g done k h x = IsRight g done k h x.atom

each_held : (g : Graph) (done : List ℕ) (k : Known) (h : Holder) (xs : List Piece) → AreRight g done k h (atoms_of xs) → EachOf (HeldPiece g done k h) xs
each_held g done k h [] p = tt
each_held g done k h (x ∷ xs) p = (p.0, each_held g done k h xs p.1)

held_by : (g : Graph) (done : List ℕ) (k : Known) (h : Holder) (xs : List Piece) → EachOf (HeldPiece g done k h) xs → AreRight g done k h (atoms_of xs)
held_by g done k h [] p = tt
held_by g done k h (x ∷ xs) p = (p.0, held_by g done k h xs p.1)

pub given_held : (f : Values) (g : Graph) (done : List ℕ) (k : Known) (h : Holder) → AreKnown f k → (a : Level) (d : Heap) (xs : List Piece)
    → AreRight g done k h (atoms_of xs) → AreRight g done k h (atoms_of (given f a d xs))
given_held f g done k h q a d xs p =
    held_by g done k h (given f a d xs) (given_each f (HeldPiece g done k h) (HeldPiece g done k h) (λ b x m s r. right_part f g done k h q x m s r) a d xs (each_held g done k h xs p))

pub rest_held : (f : Values) (g : Graph) (done : List ℕ) (k : Known) (h : Holder) → AreKnown f k → (a : Level) (d : Heap) (xs : List Piece)
    → AreRight g done k h (atoms_of xs) → AreRight g done k h (atoms_of (rest f a d xs))
rest_held f g done k h q a d xs p =
    held_by g done k h (rest f a d xs) (rest_each f (HeldPiece g done k h) (HeldPiece g done k h) (λ b x m s r. right_part f g done k h q x m s r) a d xs (each_held g done k h xs p))

pub held_says : (g : Graph) (done : List ℕ) (k : Known) (h : Holder) (xs : List Piece) → AreRight g done k h (atoms_of xs) → AllSay k xs
held_says g done k h [] p = tt
held_says g done k h (x ∷ xs) p = (right_says g done k h x.atom p.0, held_says g done k h xs p.1)

pub says_turn : (f : Values) (k : Known) → AreKnown f k → Turns f (SaysPiece k) (SaysPiece k)
says_turn f k q a x m s p = says_part f k q x m s p

-- what a list says of a cell is known
pub values_known : (k : Known) (xs : List Piece) → AllSay k xs → AreKnown (value_in xs) k
values_known k xs s l v h = value_said k l v xs s h

-- ---- where it stands

pub same_level_is : (a b : Level) → same_level a b ≡ true → a ≡ b
same_level_is AtPlain AtPlain h = refl
same_level_is AtUp AtUp h = refl
same_level_is AtDown AtDown h = refl
same_level_is a b h = absurd (let f : false ≡ true = h in cc)

abbrev pub InPlace : Level → Piece → Type 0
InPlace a x = x.level ≡ level_at a x.atom

placed_part : (f : Values) (a : Level) → Turns f (InPlace a) (InPlace a)
placed_part f a b (Points c n v) m s p = p
placed_part f a b (Init l) m s p = p
placed_part f a b (Rel l inv args) m s p = p
placed_part f a b (Acq l inv args o out) m s p = p
placed_part f a b (RmwAcq l inv args) m s p = p
placed_part f a b (Tok c n) m s p = p
placed_part f a b (Auth c n) m s p = p

pub given_placed : (f : Values) (a : Level) (d : Heap) (xs : List Piece) → EachOf (InPlace a) (given f a d xs)
given_placed f a d [] = tt
given_placed f a d (x ∷ xs) =
    part_if_each (is_placed a x) f (InPlace a) x (take_of a d x) (given f a (less a d x) xs)
    (λ e. each_part f (InPlace a) (InPlace a) (placed_part f a) x.level x.atom (take_of a d x) (given f a (less a d x) xs) (same_level_is x.level (level_at a x.atom) e))
    (given_placed f a (less a d x) xs)

pub atoms_placed : (a : Level) (ys : List Atom) → atoms_of (all_placed a ys) ≡ ys
atoms_placed a [] = refl
atoms_placed a (y ∷ ys) = ap (λ (zs : List Atom). y ∷ zs) (atoms_placed a ys)

pub placed_again : (a : Level) (xs : List Piece) → EachOf (InPlace a) xs → all_placed a (atoms_of xs) ≡ xs
placed_again a [] p = refl
placed_again a (x ∷ xs) p =
    let one : placed a x.atom ≡ x = ap (λ (l : Level). record { level = l; atom = x.atom }) (sym p.0) in
    let more = placed_again a xs p.1 in
    λ i. one i ∷ more i

-- nothing of a resource stands at another level than where it is taken from
pub placed_nowhere : (a b : Level) (xs : List Piece) (r : Resource) → same_level (level_of a r) b ≡ false → EachOf (InPlace a) xs → demand_at b xs r ≡ 0
placed_nowhere a b [] r f p = refl
placed_nowhere a b (x ∷ xs) r f p = let i = placed_nowhere a b xs r f p.1 in let z = none (same_level x.level b) refl in omega (arith, i, z)
  where
    none : (c : Bool) → same_level x.level b ≡ c → (if c then asked x.atom r else 0) ≡ 0
    none false e = refl
    none true e = elim (none_or_some (asked x.atom r)) [
      | inl z ↦ z
      | inr l ↦
          let k : kind_of x.atom ≡ r = only_some (kind_of x.atom) r (size x.atom) (subst (λ n. 1 ≤ n) (asked_is x.atom r) l) in
          let q : same_level (level_of a r) b ≡ true = subst (λ (s : Resource). same_level (level_of a s) b ≡ true) k (subst (λ (y : Level). same_level y b ≡ true) (p.0 ∙ level_is a x.atom) e) in
          absurd (cc)
    ]

-- ---- what is known for good

-- leave to read goes with a permission
abbrev pub IsLasting : Claim → Type 0
IsLasting (IsInit r l) = Unit {0}
IsLasting (MayWrite l i xs) = Unit {0}
IsLasting (MayRead l i xs) = ⊥
IsLasting (MayUpdate l i xs) = Unit {0}

abbrev or_known : Bool → Bool → Bool
or_known b c = if b then true else c

knows_first : (b c : Bool) → b ≡ true → or_known b c ≡ true
knows_first true c e = refl
knows_first false c e = absurd (cc)

knows_last : (b c : Bool) → c ≡ true → or_known b c ≡ true
knows_last true c e = refl
knows_last false c e = e

part_says : (f : Values) (a : Level) (x : Atom) (m : ℕ) (zs : List Piece) (c : Claim) → IsLasting c → says a x c ≡ true → knows_in (part f a x m zs) c ≡ true
part_says f a (Init l) m zs c q h = knows_first (says a (Init l) c) (knows_in zs c) h
part_says f a (Rel l i xs) m zs c q h = knows_first (says a (Rel l i xs) c) (knows_in zs c) h
part_says f a (RmwAcq l i xs) m zs c q h = knows_first (says a (RmwAcq l i xs) c) (knows_in zs c) h
part_says f a (Acq l i xs o out) m zs (MayRead k j ys) q h = elim q [ ]
part_says f a (Acq l i xs o out) m zs (IsInit r k) q h = absurd (let e : false ≡ true = h in cc)
part_says f a (Acq l i xs o out) m zs (MayWrite k j ys) q h = absurd (let e : false ≡ true = h in cc)
part_says f a (Acq l i xs o out) m zs (MayUpdate k j ys) q h = absurd (let e : false ≡ true = h in cc)
part_says f a (Points l n v) m zs c q h = absurd (let e : false ≡ true = h in cc)
part_says f a (Tok b n) m zs c q h = absurd (let e : false ≡ true = h in cc)
part_says f a (Auth b n) m zs c q h = absurd (let e : false ≡ true = h in cc)

part_knows : (f : Values) (a : Level) (x : Atom) (m : ℕ) (zs : List Piece) (c : Claim) → knows_in zs c ≡ true → knows_in (part f a x m zs) c ≡ true
part_knows f a (Points l n v) zero zs c h = h
part_knows f a (Points l n v) (suc m) zs c h = knows_last (says a (Points l (suc m) (f l)) c) (knows_in zs c) h
part_knows f a (Init l) m zs c h = knows_last (says a (Init l) c) (knows_in zs c) h
part_knows f a (Rel l i xs) m zs c h = knows_last (says a (Rel l i xs) c) (knows_in zs c) h
part_knows f a (Acq l i xs o out) zero zs c h = h
part_knows f a (Acq l i xs o out) (suc m) zs c h = knows_last (says a (Acq l i xs o out) c) (knows_in zs c) h
part_knows f a (RmwAcq l i xs) m zs c h = knows_last (says a (RmwAcq l i xs) c) (knows_in zs c) h
part_knows f a (Tok b n) m zs c h = knows_last (says a (Tok b m) c) (knows_in zs c) h
part_knows f a (Auth b n) zero zs c h = h
part_knows f a (Auth b n) (suc m) zs c h = knows_last (says a (Auth b n) c) (knows_in zs c) h

-- one piece in front, where b says whether it says the claim
part_also : (f : Values) (a : Level) (x : Atom) (m : ℕ) (zs : List Piece) (c : Claim) (k b : Bool) → IsLasting c → says a x c ≡ b → (k ≡ true → knows_in zs c ≡ true) → or_known b k ≡ true
    → knows_in (part f a x m zs) c ≡ true
part_also f a x m zs c k true q e r h = part_says f a x m zs c q e
part_also f a x m zs c k false q e r h = part_knows f a x m zs c (r h)

pub rest_knows : (f : Values) (a : Level) (d : Heap) (xs : List Piece) (c : Claim) → IsLasting c → knows_in xs c ≡ true → knows_in (rest f a d xs) c ≡ true
rest_knows f a d [] c q h = h
rest_knows f a d (x ∷ xs) c q h = part_also f x.level x.atom _ (rest f a (less a d x) xs) c (knows_in xs c) (says x.level x.atom c) q refl (rest_knows f a (less a d x) xs c q) h

is_at_same : (a b : Level) → is_at a (rung_of b) ≡ same_level a b
is_at_same AtPlain AtPlain = refl
is_at_same AtPlain AtUp = refl
is_at_same AtPlain AtDown = refl
is_at_same AtUp AtPlain = refl
is_at_same AtUp AtUp = refl
is_at_same AtUp AtDown = refl
is_at_same AtDown AtPlain = refl
is_at_same AtDown AtUp = refl
is_at_same AtDown AtDown = refl

-- what says a claim of the level stands in place
placed_by : (a b : Level) (x : Atom) (c : Claim) → IsLasting c → is_claim_at (rung_of a) c ≡ true → says b x c ≡ true → same_level b (level_at a x) ≡ true
placed_by a b (Init k) (IsInit r l) q e h =
    let i : r ≡ rung_of a = same_rung_is r (rung_of a) e in
    let p = and_parts (is_at b r) (int_eq k l) h in
    sym (is_at_same b a) ∙ subst (λ (s : Rung). is_at b s ≡ true) i p.0
placed_by a b (Rel k i xs) (MayWrite l j ys) q e h = sym (is_at_same b AtPlain) ∙ (and_parts (is_at b Plain) (same_leave k i xs l j ys) h).0
placed_by a b (RmwAcq k i xs) (MayUpdate l j ys) q e h = sym (is_at_same b AtPlain) ∙ (and_parts (is_at b Plain) (same_leave k i xs l j ys) h).0
placed_by a b (Acq k i xs o out) (MayRead l j ys) q e h = elim q [ ]
placed_by a b x c q e h = absurd (let f : false ≡ true = h in cc)

given_also : (t : Bool) (f : Values) (x : Piece) (m : ℕ) (zs : List Piece) (c : Claim) (k b : Bool)
    → IsLasting c → says x.level x.atom c ≡ b → (b ≡ true → t ≡ true) → (k ≡ true → knows_in zs c ≡ true)
    → or_known b k ≡ true → knows_in (part_if t f x m zs) c ≡ true
given_also true f x m zs c k b q e p r h = part_also f x.level x.atom m zs c k b q e r h
given_also false f x m zs c k true q e p r h = absurd (let z = p refl in cc)
given_also false f x m zs c k false q e p r h = r h

pub given_knows : (f : Values) (a : Level) (d : Heap) (xs : List Piece) (c : Claim) → IsLasting c → is_claim_at (rung_of a) c ≡ true → knows_in xs c ≡ true → knows_in (given f a d xs) c ≡ true
given_knows f a d [] c q e h = h
given_knows f a d (x ∷ xs) c q e h =
    given_also (is_placed a x) f x (take_of a d x) (given f a (less a d x) xs) c (knows_in xs c) (says x.level x.atom c) q refl (placed_by a x.level x.atom c q e)
    (given_knows f a (less a d x) xs c q e) h
