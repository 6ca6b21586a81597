-- Pieces that say something are among those that a thread has, and follow from them.
use Rattle.std.proofs.Common.{◌≡◌, ◌⊎◌, inl, inr, ℕ, ◌+◌, ◌≤◌, ◌==◌, Bool, true, false, ◌&&◌, if◌then◌else◌, List, [], ◌∷◌, Some, None, ℤ, pos, refl, sym, ap, subst, ◌∙◌, arith}
use Rattle.std.specs.Ordering.{int_eq}
use Rattle.std.proofs.lemmas.Bool.{and_parts, eqb-true, eq-eqb}
use Rattle.fsl_core.specs.declared.mode.Rung.TheVariants.{Plain}
use Rattle.fsl_meaning.specs.Branches.{Among}
use Rattle.fsl_meaning.specs.Heaps.{Claim, Claim as claim}
use Rattle.fsl_meaning.proofs.Deciding.{equal, is_equal, not_equal}
use Rattle.fsl_updated.specs.Updates.{IsDealt}
use Rattle.fsl_own.specs.Owning.{Resource, Known, Deal}
use Rattle.fsl_own.specs.Atoms.{Atom, Points, Init, Rel, Acq, RmwAcq, Tok, Auth, IsFor, Says}
use Rattle.fsl_good.specs.Pieces.{Level, AtPlain, AtUp, AtDown, Piece, plain, all_placed, demand_at, asked_at, Entails, AllSay, IsPossible}
use Rattle.fsl_held.specs.Heaps.{is_at, same_numbers, same_leave, says, knows_in, ground_of, or_else, count_by, count_in}

-- ---- numbers

pub same_banks : (b c : ℕ) → int_eq (pos b) (pos c) ≡ (b == c)
same_banks b c = by_case (b == c) refl
  where
    by_case : (x : Bool) → (b == c) ≡ x → int_eq (pos b) (pos c) ≡ x
    by_case true e = is_equal (pos b) (pos c) (ap pos (eqb-true b c e))
    by_case false e = not_equal (pos b) (pos c) (λ p. absurd (let q : b ≡ c = cc in let f : (b == c) ≡ true = eq-eqb b c q in cc))

pub same_numbers_are : (xs ys : List ℤ) → same_numbers xs ys ≡ true → xs ≡ ys
same_numbers_are [] [] h = refl
same_numbers_are (x ∷ xs) (y ∷ ys) h =
    let p = and_parts (int_eq x y) (same_numbers xs ys) h in
    λ i. equal x y p.0 i ∷ same_numbers_are xs ys p.1 i
same_numbers_are [] (y ∷ ys) h = absurd (let f : false ≡ true = h in cc)
same_numbers_are (x ∷ xs) [] h = absurd (let f : false ≡ true = h in cc)

-- ---- what is among pieces follows

line_first : (a b : ℕ) → a + 0 ≤ a + b
line_first a b = omega arith

line_more : (a b c : ℕ) → a ≤ b → a ≤ c + b
line_more a b c h = omega arith

pub entails_among : (x : Piece) (xs : List Piece) → Among x xs → Entails xs (x ∷ [])
entails_among x [] h = absurd h
entails_among x (y ∷ ys) (inl e) =
    subst (λ (z : Piece). Entails (y ∷ ys) (z ∷ [])) (sym e) (record {
      enough = λ a r. line_first (asked_at a y r) (demand_at a ys r);
      right = λ g done k t p. (p.0, tt);
    })
entails_among x (y ∷ ys) (inr h) =
    let e = entails_among x ys h in
    record {
      enough = λ a r. line_more (demand_at a (x ∷ []) r) (demand_at a ys r) (asked_at a y r) (e.enough a r);
      right = λ g done k t p. e.right g done k t p.1;
    }

line_pair_first : (a b c : ℕ) → b ≡ 0 → a + 0 ≤ c → a + (b + 0) ≤ c
line_pair_first a b c e h = omega arith

line_pair_last : (a b c : ℕ) → a ≡ 0 → b + 0 ≤ c → a + (b + 0) ≤ c
line_pair_last a b c e h = omega arith

-- two that ask for nothing in common
pub entails_pair : (x y : Piece) (xs : List Piece) → ((a : Level) (r : Resource) → (asked_at a x r ≡ 0) ⊎ (asked_at a y r ≡ 0)) → Entails xs (x ∷ []) → Entails xs (y ∷ []) → Entails xs (x ∷ y ∷ [])
entails_pair x y xs apart p q = record {
  enough = λ a r. elim (apart a r) [
    | inl e ↦ line_pair_last (asked_at a x r) (asked_at a y r) (demand_at a xs r) e (q.enough a r)
    | inr e ↦ line_pair_first (asked_at a x r) (asked_at a y r) (demand_at a xs r) e (p.enough a r)
  ];
  right = λ g done k t r. ((p.right g done k t r).0, q.right g done k t r);
}

-- ---- authorities

among_count : (b n : ℕ) (ys : List Atom) → count_in (all_placed AtPlain ys) b ≡ Some n → Among (plain (Auth b n)) (all_placed AtPlain ys)
among_count b n [] h = absurd (let e : None ≡ Some n = h in cc)
among_count b n (y ∷ ys) h = one y h (among_count b n ys)
  where
    by_case : (c m : ℕ) (t : Bool) → (b == c) ≡ t → or_else (if t then Some m else None) (count_in (all_placed AtPlain ys) b) ≡ Some n
        → (count_in (all_placed AtPlain ys) b ≡ Some n → Among (plain (Auth b n)) (all_placed AtPlain ys)) → Among (plain (Auth b n)) (plain (Auth c m) ∷ all_placed AtPlain ys)
    by_case c m true e h more = let p = eqb-true b c e in let q : n ≡ m = (let d : Some m ≡ Some n = h in cc) in inl (λ i. plain (Auth (p i) (q i)))
    by_case c m false e h more = inr (more h)

    one : (y : Atom) → or_else (count_by y b) (count_in (all_placed AtPlain ys) b) ≡ Some n → (count_in (all_placed AtPlain ys) b ≡ Some n → Among (plain (Auth b n)) (all_placed AtPlain ys))
        → Among (plain (Auth b n)) (plain y ∷ all_placed AtPlain ys)
    one (Auth c m) h more = by_case c m (b == c) refl h more
    one (Points c m v) h more = inr (more h)
    one (Init l) h more = inr (more h)
    one (Rel l i xs) h more = inr (more h)
    one (Acq l i xs p o) h more = inr (more h)
    one (RmwAcq l i xs) h more = inr (more h)
    one (Tok c m) h more = inr (more h)

pub authority_follows : (b n : ℕ) (ys : List Atom) → count_in (all_placed AtPlain ys) b ≡ Some n → Entails (all_placed AtPlain ys) (plain (Auth b n) ∷ [])
authority_follows b n ys h = entails_among (plain (Auth b n)) (all_placed AtPlain ys) (among_count b n ys h)

-- ---- leave to use a location

plain_level : (a : Level) → is_at a Plain ≡ true → a ≡ AtPlain
plain_level AtPlain h = refl
plain_level AtUp h = absurd (let e : false ≡ true = h in cc)
plain_level AtDown h = absurd (let e : false ≡ true = h in cc)

-- what a piece says of a leave
record SameLeave (a : Level) (c l : ℤ) (i j : ℕ) (xs ys : List ℤ) : Type 0 where
  pub level : a ≡ AtPlain
  pub loc : c ≡ l
  pub inv : i ≡ j
  pub args : xs ≡ ys

same_leave_is : (a : Level) (c l : ℤ) (i j : ℕ) (xs ys : List ℤ) → (is_at a Plain && same_leave c i xs l j ys) ≡ true → SameLeave a c l i j xs ys
same_leave_is a c l i j xs ys h =
    let p = and_parts (is_at a Plain) (same_leave c i xs l j ys) h in
    let q = and_parts (int_eq c l) (i == j && same_numbers xs ys) p.1 in
    let r = and_parts (i == j) (same_numbers xs ys) q.1 in
    record { level = plain_level a p.0; loc = equal c l q.0; inv = eqb-true i j r.0; args = same_numbers_are xs ys r.1 }

-- the first piece that says a claim
abbrev Found : Claim → Piece → Type 0
Found c x = says x.level x.atom c ≡ true

found : (c : Claim) (xs : List Piece) → knows_in xs c ≡ true → (x : Piece) × Found c x × Among x xs
found c [] h = absurd (let e : false ≡ true = h in cc)
found c (y ∷ ys) h = by_case (says y.level y.atom c) refl h (found c ys)
  where
    by_case : (t : Bool) → says y.level y.atom c ≡ t → (if t then true else knows_in ys c) ≡ true → (knows_in ys c ≡ true → (x : Piece) × Found c x × Among x ys)
        → (x : Piece) × Found c x × Among x (y ∷ ys)
    by_case true e h more = (y, e, inl refl)
    by_case false e h more = let m = more h in (m.0, m.1, inr m.2)

writes_is : (a : Level) (x : Atom) (l : ℤ) (i : ℕ) (ys : List ℤ) → says a x (claim.MayWrite l i ys) ≡ true → record { level = a; atom = x } ≡ plain (Rel l i ys)
writes_is a (Rel c j xs) l i ys h = let s = same_leave_is a c l j i xs ys h in λ z. record { level = s.level z; atom = Rel (s.loc z) (s.inv z) (s.args z) }
writes_is a (Points c n v) l i ys h = absurd (let e : false ≡ true = h in cc)
writes_is a (Init c) l i ys h = absurd (let e : false ≡ true = h in cc)
writes_is a (Acq c j xs p o) l i ys h = absurd (let e : false ≡ true = h in cc)
writes_is a (RmwAcq c j xs) l i ys h = absurd (let e : false ≡ true = h in cc)
writes_is a (Tok c n) l i ys h = absurd (let e : false ≡ true = h in cc)
writes_is a (Auth c n) l i ys h = absurd (let e : false ≡ true = h in cc)

pub leave_follows : (xs : List Piece) (l : ℤ) (i : ℕ) (ys : List ℤ) → knows_in xs (claim.MayWrite l i ys) ≡ true → Entails xs (plain (Rel l i ys) ∷ [])
leave_follows xs l i ys h =
    let f = found (claim.MayWrite l i ys) xs h in
    subst (λ (x : Piece). Entails xs (x ∷ [])) (writes_is f.0.level f.0.atom l i ys f.1) (entails_among f.0 xs f.2)

init_is : (a : Level) (x : Atom) (l : ℤ) → says a x (claim.IsInit Plain l) ≡ true → record { level = a; atom = x } ≡ plain (Init l)
init_is a (Init c) l h =
    let p = and_parts (is_at a Plain) (int_eq c l) h in
    let e = plain_level a p.0 in
    let f = equal c l p.1 in
    λ z. record { level = e z; atom = Init (f z) }
init_is a (Points c n v) l h = absurd (let e : false ≡ true = h in cc)
init_is a (Rel c j xs) l h = absurd (let e : false ≡ true = h in cc)
init_is a (Acq c j xs p o) l h = absurd (let e : false ≡ true = h in cc)
init_is a (RmwAcq c j xs) l h = absurd (let e : false ≡ true = h in cc)
init_is a (Tok c n) l h = absurd (let e : false ≡ true = h in cc)
init_is a (Auth c n) l h = absurd (let e : false ≡ true = h in cc)

pub init_follows : (xs : List Piece) (l : ℤ) → knows_in xs (claim.IsInit Plain l) ≡ true → Entails xs (plain (Init l) ∷ [])
init_follows xs l h =
    let f = found (claim.IsInit Plain l) xs h in
    subst (λ (x : Piece). Entails xs (x ∷ [])) (init_is f.0.level f.0.atom l f.1) (entails_among f.0 xs f.2)

updates_is : (a : Level) (x : Atom) (l : ℤ) (i : ℕ) (ys : List ℤ) → says a x (claim.MayUpdate l i ys) ≡ true → record { level = a; atom = x } ≡ plain (RmwAcq l i ys)
updates_is a (RmwAcq c j xs) l i ys h = let s = same_leave_is a c l j i xs ys h in λ z. record { level = s.level z; atom = RmwAcq (s.loc z) (s.inv z) (s.args z) }
updates_is a (Points c n v) l i ys h = absurd (let e : false ≡ true = h in cc)
updates_is a (Init c) l i ys h = absurd (let e : false ≡ true = h in cc)
updates_is a (Rel c j xs) l i ys h = absurd (let e : false ≡ true = h in cc)
updates_is a (Acq c j xs p o) l i ys h = absurd (let e : false ≡ true = h in cc)
updates_is a (Tok c n) l i ys h = absurd (let e : false ≡ true = h in cc)
updates_is a (Auth c n) l i ys h = absurd (let e : false ≡ true = h in cc)

pub update_follows : (xs : List Piece) (l : ℤ) (i : ℕ) (ys : List ℤ) → knows_in xs (claim.MayUpdate l i ys) ≡ true → Entails xs (plain (RmwAcq l i ys) ∷ [])
update_follows xs l i ys h =
    let f = found (claim.MayUpdate l i ys) xs h in
    subst (λ (x : Piece). Entails xs (x ∷ [])) (updates_is f.0.level f.0.atom l i ys f.1) (entails_among f.0 xs f.2)

-- ---- what a location was made for

pub says_among : (k : Known) (x : Piece) (xs : List Piece) → AllSay k xs → Among x xs → Says k x.atom
says_among k x [] say among = absurd among
says_among k x (y ∷ ys) say (inl e) = subst (λ (z : Piece). Says k z.atom) (sym e) say.0
says_among k x (y ∷ ys) say (inr h) = says_among k x ys say.1 h

pub one_deal : {a b : Deal} → Some a ≡ Some b → a ≡ b
one_deal e = cc

write_deal : (k : Known) (xs : List Piece) (l : ℤ) (i : ℕ) (ys : List ℤ) → AllSay k xs → knows_in xs (claim.MayWrite l i ys) ≡ true → (rmw : Bool) × IsFor k l rmw i ys
write_deal k xs l i ys say h =
    let f = found (claim.MayWrite l i ys) xs h in
    subst (λ (x : Piece). Says k x.atom) (writes_is f.0.level f.0.atom l i ys f.1) (says_among k f.0 xs say f.2)

update_deal : (k : Known) (xs : List Piece) (l : ℤ) (i : ℕ) (ys : List ℤ) → AllSay k xs → knows_in xs (claim.MayUpdate l i ys) ≡ true → IsFor k l true i ys
update_deal k xs l i ys say h =
    let f = found (claim.MayUpdate l i ys) xs h in
    subst (λ (x : Piece). Says k x.atom) (updates_is f.0.level f.0.atom l i ys f.1) (says_among k f.0 xs say f.2)

-- leaves of one location speak of the same invariant
pub dealt_by_leave : (xs : List Piece) (l : ℤ) (inv : ℕ) (args : List ℤ) → IsPossible xs → knows_in xs (claim.MayUpdate l inv args) ≡ true → IsDealt (ground_of xs) l inv args
dealt_by_leave xs l inv args possible h =
    let k = possible.known in
    let made = update_deal k xs l inv args possible.agree h in
    record {
      writes = λ i ys writes.
          let w = write_deal k xs l i ys possible.agree writes in
          let same : record { rmw = w.0; inv = i; args = ys } ≡ record { rmw = true; inv = inv; args = args } = one_deal (sym w.1 ∙ made) in
          (ap (λ (d : Deal). d.inv) same, ap (λ (d : Deal). d.args) same);
      updates = λ i ys updates.
          let same : record { rmw = true; inv = i; args = ys } ≡ record { rmw = true; inv = inv; args = args } = one_deal (sym (update_deal k xs l i ys possible.agree updates) ∙ made) in
          (ap (λ (d : Deal). d.inv) same, ap (λ (d : Deal). d.args) same);
    }
