-- What a load takes and gets: a permission goes out of what a thread has, and comes back with the value that it read, in
-- front of what the message had.
use Rattle.std.proofs.Common.{◌≡◌, inl, inr, ℕ, ◌+◌, ◌≤◌, ◌==◌, Bool, true, false, ◌&&◌, if◌then◌else◌, List, [], ◌∷◌, ◌++◌, Option, Some, None, ℤ, refl, sym, ap, subst, ◌∙◌, arith}
use Rattle.std.specs.Ordering.{int_eq}
use Rattle.std.specs.List.{list_any}
use Rattle.std.proofs.lemmas.Bool.{and_parts, or_left, or_right, eqb-true, eq-eqb}
use Rattle.fsl_core.specs.declared.assertion.Asrt.{Asrt}
use Rattle.fsl_core.specs.declared.declaration.Inv.{Inv}
use Rattle.fsl_core.specs.declared.mode.Rung.TheVariants.{Plain}
use Rattle.fsl_meaning.specs.Branches.{Among}
use Rattle.fsl_meaning.specs.Heaps.{Key, Key as key, some_of, Claim as claim, AllKnown}
use Rattle.fsl_meaning.proofs.Deciding.{equal, is_equal}
use Rattle.fsl_meaning.proofs.Heaps.{some_self, some_less}
use Rattle.fsl_meaning.proofs.Kept.{agrees_less, knows_less}
use Rattle.fsl_asserted.specs.Needs.{Need, asks}
use Rattle.fsl_asserted.specs.Carried.{carried, IsPlain}
use Rattle.fsl_asserted.proofs.Carried.{asks_carried}
use Rattle.fsl_asserted.proofs.Stays.{asks_stay}
use Rattle.fsl_own.specs.Owning.{Deal, Known}
use Rattle.fsl_own.specs.Owning.{Resource as resource}
use Rattle.fsl_own.specs.Atoms.{Atom, Points, Init, Rel, Acq, RmwAcq, Tok, Auth, Has, Says, IsFor}
use Rattle.fsl_good.specs.Pieces.{Level, AtPlain, Piece, plain, all_placed, AllSay, Entails, IsPossible}
use Rattle.fsl_held.specs.Heaps.{heap_of, truth_of, ground_of, same_leave, knows_in, or_else, or_this, out_by, out_in, Kept}
use Rattle.fsl_held.specs.Parts.{rung_of, Cut}
use Rattle.fsl_held.specs.Asked.{Satisfies}
use Rattle.fsl_held.proofs.Heaps.{first_there, out_first, out_speaks}
use Rattle.fsl_held.proofs.Given.{each_says}
use Rattle.fsl_held.proofs.Filled.{deal_of}
use Rattle.fsl_held.proofs.Cutting.{heap_cut}
use Rattle.fsl_held.proofs.Fronts.{front_is_kept}
use Rattle.fsl_held.proofs.Kept.{asks_held}
use Rattle.fsl_walk.proofs.Rounds.{kept_less, kept_then}
use Rattle.fsl_walk.proofs.Possible.{entailed_possible}
use Rattle.fsl_walk.proofs.Agreeing.{agrees_by, entails_then, entails_both, entails_self}
use Rattle.fsl_walk.proofs.Placing.{placed_agrees, moved_placed, knows_placed, say_first}
use Rattle.fsl_walk.proofs.Needing.{carried_self, claims_alone, all_told, moved_less}
use Rattle.fsl_walk.proofs.Finding.{entails_among, says_among, one_deal}
use Rattle.fsl_walk.proofs.Allocating.{leave_self, permission_heap}
use Rattle.fsl_walk.proofs.Parting.{known_kept}

-- ---- a permission among pieces

record Permit (l : ℤ) (q : ℕ) (out : List ℤ) (xs : List Piece) : Type 0 where
  pub inv : ℕ
  pub args : List ℤ
  pub among : Among (plain (Acq l inv args q out)) xs

permit_more : (l : ℤ) (q : ℕ) (out : List ℤ) (x : Piece) (xs : List Piece) → Permit l q out xs → Permit l q out (x ∷ xs)
permit_more l q out x xs p = record { inv = p.inv; args = p.args; among = inr p.among }

permit : (l : ℤ) (q : ℕ) (out : List ℤ) (ys : List Atom) → out_in (all_placed AtPlain ys) l q ≡ Some out → Permit l q out (all_placed AtPlain ys)
permit l q out [] h = absurd (let e : None ≡ Some out = h in cc)
permit l q out (y ∷ ys) h = one y h (permit l q out ys)
  where
    by_case : (c : ℤ) (i : ℕ) (args : List ℤ) (p : ℕ) (o : List ℤ) (t : Bool) → (int_eq l c && q == p) ≡ t → or_else (if t then Some o else None) (out_in (all_placed AtPlain ys) l q) ≡ Some out
        → (out_in (all_placed AtPlain ys) l q ≡ Some out → Permit l q out (all_placed AtPlain ys)) → Permit l q out (plain (Acq c i args p o) ∷ all_placed AtPlain ys)
    by_case c i args p o true e h more =
        let both = and_parts (int_eq l c) (q == p) e in
        let f = equal l c both.0 in
        let g = eqb-true q p both.1 in
        let s : out ≡ o = (let d : Some o ≡ Some out = h in cc) in
        record { inv = i; args = args; among = inl (λ z. plain (Acq (f z) i args (g z) (s z))) }
    by_case c i args p o false e h more = permit_more l q out (plain (Acq c i args p o)) (all_placed AtPlain ys) (more h)

    one : (y : Atom) → or_else (out_by y l q) (out_in (all_placed AtPlain ys) l q) ≡ Some out → (out_in (all_placed AtPlain ys) l q ≡ Some out → Permit l q out (all_placed AtPlain ys))
        → Permit l q out (plain y ∷ all_placed AtPlain ys)
    one (Acq c i args p o) h more = by_case c i args p o (int_eq l c && q == p) refl h more
    one (Points c n v) h more = permit_more l q out (plain (Points c n v)) (all_placed AtPlain ys) (more h)
    one (Init c) h more = permit_more l q out (plain (Init c)) (all_placed AtPlain ys) (more h)
    one (Rel c i args) h more = permit_more l q out (plain (Rel c i args)) (all_placed AtPlain ys) (more h)
    one (RmwAcq c i args) h more = permit_more l q out (plain (RmwAcq c i args)) (all_placed AtPlain ys) (more h)
    one (Tok b n) h more = permit_more l q out (plain (Tok b n)) (all_placed AtPlain ys) (more h)
    one (Auth b n) h more = permit_more l q out (plain (Auth b n)) (all_placed AtPlain ys) (more h)

-- a permission goes out, with the values that were read by it
pub record TakesPermission (l : ℤ) (q i : ℕ) (args : List ℤ) (xs : List Piece) : Type 0 where
  pub out : List ℤ
  pub rest : List Piece
  pub is : out ≡ (truth_of xs).out l q
  pub follows : Entails xs (plain (Acq l i args q out) ∷ rest)
  pub left : (k : Key) → heap_of xs k ≡ heap_of rest k + some_of (key.Permission l q) 1 k
  pub kept : Kept xs (heap_of rest) rest

line_one : (a b : ℕ) → a ≡ b → b ≡ 1 → 1 ≤ a
line_one a b e f = omega arith

-- what was cut out has the permission of the deal that is known
found_permission : (k : Known) (l : ℤ) (q i : ℕ) (args out : List ℤ) (ys : List Atom) → AllSay k (all_placed AtPlain ys) → IsFor k l false i args → out_in (all_placed AtPlain ys) l q ≡ Some out
    → Entails (all_placed AtPlain ys) (plain (Acq l i args q out) ∷ [])
found_permission k l q i args out ys says dealt is =
    let p = permit l q out ys is in
    let made : IsFor k l false p.inv p.args = (says_among k (plain (Acq l p.inv p.args q out)) (all_placed AtPlain ys) says p.among).0 in
    let same : record { rmw = false; inv = p.inv; args = p.args } ≡ record { rmw = false; inv = i; args = args } = one_deal (sym made ∙ dealt) in
    subst (λ (d : Deal). Entails (all_placed AtPlain ys) (plain (Acq l d.inv d.args q out) ∷ [])) same (entails_among (plain (Acq l p.inv p.args q out)) (all_placed AtPlain ys) p.among)

-- the values of the permission that was cut out
record Said (l : ℤ) (q : ℕ) (ys : List Piece) : Type 0 where
  pub out : List ℤ
  pub is : out_in ys l q ≡ Some out
  pub truth : out ≡ (truth_of ys).out l q

said : (l : ℤ) (q : ℕ) (ys : List Piece) → 1 ≤ heap_of ys (key.Permission l q) → Said l q ys
said l q ys some =
    let there = first_there (λ y. out_by y l q) (resource.Permission l q) (out_speaks l q) AtPlain ys some in
    let is : out_in ys l q ≡ Some there.0 = out_first l q ys ∙ there.1 in
    record { out = there.0; is = is; truth = sym (ap (λ (o : Option (List ℤ)). or_this o []) is) }

taken_by : (l : ℤ) (q i : ℕ) (args : List ℤ) (xs : List Piece) → knows_in xs (claim.MayRead l i args) ≡ true → (c : Cut AtPlain (some_of (key.Permission l q) 1) xs)
    → IsPossible (all_placed AtPlain c.atoms ++ c.rest) → Said l q (all_placed AtPlain c.atoms) → TakesPermission l q i args xs
taken_by l q i args xs known c possible s =
    let ys = all_placed AtPlain c.atoms in
    let k = possible.known in
    let one = line_one (some_of (key.Permission l q) 1 (key.Permission l q)) 1 (some_self (key.Permission l q) 1) refl in
    let says = say_first k ys c.rest possible.agree in
    let dealt = deal_of k ys l i args (each_says k ys says) (c.is.knows (claim.MayRead l i args) refl (q, one) known) in
    record {
      out = s.out;
      rest = c.rest;
      is = s.truth ∙ c.is.agrees.out l q one;
      follows = entails_then c.is.gives (entails_both ys c.rest (plain (Acq l i args q s.out) ∷ []) c.rest (found_permission k l q i args s.out c.atoms says dealt s.is) (entails_self c.rest));
      left = c.is.left;
      kept = c.is.kept;
    }

pub takes_permission : (l : ℤ) (q i : ℕ) (args : List ℤ) (xs : List Piece) → IsPossible xs → 1 ≤ heap_of xs (key.Permission l q) → knows_in xs (claim.MayRead l i args) ≡ true
    → TakesPermission l q i args xs
takes_permission l q i args xs possible some known =
    let one = key.Permission l q in
    let c = heap_cut AtPlain (some_of one 1) xs possible (λ r l other. refl) (some_less one 1 (heap_of xs) some) in
    let ys = all_placed AtPlain c.atoms in
    taken_by l q i args xs known c (entailed_possible xs (ys ++ c.rest) c.is.gives possible)
    (said l q ys (line_one (heap_of ys one) (some_of one 1 one) (c.is.taken one) (some_self one 1)))

pub has_any : (y : ℤ) (out : List ℤ) → Has y out → list_any (int_eq y) out ≡ true
has_any y [] h = absurd h
has_any y (x ∷ xs) (inl e) = or_left (int_eq y x) (list_any (int_eq y) xs) (is_equal y x e)
has_any y (x ∷ xs) (inr h) = or_right (int_eq y x) (list_any (int_eq y) xs) (has_any y xs h)

-- ---- what came, in front of what was left

abbrev pub read_piece : ℤ → ℕ → ℕ → List ℤ → List ℤ → Piece
read_piece l q i args out = plain (Acq l i args q out)

abbrev pub with_gain : ℤ → ℕ → ℕ → List ℤ → List ℤ → Level → List Atom → List Piece → List Piece
with_gain l q i args out level ys rest = read_piece l q i args out ∷ all_placed level ys ++ rest

pub record Received (l : ℤ) (q i : ℕ) (args out : List ℤ) (level : Level) (ys : List Atom) (rest : List Piece) : Type 0 where
  pub front : Kept (all_placed level ys) (heap_of (all_placed level ys)) (with_gain l q i args out level ys rest)
  pub behind : Kept rest (heap_of rest) (with_gain l q i args out level ys rest)
  pub sum : (k : Key) → heap_of (with_gain l q i args out level ys rest) k ≡ some_of (key.Permission l q) 1 k + (heap_of (all_placed level ys) k + heap_of rest k)
  pub says : (truth_of (with_gain l q i args out level ys rest)).out l q ≡ out
  pub knows : knows_in (with_gain l q i args out level ys rest) (claim.MayRead l i args) ≡ true

line_front : (a b c : ℕ) → c ≡ a + b → a ≤ c
line_front a b c e = omega arith

line_behind : (a b c : ℕ) → c ≡ a + b → b ≤ c
line_behind a b c e = omega arith

line_sum : (z p a b s m : ℕ) → z ≡ p + m → p ≡ s → m ≡ a + b → z ≡ s + (a + b)
line_sum z p a b s m e f g = omega arith

out_first_says : (a b : Bool) (out : List ℤ) (o : Option (List ℤ)) → a ≡ true → b ≡ true → or_this (or_else (if a && b then Some out else None) o) [] ≡ out
out_first_says true true out o e f = refl
out_first_says false b out o e f = absurd (cc)
out_first_says true false out o e f = absurd (cc)

if_true : (b c : Bool) → b ≡ true → (if b then true else c) ≡ true
if_true true c e = refl
if_true false c e = absurd (cc)

pub received : (l : ℤ) (q i : ℕ) (args out : List ℤ) (level : Level) (ys : List Atom) (rest : List Piece) → IsPossible (with_gain l q i args out level ys rest)
    → Received l q i args out level ys rest
received l q i args out level ys rest possible =
    let x = read_piece l q i args out in
    let gain = all_placed level ys in
    let whole = front_is_kept (x ∷ []) (gain ++ rest) possible in
    let inner = front_is_kept gain rest whole.possible in
    record {
      front = kept_then inner.front (kept_less (heap_of gain) (heap_of (gain ++ rest)) (λ k. line_front (heap_of gain k) (heap_of rest k) (heap_of (gain ++ rest) k) (inner.sum k)) whole.behind);
      behind = kept_then inner.behind (kept_less (heap_of rest) (heap_of (gain ++ rest)) (λ k. line_behind (heap_of gain k) (heap_of rest k) (heap_of (gain ++ rest) k) (inner.sum k)) whole.behind);
      sum = λ k. line_sum (heap_of (x ∷ gain ++ rest) k) (heap_of (x ∷ []) k) (heap_of gain k) (heap_of rest k) (some_of (key.Permission l q) 1 k) (heap_of (gain ++ rest) k)
          (whole.sum k) (permission_heap l i args q out k) (inner.sum k);
      says = out_first_says (int_eq l l) (q == q) out (out_in (gain ++ rest) l q) (is_equal l l refl) (eq-eqb q q refl);
      knows = if_true (same_leave l i args l i args) (knows_in (gain ++ rest) (claim.MayRead l i args)) (leave_self l i args);
    }

-- what atoms satisfy at plain, they are asked for at the level at which they come
pub record AskedThere (a : Asrt) (env : List ℤ) (n : Need) (level : Level) (ys : List Atom) (zs : List Piece) : Type 0 where
  pub is : asks (truth_of zs) a (rung_of level) env ≡ Some n
  pub known : AllKnown (ground_of zs) n.claims
  pub enough : (k : Key) → n.heap k ≤ heap_of (all_placed level ys) k

line_trans : (a b c : ℕ) → a ≤ b → b ≤ c → a ≤ c
line_trans a b c p q = omega arith

pub asked_there : (invs : List Inv) (a : Asrt) (env : List ℤ) (n : Need) (level : Level) (ys : List Atom) (zs : List Piece) → IsPlain invs a → Satisfies a env n ys
    → Kept (all_placed level ys) (heap_of (all_placed level ys)) zs
    → AskedThere a env (carried Plain (rung_of level) n) level ys zs
asked_there invs a env n level ys zs plain s kept =
    let rung = rung_of level in
    let plains = all_placed AtPlain ys in
    let there = all_placed level ys in
    let m = carried Plain rung n in
    let moved = asks_stay (truth_of plains) (truth_of there) a Plain env n s.asked.is (agrees_by n.heap (λ k some. placed_agrees AtPlain level ys k)) in
    let is = asks_carried invs (truth_of there) a Plain rung env n plain moved in
    let known = all_told (ground_of plains) (ground_of there) n.heap Plain rung n.claims (λ c at needs k. knows_placed AtPlain level ys c k)
    (claims_alone Plain n (carried_self invs (truth_of plains) a Plain env n plain s.asked.is)) (asks_held (truth_of plains) a Plain env n s.asked.is) s.asked.known in
    let enough = λ (k : Key). line_trans (m.heap k) _ (heap_of there k) (moved_less Plain rung n.heap (heap_of plains) s.enough k) (moved_placed AtPlain level ys k) in
    record {
      is = asks_stay (truth_of there) (truth_of zs) a rung env m is (agrees_less m.heap (heap_of there) enough kept.agrees);
      known = known_kept (ground_of there) (ground_of zs) m.heap m.claims (knows_less m.heap (heap_of there) enough kept.knows).more (asks_held (truth_of there) a rung env m is) known;
      enough = enough;
    }
