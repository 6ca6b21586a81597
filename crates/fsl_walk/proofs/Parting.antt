-- The parts of an invariant taken out of what a thread has, one after the other, at plain or at up: the atoms of each
-- satisfy it.
use Rattle.std.proofs.Common.{◌≡◌, ℕ, zero, suc, ◌+◌, ◌≤◌, Bool, true, false, List, [], ◌∷◌, ◌++◌, map, get_or, slice_get, Option, Some, None, ℤ, refl, sym, ap, subst, ◌∙◌, arith}
use Rattle.std.specs.List.{list_all}
use Rattle.std.proofs.lemmas.Bool.{and_parts}
use Rattle.std.proofs.lemmas.List.{append_assoc}
use Rattle.fsl_core.specs.declared.assertion.Asrt.{Asrt}
use Rattle.fsl_core.specs.declared.declaration.Inv.{Inv}
use Rattle.fsl_core.specs.declared.mode.Rung.{Rung}
use Rattle.fsl_core.specs.declared.mode.Rung.TheVariants.{Plain}
use Rattle.fsl_core.specs.Programs.{Program}
use Rattle.fsl_core.specs.WellFormed.{asrt_fits, inv_fits, inv_is_well}
use Rattle.fsl_meaning.specs.Means.{padded_numbers}
use Rattle.fsl_meaning.specs.Heaps.{Key, Heap, Ground, Claim, Needs, Knows, AllKnown}
use Rattle.fsl_meaning.proofs.Kept.{agrees_less, knows_less}
use Rattle.fsl_asserted.specs.Needs.{Need, need, asks, both_asked}
use Rattle.fsl_asserted.specs.Carried.{carried, IsPlain}
use Rattle.fsl_asserted.proofs.Asking.{some_is, value_asked, known_left, known_right}
use Rattle.fsl_asserted.proofs.Carried.{asks_carried}
use Rattle.fsl_asserted.proofs.Stays.{asks_stay}
use Rattle.fsl_kept.specs.Parts.{Part, parts_by, parts_in, parts_asked}
use Rattle.fsl_kept.specs.Threads.{all_needs}
use Rattle.fsl_own.specs.Atoms.{Atom}
use Rattle.fsl_good.specs.Pieces.{together, Level, AtPlain, Piece, placed, all_placed, Entails, Yields, IsPossible}
use Rattle.fsl_held.specs.Heaps.{heap_of, truth_of, ground_of, Kept}
use Rattle.fsl_held.specs.Parts.{rung_of, atoms_of, Cut}
use Rattle.fsl_held.specs.Asked.{Satisfies, PartAsks, EachAsks}
use Rattle.fsl_held.proofs.Cutting.{heap_cut}
use Rattle.fsl_held.proofs.Kept.{EachNeeded, asks_held}
use Rattle.fsl_walk.proofs.Rounds.{kept_less, kept_then, kept_self}
use Rattle.fsl_walk.proofs.Agreeing.{agrees_by, entails_then, entails_both, entails_self}
use Rattle.fsl_walk.proofs.Yielding.{yields_self, yields_then, yields_both}
use Rattle.fsl_walk.proofs.Placing.{placed_agrees, moved_placed, knows_placed}
use Rattle.fsl_walk.proofs.Needing.{carried_self, cells_alone, claims_alone, all_told, moved_same}

-- ---- no modality stands in an invariant

abbrev pub EachPlain : List Inv → List Part → Type 0
EachPlain invs [] = Unit {0}
EachPlain invs (p ∷ ps) = IsPlain invs p.asrt × EachPlain invs ps

abbrev pub AreInvsWell : Program → Type 0
AreInvsWell p = list_all (inv_is_well p.invs) p.invs ≡ true

one_of_all : {X : Type 0} (f : X → Bool) (xs : List X) (i : ℕ) (x : X) → list_all f xs ≡ true → slice_get xs i ≡ Some x → f x ≡ true
one_of_all f [] i x h e = absurd (let d : None ≡ Some x = e in cc)
one_of_all f (y ∷ ys) zero x h e = let d : Some y ≡ Some x = e in subst (λ (z : _). f z ≡ true) (some_is d) (and_parts (f y) (list_all f ys) h).0
one_of_all f (y ∷ ys) (suc i) x h e = one_of_all f ys i x (and_parts (f y) (list_all f ys) h).1 e

map_plain : (invs : List Inv) (asrts : List Asrt) (numbers : List ℤ) → list_all (λ a. asrt_fits invs a false) asrts ≡ true → EachPlain invs (map (λ a. record { asrt = a; numbers = numbers }) asrts)
map_plain invs [] numbers h = tt
map_plain invs (a ∷ rest) numbers h = let p = and_parts (asrt_fits invs a false) (list_all (λ a. asrt_fits invs a false) rest) h in (p.0, map_plain invs rest numbers p.1)

pub parts_plain : (p : Program) (inv : ℕ) (args : List ℤ) (x : ℤ) → AreInvsWell p → EachPlain p.invs (parts_in p inv args x)
parts_plain p inv args x well = by_case (slice_get p.invs inv) refl
  where
    by_case : (o : Option Inv) → slice_get p.invs inv ≡ o → EachPlain p.invs (parts_by o args x)
    by_case None e = tt
    by_case (Some i) e =
        map_plain p.invs i.parts (padded_numbers i.slots (args ++ x ∷ [])) (and_parts (inv_fits p.invs i) _ (one_of_all (inv_is_well p.invs) p.invs inv i well e)).0

-- ---- one part

-- atoms that were cut out at a level satisfy what they were cut out for
pub cut_satisfies : (invs : List Inv) (level : Level) (xs : List Piece) (a : Asrt) (env : List ℤ) (n : Need) → IsPlain invs a → asks (truth_of xs) a (rung_of level) env ≡ Some n
    → AllKnown (ground_of xs) n.claims
    → (c : Cut level n.heap xs) → Satisfies a env (carried (rung_of level) Plain n) c.atoms
cut_satisfies invs level xs a env n plain is known c =
    let rung = rung_of level in
    let there = all_placed level c.atoms in
    let plains = all_placed AtPlain c.atoms in
    let first = asks_stay (truth_of xs) (truth_of there) a rung env n is c.is.agrees in
    let second = asks_stay (truth_of there) (truth_of plains) a rung env n first (agrees_by n.heap (λ k some. placed_agrees level AtPlain c.atoms k)) in
    record {
      asked = record {
        is = asks_carried invs (truth_of plains) a rung Plain env n plain second;
        known = all_told (ground_of xs) (ground_of plains) n.heap rung Plain n.claims (λ b at needs k. knows_placed level AtPlain c.atoms b (c.is.knows b at needs k))
            (claims_alone rung n (carried_self invs (truth_of xs) a rung env n plain is)) (asks_held (truth_of xs) a rung env n is) known;
      };
      enough = λ k. subst (λ (m : ℕ). m ≤ heap_of plains k) (moved_same rung Plain (heap_of there) n.heap c.is.taken k) (moved_placed level AtPlain c.atoms k);
    }

-- ---- all parts

abbrev pub EachAsked : List Piece → Rung → List Part → List Need → Type 0
EachAsked xs rung [] [] = Unit {0}
EachAsked xs rung (p ∷ ps) (n ∷ ns) = (asks (truth_of xs) p.asrt rung p.numbers ≡ Some n) × AllKnown (ground_of xs) n.claims × EachAsked xs rung ps ns
EachAsked xs rung _ _ = ⊥

-- what several ask for together is what each asks for
pub record AskedApart (xs : List Piece) (rung : Rung) (ps : List Part) (n : Need) : Type 0 where
  pub needs : List Need
  pub each : EachAsked xs rung ps needs
  pub sum : (k : Key) → n.heap k ≡ all_needs needs k

pub asked_apart : (xs : List Piece) (rung : Rung) (ps : List Part) (n : Need) → parts_asked (truth_of xs) rung ps ≡ Some n → AllKnown (ground_of xs) n.claims → AskedApart xs rung ps n
asked_apart xs rung [] n e known = let d : need (λ k. 0) [] [] ≡ n = some_is e in record { needs = []; each = tt; sum = λ k. sym (ap (λ (z : Need). z.heap k) d) }
asked_apart xs rung (p ∷ ps) n e known =
    let i = value_asked (asks (truth_of xs) p.asrt rung p.numbers) _ n e in
    let j = value_asked (parts_asked (truth_of xs) rung ps) _ n i.then_is in
    let d : both_asked i.value j.value ≡ n = some_is j.then_is in
    let all = subst (λ (z : Need). AllKnown (ground_of xs) z.claims) (sym d) known in
    let rest = asked_apart xs rung ps j.value j.is (known_right (ground_of xs) i.value.claims j.value.claims all) in
    record {
      needs = i.value ∷ rest.needs;
      each = (i.is, known_left (ground_of xs) i.value.claims j.value.claims all, rest.each);
      sum = λ k. sym (ap (λ (z : Need). z.heap k) d) ∙ ap (λ (m : ℕ). i.value.heap k + m) (rest.sum k);
    }

pub known_kept : (g later : Ground) (h : Heap) (cs : List Claim) → ((c : Claim) → Needs h c → Knows g c → Knows later c) → EachNeeded h cs → AllKnown g cs → AllKnown later cs
known_kept g later h [] more n k = tt
known_kept g later h (c ∷ cs) more n k = (more c n.0 k.0, known_kept g later h cs more n.1 k.1)

line_first : (a b h : ℕ) → a + b ≤ h → a ≤ h
line_first a b h l = omega arith

line_last : (a b h : ℕ) → a + b ≤ h → b ≤ h
line_last a b h l = omega arith

pub each_kept : (xs ys : List Piece) (h : Heap) (rung : Rung) (ps : List Part) (ns : List Need) → Kept xs h ys → ((k : Key) → all_needs ns k ≤ h k) → EachAsked xs rung ps ns → EachAsked ys rung ps ns
each_kept xs ys h rung [] [] kept less each = tt
each_kept xs ys h rung [] (n ∷ ns) kept less each = absurd each
each_kept xs ys h rung (p ∷ ps) [] kept less each = absurd each
each_kept xs ys h rung (p ∷ ps) (n ∷ ns) kept less each =
    let within = λ (k : Key). line_first (n.heap k) (all_needs ns k) (h k) (less k) in (
      asks_stay (truth_of xs) (truth_of ys) p.asrt rung p.numbers n each.0 (agrees_less n.heap h within kept.agrees),
      known_kept (ground_of xs) (ground_of ys) n.heap n.claims (knows_less n.heap h within kept.knows).more (asks_held (truth_of xs) p.asrt rung p.numbers n each.0) each.1,
      each_kept xs ys h rung ps ns kept (λ k. line_last (n.heap k) (all_needs ns k) (h k) (less k)) each.2,
    )

-- they were taken out in turn
pub record Sends (level : Level) (ps : List Part) (h : Heap) (xs : List Piece) : Type 0 where
  pub atoms : List (List Atom)
  pub rest : List Piece
  pub gives : Entails xs (all_placed level (together atoms) ++ rest)
  pub yields : Yields (atoms_of xs) (together atoms ++ atoms_of rest)
  pub each : EachAsks ps atoms
  pub left : (k : Key) → heap_of xs k ≡ heap_of rest k + h k
  pub kept : Kept xs (heap_of rest) rest
  pub possible : IsPossible rest

pub placed_more : (a : Level) (xs ys : List Atom) → all_placed a (xs ++ ys) ≡ all_placed a xs ++ all_placed a ys
placed_more a [] ys = refl
placed_more a (x ∷ xs) ys = ap (λ (zs : List Piece). placed a x ∷ zs) (placed_more a xs ys)

-- one part, and those behind it
gives_more : (a : Level) (ys zs : List Atom) (xs mid rest : List Piece) → Entails xs (all_placed a ys ++ mid) → Entails mid (all_placed a zs ++ rest) → Entails xs (all_placed a (ys ++ zs) ++ rest)
gives_more a ys zs xs mid rest first second =
    let here : List Piece = all_placed a ys in
    let behind : List Piece = all_placed a zs in
    let apart : (here ++ behind) ++ rest ≡ here ++ (behind ++ rest) = append_assoc here behind rest in
    let placed : all_placed a (ys ++ zs) ++ rest ≡ (here ++ behind) ++ rest = ap (λ (ps : List Piece). ps ++ rest) (placed_more a ys zs) in
    subst (λ (ps : List Piece). Entails xs ps) (sym (placed ∙ apart)) (entails_then first (entails_both here mid here (behind ++ rest) (entails_self here) second))

yields_more : (ys zs xs mid rest : List Atom) → Yields xs (ys ++ mid) → Yields mid (zs ++ rest) → Yields xs ((ys ++ zs) ++ rest)
yields_more ys zs xs mid rest first second =
    subst (λ (ws : List Atom). Yields xs ws) (sym (append_assoc ys zs rest)) (yields_then first (yields_both ys mid ys (zs ++ rest) (yields_self ys) second))

line_zero : (n : ℕ) → n ≡ n + 0
line_zero n = omega arith

line_rest : (a b x r : ℕ) → a + b ≤ x → x ≡ r + a → b ≤ r
line_rest a b x r l e = omega arith

line_sum : (x r s a b : ℕ) → x ≡ r + a → r ≡ s + b → x ≡ s + (a + b)
line_sum x r s a b e f = omega arith

line_less : (r s b : ℕ) → r ≡ s + b → s ≤ r
line_less r s b e = omega arith

pub sends : (invs : List Inv) (level : Level) (ps : List Part) (ns : List Need) (xs : List Piece) → EachPlain invs ps → IsPossible xs → EachAsked xs (rung_of level) ps ns
    → ((k : Key) → all_needs ns k ≤ heap_of xs k)
    → Sends level ps (all_needs ns) xs
sends invs level [] [] xs plain possible each within =
    record { atoms = []; rest = xs; gives = entails_self xs; yields = yields_self (atoms_of xs); each = tt; left = λ k. line_zero (heap_of xs k); kept = kept_self xs (heap_of xs); possible = possible }
sends invs level [] (n ∷ ns) xs plain possible each within = absurd each
sends invs level (p ∷ ps) [] xs plain possible each within = absurd each
sends invs level (p ∷ ps) (n ∷ ns) xs plain possible each within =
    let rung = rung_of level in
    let c = heap_cut level n.heap xs possible (cells_alone rung n (carried_self invs (truth_of xs) p.asrt rung p.numbers n plain.0 each.0)) (λ k. line_first (n.heap k) (all_needs ns k)
    (heap_of xs k) (within k)) in
    let less = λ (k : Key). line_rest (n.heap k) (all_needs ns k) (heap_of xs k) (heap_of c.rest k) (within k) (c.is.left k) in
    let more = sends invs level ps ns c.rest plain.1 c.is.possible (each_kept xs c.rest (heap_of c.rest) rung ps ns c.is.kept less each.2) less in
    record {
      atoms = c.atoms ∷ more.atoms;
      rest = more.rest;
      gives = gives_more level c.atoms (together more.atoms) xs c.rest more.rest c.is.gives more.gives;
      yields = yields_more c.atoms (together more.atoms) (atoms_of xs) (atoms_of c.rest) (atoms_of more.rest) c.is.yields more.yields;
      each = ((carried rung Plain n, cut_satisfies invs level xs p.asrt p.numbers n plain.0 each.0 each.1 c), more.each);
      left = λ k. line_sum (heap_of xs k) (heap_of c.rest k) (heap_of more.rest k) (n.heap k) (all_needs ns k) (c.is.left k) (more.left k);
      kept = kept_then (kept_less (heap_of more.rest) (heap_of c.rest) (λ k. line_less (heap_of c.rest k) (heap_of more.rest k) (all_needs ns k) (more.left k)) c.is.kept) more.kept;
      possible = more.possible;
    }

-- ---- one of them

pub part_of_all : (ps : List Part) (yss : List (List Atom)) (i : ℕ) → EachAsks ps yss → PartAsks (slice_get ps i) (get_or yss i [])
part_of_all [] [] i each = tt
part_of_all [] (ys ∷ yss) i each = absurd each
part_of_all (p ∷ ps) [] i each = absurd each
part_of_all (p ∷ ps) (ys ∷ yss) zero each = each.0
part_of_all (p ∷ ps) (ys ∷ yss) (suc i) each = part_of_all ps yss i each.1
