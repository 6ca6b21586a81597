-- All parts of an invariant, produced and consumed.
use Rattle.std.proofs.Common.{◌≡◌, ℕ, zero, suc, ◌+◌, ◌≤◌, List, [], ◌∷◌, ◌++◌, map, Option, Some, ℤ, slice_get, refl, sym, subst, ◌∙◌, arith}
use Rattle.fsl_core.specs.declared.assertion.Asrt.{Asrt}
use Rattle.fsl_core.specs.declared.declaration.Inv.{Inv}
use Rattle.fsl_core.specs.declared.mode.Rung.{Rung}
use Rattle.fsl_core.specs.declared.verdict.Mood.TheVariants as mood
use Rattle.fsl_core.specs.Programs.{Program}
use Rattle.fsl_core.specs.logic.States.{State}
use Rattle.fsl_core.specs.logic.Assertions.{Assertion, asrt_of}
use Rattle.fsl_core.specs.logic.Chunks.{Leave}
use Rattle.fsl_core.specs.logic.Locations.{Invariant, setting_of, padded, Piece, pieces_of, parts_at, produce_parts, consume_parts}
use Rattle.fsl_lin.specs.Combination.{Combination}
use Rattle.fsl_lin.specs.Numbers.{Numbers}
use Rattle.fsl_meaning.specs.Means.{Means, AllMean, padded_numbers, Grows}
use Rattle.fsl_meaning.specs.Heaps.{Key, Heap, Holds, nothing, Ground, AllKnown, IsBounded}
use Rattle.fsl_meaning.specs.States.{All, Fits}
use Rattle.fsl_meaning.specs.Branches.{Lands}
use Rattle.fsl_meaning.proofs.Terms.{all_none, all_one, all_append, all_more}
use Rattle.fsl_meaning.proofs.Calculus.{lands_then, lands_give, lands_as}
use Rattle.fsl_meaning.proofs.Owned.{fits_less}
use Rattle.fsl_meaning.proofs.Joining.{bounded_less}
use Rattle.fsl_meaning.proofs.Slots.{all_padded}
use Rattle.fsl_asserted.specs.Needs.{Need, need, asks, both_asked}
use Rattle.fsl_asserted.specs.Fitting.{Gains, Gives}
use Rattle.fsl_asserted.proofs.Asking.{some_is, value_asked, value_is, known_left, known_right, known_both}
use Rattle.fsl_asserted.proofs.Producing.{more_of}
use Rattle.fsl_asserted.proofs.Trees.{produce_fits, consume_fits}
use Rattle.fsl_kept.specs.Parts.{Part, parts_by, parts_in, parts_asked, EachPiece, ArePieces}

-- ---- the pieces of a location

each_piece : (n : ℕ) (v : Numbers) (slots : ℕ) (ts : List Combination) (xs : List ℤ) (items : List Asrt) → AllMean n v ts xs
    → EachPiece n v (map (λ a. record { asrt = a; env = padded slots ts }) (map asrt_of items)) (map (λ a. record { asrt = a; numbers = padded_numbers slots xs }) items)
each_piece n v slots ts xs [] h = tt
each_piece n v slots ts xs (a ∷ items) h = (refl, all_padded slots h, each_piece n v slots ts xs items h)

abbrev pub read_inv : Inv → Invariant
read_inv inv = record { slots = inv.slots; parts = map asrt_of inv.parts }

pieces_are : (n : ℕ) (v : Numbers) (invs : List Inv) (i : ℕ) (args : List Combination) (t : Combination) (xs : List ℤ) (x : ℤ) → AllMean n v (args ++ t ∷ []) (xs ++ x ∷ [])
    → EachPiece n v (pieces_of (slice_get (map read_inv invs) i) args t) (parts_by (slice_get invs i) xs x)
pieces_are n v [] i args t xs x h = tt
pieces_are n v (inv ∷ invs) zero args t xs x h = each_piece n v inv.slots (args ++ t ∷ []) (xs ++ x ∷ []) inv.parts h
pieces_are n v (inv ∷ invs) (suc i) args t xs x h = pieces_are n v invs i args t xs x h

-- the parts that a rule comes to are those of the program's invariant
pub parts_are : {n : ℕ} {v : Numbers} {t : Combination} {xs : List ℤ} {x : ℤ} (p : Program) (l : Leave) → AllMean n v l.args xs → Means n v t x
    → ArePieces n v (parts_at (setting_of asrt_of p) l t) (parts_in p l.inv xs x)
parts_are {n = n} {v = v} {t = t} {xs = xs} {x = x} p l h k = record { each = pieces_are n v p.invs l.inv l.args t xs x (all_append h (all_one k all_none)) }

each_piece_more : (n m : ℕ) (v w : Numbers) (xs : List Piece) (ps : List Part) → Grows n v m w → EachPiece n v xs ps → EachPiece m w xs ps
each_piece_more n m v w [] [] g h = tt
each_piece_more n m v w [] (p ∷ ps) g h = absurd h
each_piece_more n m v w (x ∷ xs) [] g h = absurd h
each_piece_more n m v w (x ∷ xs) (p ∷ ps) g h = (h.0, all_more g h.1, each_piece_more n m v w xs ps g h.2)

pub pieces_more : {n m : ℕ} {v w : Numbers} {xs : List Piece} {ps : List Part} → Grows n v m w → ArePieces n v xs ps → ArePieces m w xs ps
pieces_more {n = n} {m = m} {v = v} {w = w} {xs = xs} {ps = ps} g h = record { each = each_piece_more n m v w xs ps g h.each }

-- ---- produced

line_self : (a : ℕ) → a ≤ a
line_self a = omega arith

line_rest : (a b h m : ℕ) → (a + b) + h ≤ m → b + (a + h) ≤ m
line_rest a b h m l = omega arith

line_middle : (a b h m : ℕ) → (a + b) + h ≤ m → a + h ≤ m
line_middle a b h m l = omega arith

each_produced : (g : Ground) {slots : List ℤ} {v : Numbers} {s : State} (rung : Rung) (xs : List Piece) (ps : List Part) (n : Need) (h more : Heap) → Fits slots (All g h) v s → EachPiece s.next v xs ps
    → parts_asked g.truth rung ps ≡ Some n → AllKnown g n.claims → Holds n.heap h more → IsBounded g.truth more → Lands s.next v (λ u t w. Fits slots (All g more) w t) (produce_parts rung xs s)
each_produced g {s = s} rung [] [] n h more fit each is known holds bounds = lands_give tt s (fits_less more (more_of n.heap h more holds) fit)
each_produced g rung [] (p ∷ ps) n h more fit each is known holds bounds = absurd each
each_produced g rung (x ∷ xs) [] n h more fit each is known holds bounds = absurd each
each_produced g {slots = slots} {v = v} {s = s} rung (x ∷ xs) (p ∷ ps) n h more fit each is known holds bounds =
    let i = value_asked (asks g.truth p.asrt rung p.numbers) _ n is in
    let j = value_asked (parts_asked g.truth rung ps) _ n i.then_is in
    let a = i.value in
    let b = j.value in
    let same = some_is j.then_is in
    let all = subst (λ (m : Need). AllKnown g m.claims) (sym same) known in
    let room = subst (λ (m : Need). Holds m.heap h more) (sym same) holds in
    let mid : Heap = λ k. a.heap k + h k in
    let first : Lands s.next v (Gains g slots mid a.env) (x.asrt.produce rung x.env s) =
    subst (λ (q : Assertion). Lands s.next v (Gains g slots mid a.env) (q.produce rung x.env s)) (sym each.0)
    (produce_fits g p.asrt rung a h mid slots v s x.env p.numbers fit each.1 i.is (known_left g a.claims b.claims all) (λ k. line_self (mid k))
    (bounded_less mid (λ k. line_middle (a.heap k) (b.heap k) (h k) (more k) (room k)) bounds)) in
    lands_then first (λ e t w r f.
    each_produced g rung xs ps b mid more f.fits (each_piece_more s.next t.next v w xs ps r each.2) j.is (known_right g a.claims b.claims all)
    (λ k. line_rest (a.heap k) (b.heap k) (h k) (more k) (room k)) bounds)

pub parts_produced : {g : Ground} {slots : List ℤ} {v : Numbers} {s : State} {h : Heap} {xs : List Piece} {ps : List Part} (rung : Rung) (n : Need) (more : Heap) → Fits slots (All g h) v s → ArePieces s.next v xs ps
    → parts_asked g.truth rung ps ≡ Some n → AllKnown g n.claims → Holds n.heap h more → IsBounded g.truth more → Lands s.next v (λ u t w. Fits slots (All g more) w t) (produce_parts rung xs s)
parts_produced {g = g} {h = h} {xs = xs} {ps = ps} rung n more fit are is known holds bounds = each_produced g rung xs ps n h more fit are.each is known holds bounds

-- ---- consumed

line_none : (a : ℕ) → a ≡ a + 0
line_none a = omega arith

line_parts : (h l a m b : ℕ) → h ≡ l + a → l ≡ m + b → h ≡ m + (a + b)
line_parts h l a m b j k = omega arith

-- what all parts ask for was taken out of h
pub record GivesParts (g : Ground) (slots : List ℤ) (asked : Option Need) (h : Heap) (s : State) (w : Numbers) : Type 0 where
  pub need : Need
  pub is : asked ≡ Some need
  pub known : AllKnown g need.claims
  pub left : Heap
  pub parts : (k : Key) → h k ≡ left k + need.heap k
  pub fits : Fits slots (All g left) w s

each_consumed : (g : Ground) {slots : List ℤ} {v : Numbers} {s : State} (rung : Rung) (xs : List Piece) (ps : List Part) (h : Heap) → Fits slots (All g h) v s → EachPiece s.next v xs ps
    → Lands s.next v (λ u t w. GivesParts g slots (parts_asked g.truth rung ps) h t w) (consume_parts rung xs s)
each_consumed g {s = s} rung [] [] h fit each = lands_give tt s (record { need = need nothing [] []; is = refl; known = tt; left = h; parts = λ k. line_none (h k); fits = fit })
each_consumed g rung [] (p ∷ ps) h fit each = absurd each
each_consumed g rung (x ∷ xs) [] h fit each = absurd each
each_consumed g {slots = slots} {v = v} {s = s} rung (x ∷ xs) (p ∷ ps) h fit each =
    let asked = asks g.truth p.asrt rung p.numbers in
    let first : Lands s.next v (Gives g slots asked h) (x.asrt.consume mood.Cond rung x.env s) =
    subst (λ (q : Assertion). Lands s.next v (Gives g slots asked h) (q.consume mood.Cond rung x.env s)) (sym each.0)
    (consume_fits g p.asrt mood.Cond rung h slots v s x.env p.numbers fit each.1) in
    lands_then first (λ e t w r a.
    lands_as (each_consumed g rung xs ps a.left a.fits (each_piece_more s.next t.next v w xs ps r each.2)) (λ u t2 w2 r2 b. record {
      need = both_asked a.need b.need;
      is = value_is asked a.need _ a.is ∙ value_is (parts_asked g.truth rung ps) b.need _ b.is;
      known = known_both g a.need.claims b.need.claims a.known b.known;
      left = b.left;
      parts = λ k. line_parts (h k) (a.left k) (a.need.heap k) (b.left k) (b.need.heap k) (a.parts k) (b.parts k);
      fits = b.fits;
    }))

pub parts_consumed : {g : Ground} {slots : List ℤ} {v : Numbers} {s : State} {h : Heap} {xs : List Piece} {ps : List Part} (rung : Rung) → Fits slots (All g h) v s → ArePieces s.next v xs ps
    → Lands s.next v (λ u t w. GivesParts g slots (parts_asked g.truth rung ps) h t w) (consume_parts rung xs s)
parts_consumed {g = g} {h = h} {xs = xs} {ps = ps} rung fit are = each_consumed g rung xs ps h fit are.each
