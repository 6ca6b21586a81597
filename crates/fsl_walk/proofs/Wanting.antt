-- What the parts of an invariant ask for is filled: by atoms that a message gives and by those that a thread adds.
use Rattle.std.proofs.Common.{◌≡◌, ◌⊎◌, inl, inr, ℕ, zero, suc, ◌+◌, ◌≤◌, Bool, true, false, if◌then◌else◌, List, [], ◌∷◌, ◌++◌, Some, ℤ, refl, sym, ap, subst, ◌∙◌, arith}
use Rattle.fsl_core.specs.declared.declaration.Inv.{Inv}
use Rattle.fsl_core.specs.declared.mode.Rung.{Rung}
use Rattle.fsl_core.specs.declared.mode.Rung.TheVariants.{Plain, Msg}
use Rattle.fsl_core.specs.logic.Chunks.{same_rung}
use Rattle.fsl_meaning.specs.Heaps.{Key, Key as key, Heap, nothing, Truth, Ground, Claim, Claim as claim, Knows, AllKnown, Needs, Agrees}
use Rattle.fsl_meaning.proofs.Heaps.{same_rung_is}
use Rattle.fsl_meaning.proofs.Kept.{agrees_less, needs_less}
use Rattle.fsl_asserted.specs.Needs.{Need, need, asks, both_asked}
use Rattle.fsl_asserted.proofs.Asking.{some_is, value_asked, value_is}
use Rattle.fsl_asserted.proofs.Stays.{asks_stay}
use Rattle.fsl_kept.specs.Changes.{lifted, without}
use Rattle.fsl_kept.specs.Parts.{Part, parts_asked}
use Rattle.fsl_kept.specs.Threads.{all_needs}
use Rattle.fsl_passed.specs.Passing.{IsGiven, IsPassed, AllPassed}
use Rattle.fsl_updated.specs.Grounds.{of_message}
use Rattle.fsl_own.specs.Owning.{Cell}
use Rattle.fsl_own.specs.Atoms.{Atom, demand}
use Rattle.fsl_good.specs.Pieces.{together, Level, AtPlain, AtUp, AtDown, Piece, all_placed, Entails, Yields, IsPossible}
use Rattle.fsl_held.specs.Heaps.{heap_of, truth_of, ground_of}
use Rattle.fsl_held.specs.Parts.{rung_of, HasCellsAt, is_claim_at, atoms_of, IsInFront, Cut}
use Rattle.fsl_held.specs.Asked.{EachAsks}
use Rattle.fsl_held.proofs.Heaps.{knows_front, knows_behind}
use Rattle.fsl_held.proofs.Given.{atoms_placed}
use Rattle.fsl_held.proofs.Fronts.{front_is_kept}
use Rattle.fsl_held.proofs.Kept.{EachNeeded, each_more, each_both, asks_held}
use Rattle.fsl_walk.proofs.Possible.{entailed_possible}
use Rattle.fsl_walk.proofs.Agreeing.{AgreesAt, agrees_at, agrees_by, at_then, entails_then, entails_both, entails_self, entails_front}
use Rattle.fsl_walk.proofs.Yielding.{yields_then, yields_swap, yields_front}
use Rattle.fsl_walk.proofs.Placing.{placed_agrees, cells_placed, at_rung, possible_turned}
use Rattle.fsl_walk.proofs.Needing.{carried_self, cells_alone, EachAt, claims_alone}
use Rattle.fsl_walk.proofs.Parting.{EachPlain, AskedApart, asked_apart, placed_more, Sends, sends}
use Rattle.fsl_walk.proofs.Telling.{Telling}
use Rattle.fsl_walk.proofs.Dividing.{Shares}

-- ---- what parts ask for together

line_left : (a b : ℕ) → a ≤ a + b
line_left a b = omega arith

line_right : (a b : ℕ) → b ≤ a + b
line_right a b = omega arith

-- it stays where nothing changed of it
pub parts_stay : (t later : Truth) (rung : Rung) (ps : List Part) (n : Need) → parts_asked t rung ps ≡ Some n → Agrees t later n.heap → parts_asked later rung ps ≡ Some n
parts_stay t later rung [] n e agrees = e
parts_stay t later rung (p ∷ ps) n e agrees =
    let i = value_asked (asks t p.asrt rung p.numbers) _ n e in
    let j = value_asked (parts_asked t rung ps) _ n i.then_is in
    let both : Agrees t later (both_asked i.value j.value).heap = subst (λ (z : Need). Agrees t later z.heap) (sym (some_is j.then_is)) agrees in
    let first = asks_stay t later p.asrt rung p.numbers i.value i.is (agrees_less i.value.heap (both_asked i.value j.value).heap (λ k. line_left (i.value.heap k) (j.value.heap k)) both) in
    let others = parts_stay t later rung ps j.value j.is (agrees_less j.value.heap (both_asked i.value j.value).heap (λ k. line_right (i.value.heap k) (j.value.heap k)) both) in
    value_is (asks later p.asrt rung p.numbers) i.value _ first ∙ value_is (parts_asked later rung ps) j.value _ others ∙ j.then_is

-- it stands at the rung, with what stands beside its claims
pub record StandsAt (rung : Rung) (n : Need) : Type 0 where
  pub alone : HasCellsAt rung n.heap
  pub at : EachAt rung n.claims
  pub needed : EachNeeded n.heap n.claims

each_at_both : (rung : Rung) (cs ds : List Claim) → EachAt rung cs → EachAt rung ds → EachAt rung (cs ++ ds)
each_at_both rung [] ds p q = q
each_at_both rung (c ∷ cs) ds p q = (p.0, each_at_both rung cs ds p.1 q)

line_none : (a b : ℕ) → a ≡ 0 → b ≡ 0 → a + b ≡ 0
line_none a b p q = omega arith

pub parts_stand : (invs : List Inv) (t : Truth) (rung : Rung) (ps : List Part) (n : Need) → EachPlain invs ps → parts_asked t rung ps ≡ Some n → StandsAt rung n
parts_stand invs t rung [] n plain e = subst (λ (z : Need). StandsAt rung z) (some_is e) (record { alone = λ r l other. refl; at = tt; needed = tt })
parts_stand invs t rung (p ∷ ps) n plain e =
    let i = value_asked (asks t p.asrt rung p.numbers) _ n e in
    let j = value_asked (parts_asked t rung ps) _ n i.then_is in
    let both = both_asked i.value j.value in
    let rest = parts_stand invs t rung ps j.value plain.1 j.is in
    let self = carried_self invs t p.asrt rung p.numbers i.value plain.0 i.is in
    subst (λ (z : Need). StandsAt rung z) (some_is j.then_is) (record {
      alone = λ r l other. line_none (i.value.heap (key.Cell r l)) (j.value.heap (key.Cell r l)) (cells_alone rung i.value self r l other) (rest.alone r l other);
      at = each_at_both rung i.value.claims j.value.claims (claims_alone rung i.value self) rest.at;
      needed = each_both both.heap i.value.claims j.value.claims
          (each_more i.value.heap both.heap i.value.claims (λ k. line_left (i.value.heap k) (j.value.heap k)) (asks_held t p.asrt rung p.numbers i.value i.is))
          (each_more j.value.heap both.heap j.value.claims (λ k. line_right (i.value.heap k) (j.value.heap k)) rest.needed);
    })

-- ---- cells that are put at a level

line_nothing : (n : ℕ) → 0 ≤ n
line_nothing n = omega arith

pub lifted_placed : (a : Level) (h : Heap) (ys : List Atom) → ((l : ℤ) → h (key.Cell Msg l) ≤ demand ys (Cell l)) → (k : Key) → lifted Msg (rung_of a) h k ≤ heap_of (all_placed a ys) k
lifted_placed a h ys less (key.Permission l p) = line_nothing (heap_of (all_placed a ys) (key.Permission l p))
lifted_placed a h ys less (key.Tokens b) = line_nothing (heap_of (all_placed a ys) (key.Tokens b))
lifted_placed a h ys less (key.Bank b) = line_nothing (heap_of (all_placed a ys) (key.Bank b))
lifted_placed a h ys less (key.Cell r l) = by_case (same_rung (rung_of a) r) refl
  where
    by_case : (b : Bool) → same_rung (rung_of a) r ≡ b → (if b then h (key.Cell Msg l) else 0) ≤ heap_of (all_placed a ys) (key.Cell r l)
    by_case false e = line_nothing (heap_of (all_placed a ys) (key.Cell r l))
    by_case true e =
        subst (λ (q : Rung). h (key.Cell Msg l) ≤ heap_of (all_placed a ys) (key.Cell q l)) (same_rung_is (rung_of a) r e)
        (subst (λ (n : ℕ). h (key.Cell Msg l) ≤ n) (sym (cells_placed a ys l)) (less l))

no_share : {X : Type 0} → 1 ≤ 0 → X
no_share h = absurd (let z : 1 ≤ 0 = h in omega (arith, z))

some_if : (b : Bool) (n : ℕ) → 1 ≤ (if b then n else 0) → 1 ≤ n
some_if true n h = h
some_if false n h = no_share h

-- where something was put, the message had it
pub lifted_agrees : (t later : Truth) (rung : Rung) (h : Heap) → ((l x : ℤ) → 1 ≤ h (key.Cell Msg l) → t.value l ≡ Some x → later.value l ≡ Some x) → (k : Key) → 1 ≤ lifted Msg rung h k
    → AgreesAt t later k
lifted_agrees t later rung h values (key.Cell r l) some = λ x is. values l x (some_if (same_rung rung r) (h (key.Cell Msg l)) some) is
lifted_agrees t later rung h values (key.Permission l p) some = no_share some
lifted_agrees t later rung h values (key.Tokens b) some = tt
lifted_agrees t later rung h values (key.Bank b) some = no_share some

-- ---- claims

not_msg : (a : Level) (c : Claim) → is_claim_at (rung_of a) c ≡ true → of_message c ≡ false
not_msg a (claim.MayWrite l i xs) e = refl
not_msg a (claim.MayRead l i xs) e = refl
not_msg a (claim.MayUpdate l i xs) e = refl
not_msg a (claim.IsInit r l) e = subst (λ (q : Rung). same_rung q Msg ≡ false) (sym (same_rung_is r (rung_of a) e)) (by_level a)
  where
    by_level : (a : Level) → same_rung (rung_of a) Msg ≡ false
    by_level AtPlain = refl
    by_level AtUp = refl
    by_level AtDown = refl

line_added : (h a : ℕ) → h ≡ 0 + a → 1 ≤ h → 1 ≤ a
line_added h a e p = omega arith

-- permissions are the thread's
needs_added : (h added given : Heap) (rung : Rung) → ((k : Key) → h k ≡ lifted Msg rung given k + added k) → (c : Claim) → Needs h c → Needs added c
needs_added h added given rung is (claim.IsInit r l) n = tt
needs_added h added given rung is (claim.MayWrite l i xs) n = tt
needs_added h added given rung is (claim.MayUpdate l i xs) n = tt
needs_added h added given rung is (claim.MayRead l i xs) n = (n.0, line_added (h (key.Permission l n.0)) (added (key.Permission l n.0)) (is (key.Permission l n.0)) n.1)

all_known : (g read : Ground) (rung : Rung) (h : Heap) → ((c : Claim) → is_claim_at rung c ≡ true → Needs h c → IsPassed read rung c → Knows g c) → (cs : List Claim)
    → EachAt rung cs → EachNeeded h cs → AllPassed read rung cs → AllKnown g cs
all_known g read rung h each [] p n q = tt
all_known g read rung h each (c ∷ cs) p n q = (each c p.0 n.0 q.0, all_known g read rung h each cs p.1 n.1 q.1)

-- ---- all parts

either : (a b n : ℕ) → n ≡ a + b → 1 ≤ n → (1 ≤ a) ⊎ (1 ≤ b)
either zero b n e h = inr (omega (arith, e, h))
either (suc a) b n e h = inl (omega arith)

line_there : (a b : ℕ) → 1 ≤ a → a ≤ b → 1 ≤ b
line_there a b p q = omega arith

line_equal : (a b : ℕ) → a ≡ b → b ≤ a
line_equal a b e = omega arith

line_filled : (n g a m o w : ℕ) → n ≡ g + a → m ≡ a → g ≤ o → w ≡ m + o → n ≤ w
line_filled n g a m o w p q l e = omega arith

line_as : (a b c : ℕ) → a ≡ b → a ≤ c → b ≤ c
line_as a b c e l = omega arith

pub record Wanted (ps : List Part) (on mine : List Atom) : Type 0 where
  pub atoms : List (List Atom)
  pub each : EachAsks ps atoms
  pub meets : Yields (on ++ mine) (together atoms)

pub wanted : {read : Ground} {more under given kept joined added : Heap} {pool : List Atom} {zs message thread : List Piece} (invs : List Inv) (level : Level) (ps : List Part) (n : Need) → EachPlain invs ps
    → parts_asked read.truth (rung_of level) ps ≡ Some n → AllPassed read (rung_of level) n.claims → ((k : Key) → n.heap k ≡ lifted Msg (rung_of level) given k + added k)
    → Telling read more under pool zs message thread → (sh : Shares given kept joined message) → (c : Cut level added thread)
    → ((l : ℤ) → given (key.Cell Msg l) ≤ more (key.Cell Msg l)) → ((k : Key) → added k ≤ without Msg more k) → ((k : Key) → added k ≤ more k) → Wanted ps sh.on c.atoms
wanted {read = read} {more = more} {given = given} {added = added} {message = message} {thread = thread} invs level ps n plain is passed parts tells sh c less_given less_added less_more = record {
  atoms = sent.atoms;
  each = sent.each;
  meets = yields_then (yields_swap sh.on c.atoms) (yields_then (subst (λ (ys : List Atom). Yields ys (together sent.atoms ++ atoms_of sent.rest)) whole sent.yields) (yields_front (together sent.atoms) (atoms_of sent.rest)));
}
  where
    mine : List Piece
    mine = all_placed level c.atoms

    on : List Piece
    on = all_placed level sh.on

    whole : atoms_of (mine ++ on) ≡ c.atoms ++ sh.on
    whole = ap atoms_of (sym (placed_more level c.atoms sh.on)) ∙ atoms_placed level (c.atoms ++ sh.on)

    possible : IsPossible (mine ++ on)
    possible = possible_turned AtPlain level sh.on mine (entailed_possible (message ++ thread) (all_placed AtPlain sh.on ++ mine)
        (entails_both message thread (all_placed AtPlain sh.on) mine sh.gives (entails_then c.is.gives (entails_front mine c.rest))) tells.possible)

    front : IsInFront mine on
    front = front_is_kept mine on possible

    values : (l x : ℤ) → 1 ≤ given (key.Cell Msg l) → read.truth.value l ≡ Some x → (truth_of (mine ++ on)).value l ≡ Some x
    values l x some said =
        front.behind.agrees.value (rung_of level) l x (subst (λ (m : ℕ). 1 ≤ m) (sym (cells_placed level sh.on l ∙ sh.on_is l)) some)
        (placed_agrees AtPlain level sh.on (key.Cell Plain l) x (sh.on_says l x some (tells.values l x (line_there (given (key.Cell Msg l)) (more (key.Cell Msg l)) some (less_given l)) said)))

    added_at : (k : Key) → 1 ≤ added k → AgreesAt read.truth (truth_of (mine ++ on)) k
    added_at k some =
        at_then read.truth (truth_of thread) (truth_of (mine ++ on)) k (agrees_at tells.agrees k (line_there (added k) (without Msg more k) some (less_added k)))
        (at_then (truth_of thread) (truth_of mine) (truth_of (mine ++ on)) k (agrees_at c.is.agrees k some)
        (agrees_at front.front.agrees k (line_there (added k) (heap_of mine k) some (line_equal (heap_of mine k) (added k) (c.is.taken k)))))

    agrees : Agrees read.truth (truth_of (mine ++ on)) n.heap
    agrees = agrees_by n.heap (λ k some. elim (either (lifted Msg (rung_of level) given k) (added k) (n.heap k) (parts k) some) [
      | inl g ↦ lifted_agrees read.truth (truth_of (mine ++ on)) (rung_of level) given values k g
      | inr a ↦ added_at k a
    ])

    stands : StandsAt (rung_of level) n
    stands = parts_stand invs read.truth (rung_of level) ps n plain is

    one_known : (d : Claim) → is_claim_at (rung_of level) d ≡ true → Needs n.heap d → IsPassed read (rung_of level) d → Knows (ground_of (mine ++ on)) d
    one_known d at needs (inl known) =
        let beside = needs_added n.heap added given (rung_of level) parts d needs in
        knows_front mine on d (c.is.knows d at beside (tells.knows d (not_msg level d at) (needs_less added more less_more d beside) known))
    one_known d at needs (inr g) =
        subst (λ (z : Claim). Knows (ground_of (mine ++ on)) z) (sym g.is)
        (knows_behind mine on (claim.IsInit (rung_of level) g.loc) (sh.on_knows level (rung_of level) g.loc (at_rung level) (tells.given g.loc g.known)))

    enough : (k : Key) → n.heap k ≤ heap_of (mine ++ on) k
    enough k =
        line_filled (n.heap k) (lifted Msg (rung_of level) given k) (added k) (heap_of mine k) (heap_of on k) (heap_of (mine ++ on) k) (parts k) (c.is.taken k)
        (lifted_placed level given sh.on (λ l. line_equal (demand sh.on (Cell l)) (given (key.Cell Msg l)) (sh.on_is l)) k) (front.sum k)

    apart : AskedApart (mine ++ on) (rung_of level) ps n
    apart = asked_apart (mine ++ on) (rung_of level) ps n (parts_stay read.truth (truth_of (mine ++ on)) (rung_of level) ps n is agrees)
        (all_known (ground_of (mine ++ on)) read (rung_of level) n.heap one_known n.claims stands.at stands.needed passed)

    sent : Sends level ps (all_needs apart.needs) (mine ++ on)
    sent = sends invs level ps apart.needs (mine ++ on) plain possible apart.each (λ k. line_as (n.heap k) _ (heap_of (mine ++ on) k) (apart.sum k) (enough k))
