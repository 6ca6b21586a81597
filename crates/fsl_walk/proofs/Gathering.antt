-- What all parts of an invariant ask for together, by atoms that have each of them, and what they ask for at another rung.
use Rattle.std.proofs.Common.{◌≡◌, ℕ, ◌+◌, ◌≤◌, Bool, true, false, if◌then◌else◌, List, [], ◌∷◌, ◌++◌, Some, refl, sym, ap, subst, ◌∙◌, arith}
use Rattle.fsl_core.specs.declared.declaration.Inv.{Inv}
use Rattle.fsl_core.specs.declared.mode.Rung.{Rung}
use Rattle.fsl_core.specs.declared.mode.Rung.TheVariants.{Plain}
use Rattle.fsl_core.specs.logic.Chunks.{same_rung}
use Rattle.fsl_meaning.specs.Heaps.{Key, Key as key, Heap, nothing, Claim, Ground, Needs, Knows, AllKnown, Agrees}
use Rattle.fsl_meaning.proofs.Kept.{agrees_less, needs_less}
use Rattle.fsl_asserted.specs.Needs.{Need, need, asks, both_asked}
use Rattle.fsl_asserted.specs.Carried.{moved, claim_at, carried}
use Rattle.fsl_asserted.proofs.Asking.{value_is, known_both}
use Rattle.fsl_asserted.proofs.Carried.{asks_carried}
use Rattle.fsl_asserted.proofs.Stays.{asks_stay}
use Rattle.fsl_kept.specs.Parts.{Part, parts_asked}
use Rattle.fsl_kept.specs.Threads.{all_needs}
use Rattle.fsl_own.specs.Atoms.{Atom}
use Rattle.fsl_good.specs.Pieces.{together, AtPlain, Piece, all_placed, IsPossible}
use Rattle.fsl_held.specs.Heaps.{heap_of, truth_of, ground_of}
use Rattle.fsl_held.specs.Parts.{is_claim_at}
use Rattle.fsl_held.specs.Asked.{PartAsks, EachAsks}
use Rattle.fsl_held.proofs.Fronts.{front_is_kept}
use Rattle.fsl_held.proofs.Kept.{asks_held, asked_is_kept}
use Rattle.fsl_walk.proofs.Needing.{carried_self, claims_alone, all_told}
use Rattle.fsl_walk.proofs.Parting.{EachPlain, EachAsked, each_kept, placed_more}

-- ---- by the atoms of all

-- by what pieces say, each part asks for something, and they have all of it
pub record Gathered (ps : List Part) (xs : List Piece) : Type 0 where
  pub needs : List Need
  pub each : EachAsked xs Plain ps needs
  pub within : (k : Key) → all_needs needs k ≤ heap_of xs k

line_nothing : (n : ℕ) → 0 ≤ n
line_nothing n = omega arith

line_both : (a b c d e : ℕ) → a ≤ c → b ≤ d → e ≡ c + d → a + b ≤ e
line_both a b c d e p q f = omega arith

gather_one : (p : Part) (ps : List Part) (ys : List Atom) (rest : List Piece) → PartAsks (Some p) ys → IsPossible (all_placed AtPlain ys ++ rest) → Gathered ps rest
    → Gathered (p ∷ ps) (all_placed AtPlain ys ++ rest)
gather_one p ps ys rest asked possible more =
    let here = all_placed AtPlain ys in
    let f = front_is_kept here rest possible in
    let n = asked.0 in
    let a = asked_is_kept here (here ++ rest) (heap_of here) p.asrt p.numbers n f.front asked.1.enough asked.1.asked in
    record {
      needs = n ∷ more.needs;
      each = (a.is, a.known, each_kept rest (here ++ rest) (heap_of rest) Plain ps more.needs f.behind more.within more.each);
      within = λ k. line_both (n.heap k) (all_needs more.needs k) (heap_of here k) (heap_of rest k) (heap_of (here ++ rest) k) (asked.1.enough k) (more.within k) (f.sum k);
    }

pub gathered : (ps : List Part) (yss : List (List Atom)) → EachAsks ps yss → IsPossible (all_placed AtPlain (together yss)) → Gathered ps (all_placed AtPlain (together yss))
gathered [] [] each possible = record { needs = []; each = tt; within = λ k. line_nothing (heap_of [] k) }
gathered [] (ys ∷ yss) each possible = absurd each
gathered (p ∷ ps) [] each possible = absurd each
gathered (p ∷ ps) (ys ∷ yss) each possible =
    let rest : List Piece = all_placed AtPlain (together yss) in
    let apart : all_placed AtPlain (ys ++ together yss) ≡ all_placed AtPlain ys ++ rest = placed_more AtPlain ys (together yss) in
    let both = subst (λ (zs : List Piece). IsPossible zs) apart possible in
    let f = front_is_kept (all_placed AtPlain ys) rest both in
    subst (λ (zs : List Piece). Gathered (p ∷ ps) zs) (sym apart) (gather_one p ps ys rest each.0 both (gathered ps yss each.1 f.possible))

-- ---- at another rung

-- what plain needs come to there, as one
abbrev pub joined_need : Rung → List Need → Need
joined_need to [] = need nothing [] []
joined_need to (n ∷ ns) = both_asked (carried Plain to n) (joined_need to ns)

none_if : (b : Bool) → ◌≡◌ {A = ℕ} 0 (if b then 0 else 0)
none_if true = refl
none_if false = refl

line_none : 0 + 0 ≡ 0
line_none = omega arith

sum_if : (b : Bool) (n m : ℕ) → ◌≡◌ {A = ℕ} ((if b then n else 0) + (if b then m else 0)) (if b then n + m else 0)
sum_if true n m = refl
sum_if false n m = line_none

pub joined_is : (to : Rung) (ns : List Need) (k : Key) → (joined_need to ns).heap k ≡ moved Plain to (all_needs ns) k
joined_is to [] (key.Cell r l) = none_if (same_rung to r)
joined_is to [] (key.Permission l p) = refl
joined_is to [] (key.Tokens b) = refl
joined_is to [] (key.Bank b) = refl
joined_is to (n ∷ ns) (key.Cell r l) =
    let here : ℕ = if same_rung to r then n.heap (key.Cell Plain l) else 0 in
    ap (λ (m : ℕ). here + m) (joined_is to ns (key.Cell r l)) ∙ sum_if (same_rung to r) (n.heap (key.Cell Plain l)) (all_needs ns (key.Cell Plain l))
joined_is to (n ∷ ns) (key.Permission l p) = ap (λ (m : ℕ). n.heap (key.Permission l p) + m) (joined_is to ns (key.Permission l p))
joined_is to (n ∷ ns) (key.Tokens b) = ap (λ (m : ℕ). n.heap (key.Tokens b) + m) (joined_is to ns (key.Tokens b))
joined_is to (n ∷ ns) (key.Bank b) = ap (λ (m : ℕ). n.heap (key.Bank b) + m) (joined_is to ns (key.Bank b))

-- a ground on which they are asked for there
pub record AskedAt (g : Ground) (to : Rung) (ps : List Part) (ns : List Need) : Type 0 where
  pub is : parts_asked g.truth to ps ≡ Some (joined_need to ns)
  pub known : AllKnown g (joined_need to ns).claims

line_first : (a b h : ℕ) → a + b ≤ h → a ≤ h
line_first a b h l = omega arith

line_last : (a b h : ℕ) → a + b ≤ h → b ≤ h
line_last a b h l = omega arith

pub asked_at : (invs : List Inv) (base : List Piece) (g : Ground) (to : Rung) (h : Heap) (ps : List Part) (ns : List Need) → EachPlain invs ps → EachAsked base Plain ps ns
    → Agrees (truth_of base) g.truth h → ((k : Key) → all_needs ns k ≤ h k)
    → ((c : Claim) → is_claim_at Plain c ≡ true → Needs h c → Knows (ground_of base) c → Knows g (claim_at to c)) → AskedAt g to ps ns
asked_at invs base g to h [] [] plain each agrees within told = record { is = refl; known = tt }
asked_at invs base g to h [] (n ∷ ns) plain each agrees within told = absurd each
asked_at invs base g to h (p ∷ ps) [] plain each agrees within told = absurd each
asked_at invs base g to h (p ∷ ps) (n ∷ ns) plain each agrees within told =
    let less = λ (k : Key). line_first (n.heap k) (all_needs ns k) (h k) (within k) in
    let more = asked_at invs base g to h ps ns plain.1 each.2 agrees (λ k. line_last (n.heap k) (all_needs ns k) (h k) (within k)) told in
    let there = asks_stay (truth_of base) g.truth p.asrt Plain p.numbers n each.0 (agrees_less n.heap h less agrees) in
    let is = asks_carried invs g.truth p.asrt Plain to p.numbers n plain.0 there in
    let known = all_told (ground_of base) g n.heap Plain to n.claims (λ c at needs k. told c at (needs_less n.heap h less c needs) k)
    (claims_alone Plain n (carried_self invs (truth_of base) p.asrt Plain p.numbers n plain.0 each.0)) (asks_held (truth_of base) p.asrt Plain p.numbers n each.0) each.1 in
    record {
      is = value_is (asks g.truth p.asrt to p.numbers) (carried Plain to n) _ is ∙ value_is (parts_asked g.truth to ps) (joined_need to ns) _ more.is;
      known = known_both g (carried Plain to n).claims (joined_need to ns).claims known more.known;
    }
