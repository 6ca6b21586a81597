-- What an assertion asks for, taken out of a list and put in front of another.
use Rattle.std.proofs.Common.{◌≡◌, ℕ, ◌+◌, ◌≤◌, true, false, List, [], ◌∷◌, ◌++◌, map, Some, ℤ, refl, ap, sym, subst, ◌∙◌, arith}
use Rattle.fsl_core.specs.declared.assertion.Asrt.{Asrt}
use Rattle.fsl_core.specs.declared.declaration.Inv.{Inv}
use Rattle.fsl_core.specs.declared.mode.Rung.TheVariants.{Plain, Up, Down, Msg}
use Rattle.fsl_meaning.specs.Heaps.{Key as key, Heap, Truth, Claim, Claim as claim, Ground, Knows, AllKnown, Needs}
use Rattle.fsl_asserted.specs.Needs.{Need, asks}
use Rattle.fsl_asserted.specs.Carried.{claim_at, carried, IsPlain}
use Rattle.fsl_asserted.proofs.Asking.{some_is}
use Rattle.fsl_asserted.proofs.Carried.{asks_carried}
use Rattle.fsl_asserted.proofs.Stays.{asks_stay}
use Rattle.fsl_good.specs.Pieces.{AtPlain, all_placed}
use Rattle.fsl_held.specs.Heaps.{heap_of, truth_of, ground_of}
use Rattle.fsl_held.specs.Parts.{HasCellsAt, is_claim_at}
use Rattle.fsl_held.specs.Laws.{NeedIsParted, FrontSatisfies}
use Rattle.fsl_held.proofs.Cutting.{heap_cut}
use Rattle.fsl_held.proofs.Fronts.{front_is_kept}
use Rattle.fsl_held.proofs.Kept.{EachNeeded, asks_held, asked_is_kept}

-- ---- what an assertion without modalities asks for at plain

abbrev EachAtPlain : List Claim → Type 0
EachAtPlain [] = Unit {0}
EachAtPlain (c ∷ cs) = (is_claim_at Plain c ≡ true) × EachAtPlain cs

carried_at_plain : (cs : List Claim) → EachAtPlain (map (claim_at Plain) cs)
carried_at_plain [] = tt
carried_at_plain (c ∷ cs) = (one c, carried_at_plain cs)
  where
    one : (c : Claim) → is_claim_at Plain (claim_at Plain c) ≡ true
    one (claim.IsInit r l) = refl
    one (claim.MayWrite l i xs) = refl
    one (claim.MayRead l i xs) = refl
    one (claim.MayUpdate l i xs) = refl

-- it has no cells at another rung, and each location is known at plain to be initialized
record IsPlainNeed (n : Need) : Type 0 where
  pub cells : HasCellsAt Plain n.heap
  pub claims : EachAtPlain n.claims

plain_cells : (n : Need) → n ≡ carried Plain Plain n → HasCellsAt Plain n.heap
plain_cells n e Plain l h = absurd (let f : true ≡ false = h in cc)
plain_cells n e Up l h = ap (λ (z : Need). z.heap (key.Cell Up l)) e
plain_cells n e Down l h = ap (λ (z : Need). z.heap (key.Cell Down l)) e
plain_cells n e Msg l h = ap (λ (z : Need). z.heap (key.Cell Msg l)) e

plain_need : (invs : List Inv) (t : Truth) (a : Asrt) (env : List ℤ) (n : Need) → IsPlain invs a → asks t a Plain env ≡ Some n → IsPlainNeed n
plain_need invs t a env n plain e =
    let d : n ≡ carried Plain Plain n = some_is (sym e ∙ asks_carried invs t a Plain Plain env n plain e) in
    record { cells = plain_cells n d; claims = subst (λ (z : Need). EachAtPlain z.claims) (sym d) (carried_at_plain n.claims) }

-- ---- taken out

all_told : (g later : Ground) (h : Heap) (cs : List Claim) → ((c : Claim) → is_claim_at Plain c ≡ true → Needs h c → Knows g c → Knows later c)
    → EachAtPlain cs → EachNeeded h cs → AllKnown g cs → AllKnown later cs
all_told g later h [] told p n k = tt
all_told g later h (c ∷ cs) told p n k = (told c p.0 n.0 k.0, all_told g later h cs told p.1 n.1 k.1)

line_taken : (n m : ℕ) → m ≡ n → n ≤ m
line_taken n m e = omega arith

pub need_is_parted : NeedIsParted
need_is_parted invs xs a env n p plain asked within =
    let need = plain_need invs (truth_of xs) a env n plain asked.is in
    let c = heap_cut AtPlain n.heap xs p need.cells within in
    let mine = all_placed AtPlain c.atoms in
    record {
      atoms = c.atoms;
      rest = c.rest;
      gives = c.is.gives;
      satisfies = record {
        asked = record {
          is = asks_stay (truth_of xs) (truth_of mine) a Plain env n asked.is c.is.agrees;
          known = all_told (ground_of xs) (ground_of mine) n.heap n.claims c.is.knows need.claims (asks_held (truth_of xs) a Plain env n asked.is) asked.known;
        };
        enough = λ k. line_taken (n.heap k) (heap_of mine k) (c.is.taken k);
      };
      left = c.is.left;
      kept = c.is.kept;
      possible = c.is.possible;
    }

-- ---- put in front

line_front : (n a b c : ℕ) → c ≡ a + b → n ≤ a → n + b ≤ c
line_front n a b c e h = omega arith

pub front_satisfies : FrontSatisfies
front_satisfies ys xs a env n s p =
    let mine = all_placed AtPlain ys in
    let f = front_is_kept mine xs p in (
      asked_is_kept mine (mine ++ xs) (heap_of mine) a env n f.front s.enough s.asked,
      λ k. line_front (n.heap k) (heap_of mine k) (heap_of xs k) (heap_of (mine ++ xs) k) (f.sum k) (s.enough k),
    )
