-- What an assertion without modalities asks for at a rung: cells and claims of that rung alone.
use Rattle.std.proofs.Common.{◌≡◌, ℕ, ◌≤◌, Bool, true, false, if◌then◌else◌, List, [], ◌∷◌, map, Some, ℤ, refl, sym, ap, subst, ◌∙◌, arith}
use Rattle.fsl_core.specs.declared.assertion.Asrt.{Asrt}
use Rattle.fsl_core.specs.declared.declaration.Inv.{Inv}
use Rattle.fsl_core.specs.declared.mode.Rung.{Rung}
use Rattle.fsl_core.specs.declared.mode.Rung.TheVariants.{Plain, Up, Down, Msg}
use Rattle.fsl_core.specs.logic.Chunks.{same_rung}
use Rattle.fsl_meaning.specs.Heaps.{Key, Key as key, Heap, Truth, Ground, Claim, Claim as claim, Needs, Knows, AllKnown, Agrees}
use Rattle.fsl_meaning.proofs.Heaps.{same_rung_self}
use Rattle.fsl_asserted.specs.Needs.{Need, asks}
use Rattle.fsl_asserted.specs.Carried.{moved, claim_at, carried, IsPlain}
use Rattle.fsl_asserted.proofs.Asking.{some_is}
use Rattle.fsl_asserted.proofs.Carried.{asks_carried}
use Rattle.fsl_held.specs.Parts.{HasCellsAt, is_claim_at}
use Rattle.fsl_held.proofs.Kept.{EachNeeded}
use Rattle.fsl_walk.proofs.Agreeing.{AgreesAt}

pub carried_self : (invs : List Inv) (t : Truth) (a : Asrt) (rung : Rung) (env : List ℤ) (n : Need) → IsPlain invs a → asks t a rung env ≡ Some n → n ≡ carried rung rung n
carried_self invs t a rung env n plain e = some_is (sym e ∙ asks_carried invs t a rung rung env n plain e)

rung_turned : (r q : Rung) → same_rung r q ≡ same_rung q r
rung_turned Plain Plain = refl
rung_turned Plain Up = refl
rung_turned Plain Down = refl
rung_turned Plain Msg = refl
rung_turned Up Plain = refl
rung_turned Up Up = refl
rung_turned Up Down = refl
rung_turned Up Msg = refl
rung_turned Down Plain = refl
rung_turned Down Up = refl
rung_turned Down Down = refl
rung_turned Down Msg = refl
rung_turned Msg Plain = refl
rung_turned Msg Up = refl
rung_turned Msg Down = refl
rung_turned Msg Msg = refl

none_if : (b : Bool) (n : ℕ) → b ≡ false → ◌≡◌ {A = ℕ} (if b then n else 0) 0
none_if true n e = absurd (cc)
none_if false n e = refl

pub cells_alone : (rung : Rung) (n : Need) → n ≡ carried rung rung n → HasCellsAt rung n.heap
cells_alone rung n e r l other = ap (λ (z : Need). z.heap (key.Cell r l)) e ∙ none_if (same_rung rung r) (n.heap (key.Cell rung l)) (rung_turned rung r ∙ other)

abbrev pub EachAt : Rung → List Claim → Type 0
EachAt rung [] = Unit {0}
EachAt rung (c ∷ cs) = (is_claim_at rung c ≡ true) × EachAt rung cs

claim_carried : (rung : Rung) (c : Claim) → is_claim_at rung (claim_at rung c) ≡ true
claim_carried rung (claim.IsInit r l) = same_rung_self rung
claim_carried rung (claim.MayWrite l i xs) = refl
claim_carried rung (claim.MayRead l i xs) = refl
claim_carried rung (claim.MayUpdate l i xs) = refl

each_carried : (rung : Rung) (cs : List Claim) → EachAt rung (map (claim_at rung) cs)
each_carried rung [] = tt
each_carried rung (c ∷ cs) = (claim_carried rung c, each_carried rung cs)

pub claims_alone : (rung : Rung) (n : Need) → n ≡ carried rung rung n → EachAt rung n.claims
claims_alone rung n e = subst (λ (z : Need). EachAt rung z.claims) (sym e) (each_carried rung n.claims)

-- each claim is told on, with what stands beside it
pub all_told : (g later : Ground) (h : Heap) (from to : Rung) (cs : List Claim) → ((c : Claim) → is_claim_at from c ≡ true → Needs h c → Knows g c → Knows later (claim_at to c))
    → EachAt from cs → EachNeeded h cs → AllKnown g cs → AllKnown later (map (claim_at to) cs)
all_told g later h from to [] told p n k = tt
all_told g later h from to (c ∷ cs) told p n k = (told c p.0 n.0 k.0, all_told g later h from to cs told p.1 n.1 k.1)

-- ---- heaps that are moved

pub moved_same : (from to : Rung) (h m : Heap) → ((k : Key) → h k ≡ m k) → (k : Key) → moved from to h k ≡ moved from to m k
moved_same from to h m same (key.Cell r l) = ap (λ (n : ℕ). if same_rung to r then n else 0) (same (key.Cell from l))
moved_same from to h m same (key.Permission l p) = same (key.Permission l p)
moved_same from to h m same (key.Tokens b) = same (key.Tokens b)
moved_same from to h m same (key.Bank b) = same (key.Bank b)

no_share : 1 ≤ 0 → ⊥
no_share h = omega arith

some_if : (b : Bool) (n : ℕ) → 1 ≤ (if b then n else 0) → 1 ≤ n
some_if true n h = h
some_if false n h = absurd (no_share h)

-- truths that agree on a heap agree on it where it is moved to
pub agrees_moved : (t later : Truth) (from to : Rung) (h : Heap) → Agrees t later h → (k : Key) → 1 ≤ moved from to h k → AgreesAt t later k
agrees_moved t later from to h a (key.Cell r l) some = λ x is. a.value from l x (some_if (same_rung to r) (h (key.Cell from l)) some) is
agrees_moved t later from to h a (key.Permission l p) some = a.out l p some
agrees_moved t later from to h a (key.Tokens b) some = tt
agrees_moved t later from to h a (key.Bank b) some = a.bank b some

line_nothing : (n : ℕ) → 0 ≤ n
line_nothing n = omega arith

if_less : (b : Bool) (n m : ℕ) → n ≤ m → (if b then n else 0) ≤ (if b then m else 0)
if_less true n m h = h
if_less false n m h = line_nothing 0

pub moved_less : (from to : Rung) (h m : Heap) → ((k : Key) → h k ≤ m k) → (k : Key) → moved from to h k ≤ moved from to m k
moved_less from to h m less (key.Cell r l) = if_less (same_rung to r) (h (key.Cell from l)) (m (key.Cell from l)) (less (key.Cell from l))
moved_less from to h m less (key.Permission l p) = less (key.Permission l p)
moved_less from to h m less (key.Tokens b) = less (key.Tokens b)
moved_less from to h m less (key.Bank b) = less (key.Bank b)
