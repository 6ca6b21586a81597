-- What is counted, what is so, and what is known for good at a point of an execution. Locations and banks are numbers.
use Rattle.std.specs.Prelude.{◌≡◌, ℕ, ◌+◌, ◌-◌, ◌≤◌, ◌==◌, ◌^◌, Bool, true, false, ◌&&◌, List, [], ◌∷◌, Option, ℤ, pos, ◌≤ℤ◌, if◌then◌else◌}
use Rattle.std.specs.Ordering.{int_eq}
use Rattle.std.specs.List.{list_all, list_any}
use Rattle.fsl_core.specs.declared.mode.Rung.{Rung}
use Rattle.fsl_core.specs.declared.mode.Rung.TheVariants.{Plain, Up, Down, Msg}
use Rattle.fsl_core.specs.logic.Chunks.{same_rung}

-- what is counted: shares of a cell at a rung, the permission for a part of a location's invariant, tokens of a bank,
-- and the authority over a bank
pub data Key : Type 0 where
  Cell : (rung : Rung) (loc : ℤ) → Key
  Permission : (loc : ℤ) (part : ℕ) → Key
  Tokens : (bank : ℤ) → Key
  Bank : (bank : ℤ) → Key

abbrev pub Heap : Type 0
Heap = Key → ℕ

abbrev pub same_key : Key → Key → Bool
same_key (Cell r l) (Cell q m) = same_rung r q && int_eq l m
same_key (Permission l p) (Permission m q) = int_eq l m && p == q
same_key (Tokens b) (Tokens c) = int_eq b c
same_key (Bank b) (Bank c) = int_eq b c
same_key _ _ = false

abbrev pub nothing : Heap
nothing k = 0

-- n of one key
abbrev pub some_of : Key → ℕ → Heap
some_of key n k = if same_key key k then n else 0

-- h without n of a key
abbrev pub less : Heap → Key → ℕ → Heap
less h k n = λ q. h q - some_of k n q

-- h has room for two parts; what is left over may be dropped
abbrev pub Holds : Heap → Heap → Heap → Type 0
Holds a b h = (k : Key) → a k + b k ≤ h k

-- what is so at a point of the execution
pub record Truth : Type 0 where
  pub value : ℤ → Option ℤ  -- of a cell
  pub out : ℤ → ℕ → List ℤ  -- the values that were read from a part of a location's invariant
  pub bank : ℤ → ℤ  -- how many tokens of a bank there may be

-- what is known for good: it is never given away, and may be copied
pub data Claim : Type 0 where
  IsInit : (rung : Rung) (loc : ℤ) → Claim
  MayWrite : (loc : ℤ) (inv : ℕ) (args : List ℤ) → Claim
  MayRead : (loc : ℤ) (inv : ℕ) (args : List ℤ) → Claim
  MayUpdate : (loc : ℤ) (inv : ℕ) (args : List ℤ) → Claim

-- the ground that a thread stands on: it doesn't change between two events of the thread
pub record Ground : Type 0 where
  pub knows : Claim → Bool
  pub truth : Truth

abbrev pub Knows : Ground → Claim → Type 0
Knows g c = g.knows c ≡ true

abbrev pub AllKnown : Ground → List Claim → Type 0
AllKnown g [] = Unit {0}
AllKnown g (c ∷ cs) = Knows g c × AllKnown g cs

-- all shares of a cell that h has, at any rung
abbrev pub shares : Heap → ℤ → ℕ
shares h l = h (Cell Plain l) + (h (Cell Up l) + (h (Cell Down l) + h (Cell Msg l)))

-- nobody has more than there is
pub record IsBounded (t : Truth) (h : Heap) : Type 0 where
  pub cells : (l : ℤ) → shares h l ≤ 2 ^ 63
  pub tokens : (b : ℤ) → pos (h (Tokens b)) ≤ℤ t.bank b
  pub alone : (b : ℤ) → h (Bank b) ≤ 1
  pub once : (l : ℤ) (p : ℕ) → h (Permission l p) ≤ 1

-- each of these values is one of those
abbrev pub all_in : List ℤ → List ℤ → Bool
all_in xs ys = list_all (λ x. list_any (int_eq x) ys) xs

-- a part of h has this key: then what a claim says beside it stays with h
abbrev pub Needs : Heap → Claim → Type 0
Needs h (IsInit r l) = Unit {0}
Needs h (MayWrite l i xs) = Unit {0}
Needs h (MayRead l i xs) = (part : ℕ) × (1 ≤ h (Permission l part))
Needs h (MayUpdate l i xs) = Unit {0}

-- what was known before is known, a leave to read where h has a permission that it stands beside
pub record KnowsMore (g later : Ground) (h : Heap) : Type 0 where
  pub more : (c : Claim) → Needs h c → Knows g c → Knows later c

-- nothing changed of what h has a part of
pub record Agrees (t later : Truth) (h : Heap) : Type 0 where
  pub value : (r : Rung) (l x : ℤ) → 1 ≤ h (Cell r l) → t.value l ≡ Option.Some x → later.value l ≡ Option.Some x
  pub out : (l : ℤ) (p : ℕ) → 1 ≤ h (Permission l p) → later.out l p ≡ t.out l p
  pub bank : (b : ℤ) → 1 ≤ h (Bank b) → later.bank b ≡ t.bank b
