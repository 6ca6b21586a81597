-- What a symbolic state means: each chunk stands for a part of a heap or for something known, and the state fits where
-- its facts hold, its terms are the numbers of the variables and its chunks are owned.
use Rattle.std.specs.Prelude.{◌≡◌, ℕ, ◌≤◌, true, List, [], ◌∷◌, ◌++◌, Option, ℤ, pos}
use Rattle.fsl_core.specs.declared.chunk.Chunk.{Chunk}
use Rattle.fsl_core.specs.declared.chunk.Chunk.TheVariants as chunk
use Rattle.fsl_core.specs.declared.mode.Rung.{Rung}
use Rattle.fsl_core.specs.logic.States.{State}
use Rattle.fsl_lin.specs.Combination.{Combination}
use Rattle.fsl_lin.specs.Numbers.{Numbers}
use Rattle.fsl_meaning.specs.Means.{Means, AllMean, IsKnown, HoldAll}
use Rattle.fsl_meaning.specs.Heaps.{Cell, Permission, Tokens, Bank, Heap, Holds, Claim, IsInit, MayWrite, MayRead, MayUpdate, Ground, Knows, all_in}

-- a share of a cell is counted, at least 1, and its value is the cell's
pub record OwnsCell (g : Ground) (n : ℕ) (v : Numbers) (rung : Rung) (at share : Combination) (value : Option Combination) (h : Heap) : Type 0 where
  pub loc : ℤ
  pub amount : ℕ
  pub at_is : Means n v at loc
  pub share_is : Means n v share (pos amount)
  pub some : 1 ≤ amount
  pub value_is : IsKnown n v value (g.truth.value loc)
  pub there : amount ≤ h (Cell rung loc)

-- a permission is counted, and excludes at least the values that were read
pub record OwnsPermission (g : Ground) (n : ℕ) (v : Numbers) (at : Combination) (inv : ℕ) (args : List Combination) (part : ℕ) (out : List Combination) (h : Heap) : Type 0 where
  pub loc : ℤ
  pub numbers : List ℤ
  pub excluded : List ℤ
  pub at_is : Means n v at loc
  pub args_are : AllMean n v args numbers
  pub out_are : AllMean n v out excluded
  pub known : Knows g (MayRead loc inv numbers)
  pub within : all_in (g.truth.out loc part) excluded ≡ true
  pub there : 1 ≤ h (Permission loc part)

pub record OwnsTokens (n : ℕ) (v : Numbers) (bank count : Combination) (h : Heap) : Type 0 where
  pub number : ℤ
  pub amount : ℕ
  pub bank_is : Means n v bank number
  pub count_is : Means n v count (pos amount)
  pub there : amount ≤ h (Tokens number)

-- the authority says how many tokens there may be
pub record OwnsBank (g : Ground) (n : ℕ) (v : Numbers) (bank count : Combination) (h : Heap) : Type 0 where
  pub number : ℤ
  pub bank_is : Means n v bank number
  pub count_is : Means n v count (g.truth.bank number)
  pub there : 1 ≤ h (Bank number)

pub record KnowsInit (g : Ground) (n : ℕ) (v : Numbers) (rung : Rung) (at : Combination) : Type 0 where
  pub loc : ℤ
  pub at_is : Means n v at loc
  pub known : Knows g (IsInit rung loc)

-- leave to use a location, which one being told by the claim
pub record KnowsLeave (g : Ground) (n : ℕ) (v : Numbers) (claim : ℤ → ℕ → List ℤ → Claim) (at : Combination) (inv : ℕ) (args : List Combination) : Type 0 where
  pub loc : ℤ
  pub numbers : List ℤ
  pub at_is : Means n v at loc
  pub args_are : AllMean n v args numbers
  pub known : Knows g (claim loc inv numbers)

-- a chunk stands for h
abbrev pub Stands : Ground → ℕ → Numbers → Chunk → Heap → Type 0
Stands g n v (chunk.Points rung at share value) h = OwnsCell g n v rung at share value h
Stands g n v (chunk.Init rung at) h = KnowsInit g n v rung at
Stands g n v (chunk.Rel at inv args) h = KnowsLeave g n v MayWrite at inv args
Stands g n v (chunk.Acq at inv args part out) h = OwnsPermission g n v at inv args part out h
Stands g n v (chunk.RmwAcq at inv args) h = KnowsLeave g n v MayUpdate at inv args
Stands g n v (chunk.Tok bank count) h = OwnsTokens n v bank count h
Stands g n v (chunk.Auth bank count) h = OwnsBank g n v bank count h

abbrev pub EachStands : Ground → ℕ → Numbers → List Chunk → Heap → Type 0
EachStands g n v [] h = Unit {0}
EachStands g n v (c ∷ cs) h = (mine : Heap) × (rest : Heap) × Holds mine rest h × Stands g n v c mine × EachStands g n v cs rest

-- all chunks stand for parts of h that are apart
pub record Owns (g : Ground) (n : ℕ) (v : Numbers) (cs : List Chunk) (h : Heap) : Type 0 where
  pub each : EachStands g n v cs h

-- what is asked of the chunks of a state
abbrev pub Owning : Type 1
Owning = ℕ → Numbers → List Chunk → Type 0

-- they stand for h
abbrev pub All : Ground → Heap → Owning
All g h = λ n v cs. Owns g n v cs h

-- one of them stands for `mine`, and the others for `rest`
pub record IsOpened (g : Ground) (before : List Chunk) (c : Chunk) (behind : List Chunk) (mine rest : Heap) (n : ℕ) (v : Numbers) (cs : List Chunk) : Type 0 where
  pub list : cs ≡ before ++ c ∷ behind
  pub stands : Stands g n v c mine
  pub others : Owns g n v (before ++ behind) rest

abbrev pub Opened : Ground → List Chunk → Chunk → List Chunk → Heap → Heap → Owning
Opened g before c behind mine rest = λ n v cs. IsOpened g before c behind mine rest n v cs

-- the state fits the numbers of the variables, what is asked of its chunks, and the numbers of its symbols
pub record Fits (slots : List ℤ) (own : Owning) (v : Numbers) (s : State) : Type 0 where
  pub one : v 0 ≡ pos 1
  pub facts : HoldAll s.next v s.facts
  pub env : AllMean s.next v s.env slots
  pub owns : own s.next v s.chunks
