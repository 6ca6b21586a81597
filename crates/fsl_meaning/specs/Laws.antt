-- The laws of states that fit a heap, as words.
use Rattle.std.specs.Prelude.{◌≡◌, ℕ, suc, ◌<◌, Bool, true, List, ℤ, ◌+ℤ◌, ◌-ℤ◌, ◌*ℤ◌}
use Rattle.fsl_core.specs.declared.chunk.Chunk.{Chunk}
use Rattle.fsl_core.specs.declared.verdict.Kind.{Kind}
use Rattle.fsl_core.specs.logic.States.{Env, State, new_symbol}
use Rattle.fsl_core.specs.logic.Deciding.{assume, Condition, decided, assume_cond, demand_cond}
use Rattle.fsl_core.specs.logic.Joining.{produce_chunk, produce_chunks}
use Rattle.fsl_lin.specs.Combination.{Combination, plus, minus, times, constant, symbol}
use Rattle.fsl_lin.specs.Numbers.{Numbers}
use Rattle.fsl_lin.specs.Values.{Holds}
use Rattle.fsl_lin.specs.declared.fact.Fact.{Fact}
use Rattle.fsl_meaning.specs.Means.{Extends, Means, AllMean, Grows}
use Rattle.fsl_meaning.specs.Heaps.{Heap, Ground, IsBounded, KnowsMore, Agrees}
use Rattle.fsl_meaning.specs.Heaps.{Holds as HoldsParts}
use Rattle.fsl_meaning.specs.States.{Stands, EachStands, All, Fits}
use Rattle.fsl_meaning.specs.Branches.{Lands, Tells}
use Rattle.fsl_meaning.specs.Deciding.{IsJudged}

-- ---- terms

abbrev pub MeansLater : Type 0
MeansLater = (n m : ℕ) (v w : Numbers) (t : Combination) (x : ℤ) → Grows n v m w → Means n v t x → Means m w t x

abbrev pub MeansPlus : Type 0
MeansPlus = (n : ℕ) (v : Numbers) (a b : Combination) (x y : ℤ) → Means n v a x → Means n v b y → Means n v (plus a b) (x +ℤ y)

abbrev pub MeansMinus : Type 0
MeansMinus = (n : ℕ) (v : Numbers) (a b : Combination) (x y : ℤ) → Means n v a x → Means n v b y → Means n v (minus a b) (x -ℤ y)

abbrev pub MeansTimes : Type 0
MeansTimes = (n : ℕ) (v : Numbers) (k : ℤ) (a : Combination) (x : ℤ) → Means n v a x → Means n v (times k a) (x *ℤ k)

abbrev pub MeansConstant : Type 0
MeansConstant = (n : ℕ) (v : Numbers) (x : ℤ) → Means n v (constant x) x

abbrev pub MeansSymbol : Type 0
MeansSymbol = (n : ℕ) (v : Numbers) (s : ℕ) → s < n → s < 512 → Means n v (symbol s) (v (suc s))

-- ---- facts and symbols

-- a fact that holds may be assumed: its branch isn't left out
abbrev pub FactLands : Type 0
FactLands = (g : Ground) (slots : List ℤ) (h : Heap) (v : Numbers) (s : State) (fact : Fact) → Fits slots (All g h) v s → ((w : Numbers) → Extends s.next v w → Holds w fact)
    → Lands s.next v (λ u t w. Fits slots (All g h) w t) (assume fact s)

-- a new symbol may be any number
abbrev pub SymbolLands : Type 0
SymbolLands = (g : Ground) (slots : List ℤ) (h : Heap) (v : Numbers) (s : State) (x : ℤ) → Fits slots (All g h) v s
    → Lands s.next v (λ t u w. Fits slots (All g h) w u × Means u.next w t x) (new_symbol s)

-- ---- conditions

-- among the branches of a decision is one with the true answer
abbrev pub DecisionLands : Type 0
DecisionLands = (g : Ground) (slots : List ℤ) (h : Heap) (v : Numbers) (s : State) (env : Env) (xs : List ℤ) (c : Condition) (f : List ℤ → Bool) → IsJudged c f → Fits slots (All g h) v s
    → AllMean s.next v env xs → Lands s.next v (λ b t w. (b ≡ f xs) × Fits slots (All g h) w t) (decided c env s)

-- a condition may be assumed to say what it says
abbrev pub AssumedLands : Type 0
AssumedLands = (g : Ground) (slots : List ℤ) (h : Heap) (v : Numbers) (s : State) (env : Env) (xs : List ℤ) (c : Condition) (f : List ℤ → Bool) → IsJudged c f → Fits slots (All g h) v s
    → AllMean s.next v env xs → Lands s.next v (λ u t w. Fits slots (All g h) w t) (assume_cond (f xs) c env s)

-- a condition that is proved holds
abbrev pub DemandTells : Type 0
DemandTells = (g : Ground) (slots : List ℤ) (h : Heap) (v : Numbers) (s : State) (env : Env) (xs : List ℤ) (why : Kind) (c : Condition) (f : List ℤ → Bool) → IsJudged c f
    → Fits slots (All g h) v s → AllMean s.next v env xs → Tells s (λ u. f xs ≡ true) (demand_cond why c env s)

-- ---- chunks

-- a chunk joins the others: the state fits a heap with its part
abbrev pub ChunkJoins : Type 0
ChunkJoins = (g : Ground) (slots : List ℤ) (h mine more : Heap) (v : Numbers) (s : State) (c : Chunk) → Fits slots (All g h) v s → Stands g s.next v c mine → HoldsParts mine h more
    → IsBounded g.truth more → Lands s.next v (λ u t w. Fits slots (All g more) w t) (produce_chunk c s)

abbrev pub ChunksJoin : Type 0
ChunksJoin = (g : Ground) (slots : List ℤ) (h part more : Heap) (v : Numbers) (s : State) (cs : List Chunk) → Fits slots (All g h) v s → EachStands g s.next v cs part → HoldsParts part h more
    → IsBounded g.truth more → Lands s.next v (λ u t w. Fits slots (All g more) w t) (produce_chunks cs s)

-- a state fits on where nothing changed of what it owns a part of, and what was known still is
abbrev pub FitsKept : Type 0
FitsKept = (g later : Ground) (slots : List ℤ) (h : Heap) (v : Numbers) (s : State) → KnowsMore g later h → Agrees g.truth later.truth h → Fits slots (All g h) v s → Fits slots (All later h) v s
