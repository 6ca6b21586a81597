-- The laws of read-modify-writes, as words.
use Rattle.std.specs.Prelude.{◌≡◌, ◌⊎◌, ℕ, true, List, map, Some, ℤ, ◌+ℤ◌, slice_set}
use Rattle.std.specs.Ordering.{int_eq}
use Rattle.fsl_core.specs.declared.act.Step.{Step}
use Rattle.fsl_core.specs.declared.expr.Expr.{Expr}
use Rattle.fsl_core.specs.declared.mode.Mode.{Mode}
use Rattle.fsl_core.specs.declared.mode.Rung.TheVariants.{Msg}
use Rattle.fsl_core.specs.Programs.{Program}
use Rattle.fsl_core.specs.Values.{in_range}
use Rattle.fsl_core.specs.logic.States.{State}
use Rattle.fsl_core.specs.logic.Terms.{expr_of}
use Rattle.fsl_core.specs.logic.Assertions.{asrt_of}
use Rattle.fsl_core.specs.logic.Fences.{take_all}
use Rattle.fsl_core.specs.logic.Locations.{Setting, setting_of}
use Rattle.fsl_core.specs.logic.Tokens.{TokenStep, step_of, token_steps}
use Rattle.fsl_core.specs.logic.Updates.{Leaves, find_leaves, replace, cas, exchange, fetch_add}
use Rattle.fsl_lin.specs.Combination.{Combination}
use Rattle.fsl_lin.specs.Numbers.{Numbers}
use Rattle.fsl_meaning.specs.Means.{Means}
use Rattle.fsl_meaning.specs.Heaps.{Heap, Ground, IsBounded}
use Rattle.fsl_meaning.specs.States.{All, Fits}
use Rattle.fsl_meaning.specs.Branches.{Lands, Tells}
use Rattle.fsl_asserted.specs.Exact.{exact}
use Rattle.fsl_kept.specs.Changes.{without}
use Rattle.fsl_kept.specs.Parts.{parts_in}
use Rattle.fsl_updated.specs.Grounds.{forgetting}
use Rattle.fsl_updated.specs.Steps.{MakesSteps}
use Rattle.fsl_updated.specs.Updates.{MayReplace, IsDealt, LeavesMean, HasLeaves, Fails, Reads, Replaces, Compares}

-- what stood at msg goes, and what was known of that message
abbrev pub ForgetFits : Type 0
ForgetFits = (g : Ground) (slots : List ℤ) (h : Heap) (v : Numbers) (s : State) → Fits slots (All g h) v s
    → Lands s.next v (λ cs t w. Fits slots (All (forgetting g) (without Msg h)) w t) (take_all Msg s)

-- tokens are minted and burned, as the authorities that are there allow
abbrev pub StepsFit : Type 0
StepsFit = (g : Ground) (slots : List ℤ) (h : Heap) (v : Numbers) (s : State) (steps : List Step) → IsBounded g.truth h → Fits slots (All g h) v s
    → Lands s.next v (λ u t w. MakesSteps g slots steps h t w) (token_steps (map (step_of expr_of) steps) s)

-- what is needed of the location is known
abbrev pub LeavesTell : Type 0
LeavesTell = (g : Ground) (slots : List ℤ) (h : Heap) (v : Numbers) (s : State) (a : Combination) (loc : ℤ) → Fits slots (All g h) v s → Means s.next v a loc
    → Tells s (HasLeaves g s.next v loc) (find_leaves a s)

-- x is read and replaced by y
abbrev pub ReplaceFits : Type 0
ReplaceFits = (p : Program) (g read : Ground) (slots : List ℤ) (h more : Heap) (v : Numbers) (s : State) (m : Mode) (steps : List Step) (l : Leaves) (o new : Combination) (inv : ℕ)
    (args : List ℤ) (x y : ℤ)
    → LeavesMean s.next v l inv args → Means s.next v o x → Means s.next v new y → Reads g read (parts_in p inv args x) h more → Fits slots (All g h) v s
    → Lands s.next v (λ u t w. Replaces read m steps slots (parts_in p inv args y) more slots t w) (replace (setting_of asrt_of p) m (map (step_of expr_of) steps) l o new s)

-- ---- the three rules. Before anything is read, the location is known to be one that may be updated, or some branch
-- fails; any x may be read, by a message that has what the invariant asks for

abbrev pub ExchangeTells : Type 0
ExchangeTells = (g : Ground) (slots : List ℤ) (h : Heap) (v : Numbers) (s : State) (p : Setting) (slot : ℕ) (m : Mode) (at e : Expr) (steps : List TokenStep) → Fits slots (All g h) v s
    → MayReplace g (exact at slots) ⊎ Fails (exchange p slot m (expr_of at) (expr_of e) steps s)

abbrev pub ExchangeFits : Type 0
ExchangeFits = (p : Program) (g read : Ground) (slots : List ℤ) (h more : Heap) (v : Numbers) (s : State) (slot : ℕ) (m : Mode) (at e : Expr) (steps : List Step) (inv : ℕ) (args : List ℤ) (x : ℤ)
    → IsDealt g (exact at slots) inv args → Reads g read (parts_in p inv args x) h more → Fits slots (All g h) v s
    → Lands s.next v (λ u t w. Replaces read m steps slots (parts_in p inv args (exact e slots)) more (slice_set slots slot x) t w)
    (exchange (setting_of asrt_of p) slot m (expr_of at) (expr_of e) (map (step_of expr_of) steps) s)

abbrev pub AddTells : Type 0
AddTells = (g : Ground) (slots : List ℤ) (h : Heap) (v : Numbers) (s : State) (p : Setting) (slot : ℕ) (m : Mode) (at e : Expr) (steps : List TokenStep) → Fits slots (All g h) v s
    → MayReplace g (exact at slots) ⊎ Fails (fetch_add p slot m (expr_of at) (expr_of e) steps s)

-- a sum that leaves the range of values halts the thread
abbrev pub AddFits : Type 0
AddFits = (p : Program) (g read : Ground) (slots : List ℤ) (h more : Heap) (v : Numbers) (s : State) (slot : ℕ) (m : Mode) (at e : Expr) (steps : List Step) (inv : ℕ) (args : List ℤ) (x y : ℤ)
    → IsDealt g (exact at slots) inv args → in_range (x +ℤ exact e slots) ≡ Some y → Reads g read (parts_in p inv args x) h more → Fits slots (All g h) v s
    → Lands s.next v (λ u t w. Replaces read m steps slots (parts_in p inv args y) more (slice_set slots slot x) t w)
    (fetch_add (setting_of asrt_of p) slot m (expr_of at) (expr_of e) (map (step_of expr_of) steps) s)

abbrev pub CasTells : Type 0
CasTells = (g : Ground) (slots : List ℤ) (h : Heap) (v : Numbers) (s : State) (p : Setting) (slot : ℕ) (m : Mode) (at old new : Expr) (steps : List TokenStep) → Fits slots (All g h) v s
    → MayReplace g (exact at slots) ⊎ Fails (cas p slot m (expr_of at) (expr_of old) (expr_of new) steps s)

-- the message matters only where it has the expected value
abbrev pub CasFits : Type 0
CasFits = (p : Program) (g read : Ground) (slots : List ℤ) (h more : Heap) (v : Numbers) (s : State) (slot : ℕ) (m : Mode) (at old new : Expr) (steps : List Step) (inv : ℕ) (args : List ℤ) (x : ℤ)
    → IsDealt g (exact at slots) inv args → (int_eq x (exact old slots) ≡ true → Reads g read (parts_in p inv args x) h more) → Fits slots (All g h) v s
    → Lands s.next v (λ u t w. Compares (int_eq x (exact old slots)) g read m steps slots (parts_in p inv args (exact new slots)) h more (slice_set slots slot x) t w)
    (cas (setting_of asrt_of p) slot m (expr_of at) (expr_of old) (expr_of new) (map (step_of expr_of) steps) s)
