-- The laws of rules, as words. Each says of a state that fits the heap h: some branch of the rule goes on with a state
-- that fits what the event leaves, or some branch fails.
use Rattle.std.specs.Prelude.{◌≡◌, ℕ, Bool, true, List, [], ◌∷◌, ◌++◌, length, map, Option, Some, ℤ, pos, ◌+ℤ◌, ◌≤ℤ◌, ◌^◌, slice_set}
use Rattle.fsl_core.specs.declared.act.Called.{Called}
use Rattle.fsl_core.specs.declared.act.Step.{Step}
use Rattle.fsl_core.specs.declared.assertion.Asrt.{Asrt}
use Rattle.fsl_core.specs.declared.assertion.Inst.{Inst}
use Rattle.fsl_core.specs.declared.declaration.Inv.{Inv}
use Rattle.fsl_core.specs.declared.declaration.Proc.{Proc}
use Rattle.fsl_core.specs.declared.expr.Cond.{Cond}
use Rattle.fsl_core.specs.declared.expr.Expr.{Expr}
use Rattle.fsl_core.specs.declared.mode.Mode.{Mode}
use Rattle.fsl_core.specs.declared.mode.Rung.TheVariants.{Plain, Up, Down}
use Rattle.fsl_core.specs.Programs.{Program}
use Rattle.fsl_core.specs.Modes.{acquires, releases}
use Rattle.fsl_core.specs.logic.States.{Env, State}
use Rattle.fsl_core.specs.logic.Terms.{expr_of}
use Rattle.fsl_core.specs.logic.Deciding.{cond_of}
use Rattle.fsl_core.specs.logic.Assertions.{asrt_of}
use Rattle.fsl_core.specs.logic.Locations.{contract_of, setting_of}
use Rattle.fsl_core.specs.logic.Accesses.{gaining, alloc_na, load_na, store_na, free, alloc_at, load_atomic, store_atomic}
use Rattle.fsl_core.specs.logic.Producing.{inst_of}
use Rattle.fsl_core.specs.logic.Tokens.{new_bank, step_of, token_step}
use Rattle.fsl_core.specs.logic.Fences.{fence}
use Rattle.fsl_core.specs.logic.Calls.{enter, finish, new_result, set_result, give_pre, gain_post, Running, call_of, with_args, start_each, join_each}
use Rattle.fsl_core.specs.logic.Paths.{set_to, assert, round, give_inv}
use Rattle.fsl_lin.specs.Combination.{Combination}
use Rattle.fsl_lin.specs.Numbers.{Numbers}
use Rattle.fsl_meaning.specs.Means.{Means, AllMean, padded_numbers}
use Rattle.fsl_meaning.specs.Heaps.{Cell, Bank, Heap, some_of, less, Holds, IsInit, MayWrite, Ground, Knows, AllKnown, IsBounded, KnowsMore, Agrees}
use Rattle.fsl_meaning.specs.States.{All, Fits}
use Rattle.fsl_meaning.specs.Branches.{Lands, Tells}
use Rattle.fsl_asserted.specs.Exact.{exact, exact_all, exact_cond}
use Rattle.fsl_asserted.specs.Needs.{Need, bank_number, asks}
use Rattle.fsl_asserted.specs.Carried.{IsPlain}
use Rattle.fsl_asserted.specs.Fitting.{Gives}
use Rattle.fsl_kept.specs.Atomics.{leave_heap, leave_claim, StoresAtomic, Pool, pooled, AllReady, HasInv, LoadsAtomic}
use Rattle.fsl_kept.specs.Calls.{ResultMeans, result_number, numbers_with, numbers_set, renewed}
use Rattle.fsl_kept.specs.Changes.{grounded, storing}
use Rattle.fsl_kept.specs.Parts.{parts_in}
use Rattle.fsl_kept.specs.Threads.{Started, started, AllRun, all_needs, EachEnsures, Starts}
use Rattle.fsl_kept.specs.Results.{LoadsCell, Stores, Steps, Fenced, GivesUp}

-- ---- variables

abbrev pub SetFits : Type 0
SetFits = (g : Ground) (slots : List ℤ) (h : Heap) (v : Numbers) (s : State) (slot : ℕ) (e : Expr) → Fits slots (All g h) v s
    → Lands s.next v (λ u t w. Fits (slice_set slots slot (exact e slots)) (All g h) w t) (set_to slot (expr_of e) s)

-- an assertion that is proved holds
abbrev pub AssertFits : Type 0
AssertFits = (g : Ground) (slots : List ℤ) (h : Heap) (v : Numbers) (s : State) (c : Cond) → Fits slots (All g h) v s
    → Lands s.next v (λ u t w. (exact_cond c slots ≡ true) × Fits slots (All g h) w t) (assert (cond_of expr_of c) s)

-- ---- cells

-- any address, and all shares of its cell
abbrev pub AllocFits : Type 0
AllocFits = (g : Ground) (slots : List ℤ) (h more : Heap) (v : Numbers) (s : State) (slot : ℕ) (loc : ℤ) → Fits slots (All g h) v s → (pos 1 +ℤ pos 0) ≤ℤ loc
    → Holds (some_of (Cell Plain loc) (2 ^ 63)) h more → Lands s.next v (λ u t w. Fits (slice_set slots slot loc) (All g more) w t) (alloc_na slot s)

abbrev pub LoadFits : Type 0
LoadFits = (g : Ground) (slots : List ℤ) (h : Heap) (v : Numbers) (s : State) (slot : ℕ) (at : Expr) → Fits slots (All g h) v s
    → Lands s.next v (λ u t w. LoadsCell g slots slot (exact at slots) h t w) (load_na slot (expr_of at) s)

-- the cell then has the value, which nobody else can speak of
abbrev pub StoreFits : Type 0
StoreFits = (g : Ground) (slots : List ℤ) (h : Heap) (v : Numbers) (s : State) (at e : Expr) → IsBounded g.truth h → Fits slots (All g h) v s
    → Lands s.next v (λ u t w. Stores slots (exact at slots) h h (grounded g (storing (exact at slots) (exact e slots) g.truth)) t w) (store_na (expr_of at) (expr_of e) s)

abbrev pub FreeFits : Type 0
FreeFits = (g : Ground) (slots : List ℤ) (h : Heap) (v : Numbers) (s : State) (at : Expr) → Fits slots (All g h) v s
    → Lands s.next v (λ u t w. Stores slots (exact at slots) h (less h (Cell Plain (exact at slots)) (2 ^ 63)) g t w) (free (expr_of at) s)

-- ---- banks

abbrev pub BankFits : Type 0
BankFits = (g : Ground) (slots : List ℤ) (h more : Heap) (v : Numbers) (s : State) (slot : ℕ) (number : ℤ) → Fits slots (All g h) v s → g.truth.bank number ≡ pos 0
    → Holds (some_of (Bank number) 1) h more → Lands s.next v (λ u t w. Fits (slice_set slots slot number) (All g more) w t) (new_bank slot s)

-- tokens are minted or burned, and the authority says it
abbrev pub StepFits : Type 0
StepFits = (g : Ground) (slots : List ℤ) (h : Heap) (v : Numbers) (s : State) (step : Step) → IsBounded g.truth h → Fits slots (All g h) v s
    → Lands s.next v (λ u t w. Steps step.mint g slots (bank_number step.bank slots) (exact step.n slots) h t w) (token_step (step_of expr_of step) s)

-- ---- fences

-- an acquire fence makes what is known at down known at plain, a release fence what is known at plain known at up
abbrev pub FenceFits : Type 0
FenceFits = (g : Ground) (slots : List ℤ) (h : Heap) (v : Numbers) (s : State) (m : Mode) (invs : List Inv) (a : Asrt)
    → (acquires m ≡ true → (l : ℤ) → Knows g (IsInit Down l) → Knows g (IsInit Plain l)) → (releases m ≡ true → IsPlain invs a)
    → (releases m ≡ true → (l : ℤ) → Knows g (IsInit Plain l) → Knows g (IsInit Up l)) → IsBounded g.truth h → Fits slots (All g h) v s
    → Lands s.next v (λ u t w. Fenced m g slots a h t w) (fence m (asrt_of a) s)

-- ---- procedures

-- a procedure starts with its `requires`, for any arguments
abbrev pub EnterFits : Type 0
EnterFits = (g : Ground) (slots : List ℤ) (h more : Heap) (v : Numbers) (s : State) (q : Proc) (numbers : List ℤ) (n : Need) → length numbers ≡ q.params → Fits slots (All g h) v s
    → asks g.truth q.pre Plain (padded_numbers q.slots numbers) ≡ Some n → AllKnown g n.claims → Holds n.heap h more → IsBounded g.truth more
    → Lands s.next v (λ u t w. Fits n.env (All g more) w t) (enter (contract_of asrt_of q) s)

-- it ends with its `ensures`
abbrev pub FinishFits : Type 0
FinishFits = (g : Ground) (slots : List ℤ) (h : Heap) (v : Numbers) (s : State) (post : Asrt) (t : Combination) (x : ℤ) → Fits slots (All g h) v s → Means s.next v t x
    → Lands s.next v (λ u r w. GivesUp g slots (asks g.truth post Plain (slots ++ x ∷ [])) h r w) (finish (asrt_of post) t s)

-- a caller gives `requires` away, and gains `ensures` with a result
abbrev pub PreFits : Type 0
PreFits = (g : Ground) (slots : List ℤ) (h : Heap) (v : Numbers) (s : State) (q : Proc) (args : List Combination) (numbers : List ℤ) → Fits slots (All g h) v s → AllMean s.next v args numbers
    → Lands s.next v (Gives g slots (asks g.truth q.pre Plain (padded_numbers q.slots numbers)) h) (give_pre (contract_of asrt_of q) args s)

abbrev pub ResultFits : Type 0
ResultFits = (g : Ground) (slots : List ℤ) (h : Heap) (v : Numbers) (s : State) (b : Bool) (x : ℤ) → Fits slots (All g h) v s
    → Lands s.next v (λ o t w. Fits slots (All g h) w t × ResultMeans t.next w o (result_number b x)) (new_result b s)

abbrev pub PostFits : Type 0
PostFits = (g : Ground) (slots : List ℤ) (h more : Heap) (v : Numbers) (s : State) (q : Proc) (e : Env) (xs : List ℤ) (t : Option Combination) (x : Option ℤ) (n : Need) → Fits slots (All g h) v s
    → AllMean s.next v e xs → ResultMeans s.next v t x → asks g.truth q.post Plain (numbers_with xs x) ≡ Some n → AllKnown g n.claims → Holds n.heap h more → IsBounded g.truth more
    → Lands s.next v (λ u r w. Fits slots (All g more) w r) (gain_post (contract_of asrt_of q) e t s)

abbrev pub SetResultFits : Type 0
SetResultFits = (g : Ground) (slots : List ℤ) (h : Heap) (v : Numbers) (s : State) (slot : Option ℕ) (t : Option Combination) (x : Option ℤ) → Fits slots (All g h) v s → ResultMeans s.next v t x
    → Lands s.next v (λ u r w. Fits (numbers_set slots slot x) (All g h) w r) (set_result slot t s)

-- ---- loops

-- a round begins with the invariant at any numbers of the variables that it changes
abbrev pub RoundFits : Type 0
RoundFits = (g : Ground) (slots : List ℤ) (h more : Heap) (v : Numbers) (s : State) (c : Cond) (inv : Asrt) (declared : ℕ) (sets : List ℕ) (ys : List ℤ) (n : Need) → Fits slots (All g h) v s
    → asks g.truth inv Plain (renewed declared sets ys slots) ≡ Some n → AllKnown g n.claims → Holds n.heap h more → IsBounded g.truth more
    → Lands s.next v (λ u t w. Fits (renewed declared sets ys slots) (All g more) w t) (round (exact_cond c (renewed declared sets ys slots)) (cond_of expr_of c) (asrt_of inv) declared sets s)

-- and ends with it
abbrev pub InvFits : Type 0
InvFits = (g : Ground) (slots : List ℤ) (h : Heap) (v : Numbers) (s : State) (inv : Asrt) → Fits slots (All g h) v s
    → Lands s.next v (λ u t w. GivesUp g slots (asks g.truth inv Plain slots) h t w) (give_inv (asrt_of inv) s)

-- ---- atomic locations

-- any address, with leave to write and to update or to read it
abbrev pub AtomicAllocFits : Type 0
AtomicAllocFits = (p : Program) (g : Ground) (slots : List ℤ) (h more : Heap) (v : Numbers) (s : State) (slot : ℕ) (rmw : Bool) (inst : Inst) (loc : ℤ) → Fits slots (All g h) v s → (pos 1 +ℤ pos 0) ≤ℤ loc
    → Knows g (MayWrite loc inst.inv (exact_all inst.args slots)) → Knows g (leave_claim rmw loc inst.inv (exact_all inst.args slots)) → ((q : ℕ) → g.truth.out loc q ≡ [])
    → Holds (leave_heap p rmw inst.inv loc) h more → Lands s.next v (λ u t w. Fits (slice_set slots slot loc) (All g more) w t) (alloc_at (setting_of asrt_of p) slot rmw (inst_of expr_of inst) s)

-- all parts of the invariant at the value are given away: from plain by a releasing store, from up by a relaxed one
abbrev pub AtomicStoreFits : Type 0
AtomicStoreFits = (p : Program) (g later : Ground) (slots : List ℤ) (h : Heap) (v : Numbers) (s : State) (m : Mode) (at e : Expr) → KnowsMore g later h → Agrees g.truth later.truth h
    → Knows later (IsInit Plain (exact at slots)) → Fits slots (All g h) v s
    → Lands s.next v (λ u t w. StoresAtomic p g later m slots (exact at slots) (exact e slots) h t w) (store_atomic (setting_of asrt_of p) m (expr_of at) (expr_of e) s)

-- any value y is read, and of what its message has the parts come for which there is a permission that doesn't exclude y
abbrev pub AtomicLoadFits : Type 0
AtomicLoadFits = (p : Program) (g : Ground) (slots : List ℤ) (h more : Heap) (v : Numbers) (s : State) (inv : ℕ) (xs : List ℤ) (slot : ℕ) (m : Mode) (at : Expr) (y : ℤ) (os : Pool) → HasInv g (exact at slots) inv xs
    → AllReady g (gaining m) (exact at slots) y (parts_in p inv xs y) os more → Holds h (pooled os) more → IsBounded g.truth more → Fits slots (All g h) v s
    → Lands s.next v (λ u t w. LoadsAtomic g (slice_set slots slot y) (exact at slots) y os more t w) (load_atomic (setting_of asrt_of p) slot m (expr_of at) s)

-- ---- threads

abbrev pub ArgsTell : Type 0
ArgsTell = (p : Program) (g : Ground) (slots : List ℤ) (h : Heap) (v : Numbers) (s : State) (calls : List Called) → Fits slots (All g h) v s
    → Tells s (λ rs. AllRun s.next v rs (started p slots calls)) (with_args (setting_of asrt_of p) (map (call_of expr_of) calls) s.env s)

-- every `requires` is given away, and the frame stays
abbrev pub StartsFit : Type 0
StartsFit = (g : Ground) (slots : List ℤ) (h : Heap) (v : Numbers) (s : State) (xs : List Running) (ps : List Started) → Fits slots (All g h) v s → AllRun s.next v xs ps
    → Lands s.next v (Starts g slots ps h) (start_each xs s)

-- every `ensures` is gained, for any results
abbrev pub JoinsFit : Type 0
JoinsFit = (g : Ground) (slots : List ℤ) (h more : Heap) (v : Numbers) (s : State) (xs : List Running) (ps : List Started) (rs : List ℤ) (ns : List Need) → Fits slots (All g h) v s → AllRun s.next v xs ps
    → EachEnsures g ps rs ns → Holds (all_needs ns) h more → IsBounded g.truth more → Lands s.next v (λ u t w. Fits slots (All g more) w t) (join_each xs s)
