-- What comes next on a path has the ends of the path.
use Rattle.std.proofs.Common.{◌≡◌, ℕ, List, ◌∷◌, ap, ◌∙◌, Bool, true, false, [], ◌++◌, refl, sym, append-nil}
use Rattle.fsl_core.specs.declared.act.Stmt.{Stmt}
use Rattle.fsl_core.specs.logic.States.{State, goes, fails, Branches}
use Rattle.fsl_core.specs.logic.Slots.{past}
use Rattle.fsl_core.specs.logic.Paths.{Ends, Meaning, Reading, block, stmt_of, each, act_step, stmt_step, return, give_inv, round, path_ends}
use Rattle.fsl_flow.specs.Paths.{act_meaning, meanings, reading, frame_ends, continuation_ends, item_ends}
use Rattle.fsl_flow.specs.Sets.{act_sets, stmts_set}
use Rattle.fsl_flow.proofs.SetsLemmas.{stmt_layer, sets_same, all_same}
use Rattle.std.specs.List.{flat_map}
use Rattle.std.proofs.lemmas.Grind.{flat_map-append}
use Rattle.fsl_base.specs.declared.span.Span.{Span}
use Rattle.fsl_core.specs.declared.act.Act.{Act}
use Rattle.fsl_core.specs.declared.act.Act.TheOpen.{Act-F}
use Rattle.fsl_core.specs.declared.act.Act.TheViews.{out-Act}
use Rattle.fsl_core.specs.declared.act.Act.TheFolds.{fold_out-Act, map-Act}
use Rattle.fsl_core.specs.declared.assertion.Asrt.{Asrt}
use Rattle.fsl_core.specs.declared.expr.Cond.{Cond}
use Rattle.fsl_core.specs.Verdicts.{End, derived, failed}
use Rattle.fsl_core.specs.logic.Terms.{expr_of}
use Rattle.fsl_core.specs.logic.Deciding.{cond_of}
use Rattle.fsl_core.specs.logic.Joining.{nought}
use Rattle.fsl_core.specs.logic.Producing.{chosen}
use Rattle.fsl_core.specs.logic.Assertions.{asrt_of}
use Rattle.fsl_core.specs.logic.Calls.{finish}
use Rattle.fsl_core.specs.logic.Locations.{setting_of}
use Rattle.fsl_flow.specs.declared.job.Job.{Job}
use Rattle.fsl_flow.specs.Next.{items, goes_to, ends_at, next_act, next_stmt, next_block, next_turn, next_from, next}
use Rattle.fsl_flow.specs.Continuation.{Frame, in_block, in_loop, Leaving, closes, gives_back, Continuation, within}
use Rattle.fsl_flow.specs.Pending.{Item, goes_on, over}
use Rattle.fsl_flow.specs.Looping.{decided_here, body_round}
use Rattle.fsl_flow.specs.Statements.{rule_level}

-- the statements behind the first, once it is done
abbrev pub behind : Reading → Stmt → List Stmt → ℕ → Ends → Ends
behind r stmt others declared after t = block (meanings r others) (past declared (act_sets stmt.act)) t after

pub block_first : (r : Reading) (stmt : Stmt) (others : List Stmt) (declared : ℕ) (s : State) (after : Ends)
    → block (meanings r (stmt ∷ others)) declared s after
    ≡ (act_meaning r stmt.act stmt.span).ends declared s (behind r stmt others declared after)
block_first r stmt others declared s after =
    ap (λ (n : List ℕ). (stmt_of r stmt).ends declared s (λ t. block (meanings r others) (past declared n) t after)) (sets_same r stmt)
    ∙ ap (λ (m : Meaning). m.ends declared s (behind r stmt others declared after)) (stmt_layer r stmt)

pub items_ends : {X : Type 0} (job : Job) (at : Span) (bs : Branches X) (f : X → State → Item) (after : X → Ends)
    → ((x : X) (s : State) → item_ends job (f x s) ≡ after x s) → flat_map (item_ends job) (items at bs f) ≡ each at bs after
unfolding item_ends
items_ends job at [] f after same = refl
items_ends job at (goes x s ∷ bs) f after same =
    ap (λ (es : List End). es ++ flat_map (item_ends job) (items at bs f)) (same x s)
    ∙ ap (λ (es : List End). after x s ++ es) (items_ends job at bs f after same)
items_ends job at (fails kind ∷ bs) f after same = ap (λ (es : List End). failed at kind ∷ es) (items_ends job at bs f after same)

pub going_ends : (job : Job) (at : Span) (bs : Branches (Unit {0})) (left : Continuation)
    → flat_map (item_ends job) (goes_to at bs left) ≡ each at bs (λ x. continuation_ends (reading job) left)
unfolding item_ends
going_ends job at bs left = items_ends job at bs (λ x s. goes_on s left) (λ x. continuation_ends (reading job) left) (λ x s. refl)

ending_ends : (job : Job) (at : Span) (bs : Branches (Unit {0})) → flat_map (item_ends job) (ends_at at bs) ≡ each at bs (λ x. path_ends at)
unfolding item_ends
ending_ends job at bs = items_ends job at bs (λ x s. over (derived at)) (λ x. path_ends at) (λ x s. refl)

-- ---- statements

side_ends : (job : Job) (a b : List Stmt) (declared : ℕ) (left : Continuation) (holds : Bool) (s : State)
    → item_ends job (goes_on s (within (in_block (chosen a b holds) declared) left))
    ≡ block (chosen (meanings (reading job) a) (meanings (reading job) b) holds) declared s (continuation_ends (reading job) left)
unfolding item_ends
side_ends job a b declared left true s = refl
side_ends job a b declared left false s = refl

act_layer : (job : Job) (stmt : Stmt) (declared : ℕ) (s : State) (left : Continuation) (f : Act → Span → Meaning) (x : Act-F Act Stmt)
    → (act_step (reading job) (map-Act Act Stmt (Span → Meaning) Meaning f (stmt_of (reading job)) x) stmt.span).ends declared s (continuation_ends (reading job) left)
    ≡ flat_map (item_ends job) (next_act job stmt declared s left x)
act_layer job stmt declared s left f (Act-F.If cond c d) =
    sym (items_ends job stmt.span (decided_here (cond_of expr_of cond) s) (λ holds t. goes_on t (within (in_block (chosen c d holds) declared) left))
    (λ holds t. block (chosen (meanings (reading job) c) (meanings (reading job) d) holds) declared t (continuation_ends (reading job) left))
    (λ holds t. side_ends job c d declared left holds t))
act_layer job stmt declared s left f (Act-F.While cond inv body) =
    sym (going_ends job stmt.span (give_inv (asrt_of inv) s) (within (in_loop stmt.span cond inv body declared) left))
act_layer job stmt declared s left f (Act-F.Return v) = sym (ending_ends job stmt.span (return (asrt_of job.proc.now.post) (expr_of v) s))
act_layer job stmt declared s left f x = sym (going_ends job stmt.span (rule_level (setting_of asrt_of job.program.now) x s) left)

act_ends : (job : Job) (stmt : Stmt) (declared : ℕ) (s : State) (left : Continuation)
    → (act_meaning (reading job) stmt.act stmt.span).ends declared s (continuation_ends (reading job) left)
    ≡ flat_map (item_ends job) (next_stmt job stmt declared s left)
act_ends job stmt declared s left =
    ap (λ (m : Span → Meaning). (m stmt.span).ends declared s (continuation_ends (reading job) left))
    (fold_out-Act (Span → Meaning) Meaning (act_step (reading job)) stmt_step stmt.act)
    ∙ act_layer job stmt declared s left (act_meaning (reading job)) (out-Act stmt.act)

block_ends : (job : Job) (stmts : List Stmt) (declared : ℕ) (s : State) (up : Continuation)
    → frame_ends (reading job) (in_block stmts declared) (continuation_ends (reading job) up) s ≡ flat_map (item_ends job) (next_block job s stmts declared up)
unfolding item_ends
block_ends job [] declared s up = sym (append-nil (continuation_ends (reading job) up s))
block_ends job (stmt ∷ others) declared s up =
    block_first (reading job) stmt others declared s (continuation_ends (reading job) up)
    ∙ act_ends job stmt declared s (within (in_block others (past declared (act_sets stmt.act))) up)

-- ---- loops

turn_ends : (job : Job) (at : Span) (cond : Cond) (inv : Asrt) (body : List Stmt) (declared : ℕ) (s : State) (up : Continuation)
    → frame_ends (reading job) (in_loop at cond inv body declared) (continuation_ends (reading job) up) s
    ≡ flat_map (item_ends job) (next_turn at cond inv body declared s up)
turn_ends job at cond inv body declared s up =
    let r = reading job in
    let alone : Continuation = record { frames = in_block body declared ∷ []; leaving = gives_back at inv } in
    let inside : List ℕ → Branches (Unit {0}) = λ slots. body_round (cond_of expr_of cond) (asrt_of inv) declared slots s in
    let behind : List ℕ → Branches (Unit {0}) = λ slots. round false (cond_of expr_of cond) (asrt_of inv) declared slots s in
    ap (λ (slots : List ℕ). each at (inside slots) (λ x. continuation_ends r alone) ++ each at (behind slots) (λ x. continuation_ends r up)) (all_same r body)
    ∙ sym (flat_map-append (item_ends job) (goes_to at (inside (stmts_set body)) alone) (goes_to at (behind (stmts_set body)) up)
    ∙ ap (λ (es : List End). es ++ flat_map (item_ends job) (goes_to at (behind (stmts_set body)) up)) (going_ends job at (inside (stmts_set body)) alone)
    ∙ ap (λ (es : List End). each at (inside (stmts_set body)) (λ x. continuation_ends r alone) ++ es) (going_ends job at (behind (stmts_set body)) up))

-- ---- a path

from_ends : (job : Job) (s : State) (frames : List Frame) (leaving : Leaving)
    → continuation_ends (reading job) (record { frames = frames; leaving = leaving }) s ≡ flat_map (item_ends job) (next_from job s frames leaving)
from_ends job s [] (closes at) = sym (ending_ends job at (finish (asrt_of job.proc.now.post) nought s))
from_ends job s [] (gives_back at inv) = sym (ending_ends job at (give_inv (asrt_of inv) s))
from_ends job s (in_block stmts declared ∷ frames) leaving = block_ends job stmts declared s (record { frames = frames; leaving = leaving })
from_ends job s (in_loop at cond inv body declared ∷ frames) leaving =
    turn_ends job at cond inv body declared s (record { frames = frames; leaving = leaving })

pub next_ends : (job : Job) (s : State) (left : Continuation) → item_ends job (goes_on s left) ≡ flat_map (item_ends job) (next job (goes_on s left))
unfolding item_ends
next_ends job s left =
    from_ends job s left.frames left.leaving
