-- What comes next on a path has less text left, so that the steps of a path can be counted.
use Rattle.std.proofs.Common.{arith, ◌≡◌, ℕ, zero, suc, ◌+◌, ◌<◌, Bool, true, false, ◌&&◌, List, [], ◌∷◌, ◌++◌, map, refl, sym, ap, ◌∙◌, subst}
use Rattle.std.specs.List.{list_all}
use Rattle.std.proofs.lemmas.Bool.{and_parts}
use Rattle.fsl_base.specs.declared.span.Span.{Span}
use Rattle.fsl_core.specs.declared.act.Act.{Act}
use Rattle.fsl_core.specs.declared.act.Stmt.{Stmt}
use Rattle.fsl_core.specs.declared.act.Act.TheOpen.{Act-F}
use Rattle.fsl_core.specs.declared.act.Act.TheViews.{out-Act}
use Rattle.fsl_core.specs.declared.act.Act.TheFolds.{fold_out-Act, fold_out-Stmt, map-Act}
use Rattle.fsl_core.specs.declared.assertion.Asrt.{Asrt}
use Rattle.fsl_core.specs.declared.expr.Cond.{Cond}
use Rattle.fsl_core.specs.Verdicts.{derived}
use Rattle.fsl_core.specs.logic.States.{State, goes, fails, Branches}
use Rattle.fsl_core.specs.logic.Terms.{expr_of}
use Rattle.fsl_core.specs.logic.Deciding.{cond_of}
use Rattle.fsl_core.specs.logic.Joining.{nought}
use Rattle.fsl_core.specs.logic.Producing.{chosen}
use Rattle.fsl_core.specs.logic.Assertions.{asrt_of}
use Rattle.fsl_core.specs.logic.Calls.{finish}
use Rattle.fsl_core.specs.logic.Locations.{setting_of}
use Rattle.fsl_core.specs.logic.Slots.{past}
use Rattle.fsl_core.specs.logic.Paths.{return, give_inv, round}
use Rattle.fsl_flow.specs.declared.job.Job.{Job}
use Rattle.fsl_flow.specs.Supported.{supported_step, is_supported_act, is_supported_stmt, are_supported}
use Rattle.fsl_flow.specs.Next.{items, goes_to, next_act, next_block, next_turn, next_exit, next_from, next}
use Rattle.fsl_flow.specs.Continuation.{Frame, in_block, in_loop, Leaving, closes, gives_back, Continuation, within}
use Rattle.fsl_flow.specs.Pending.{Item, goes_on, over}
use Rattle.fsl_flow.specs.Paths.{is_supported_frame, is_supported_continuation, is_supported_item, total, weight_step, stmt_weight_step, act_weight, stmt_weight, weight, frame_weight, continuation_weight, item_weight, steps_by, steps}
use Rattle.fsl_flow.specs.Looping.{decided_here, body_round}
use Rattle.fsl_flow.specs.Sets.{act_sets, stmts_set}
use Rattle.fsl_flow.specs.Statements.{rule_level}
use Rattle.fsl_flow.proofs.SupportedLemmas.{head_supported, tail_supported}

-- with less text left than so much, and of a supported program
pub record Follows (most : ℕ) (item : Item) : Type 0 where
  pub lighter : item_weight item < most
  pub supported : is_supported_item item ≡ true

abbrev pub AllFollow : ℕ → List Item → Type 0
AllFollow most [] = Unit {0}
AllFollow most (item ∷ more) = Follows most item × AllFollow most more

items_follow : {X : Type 0} (most : ℕ) (at : Span) (bs : Branches X) (f : X → State → Item) → 0 < most
    → ((x : X) (s : State) → Follows most (f x s)) → AllFollow most (items at bs f)
items_follow most at [] f some follows = tt
items_follow most at (goes x s ∷ bs) f some follows = (follows x s, items_follow most at bs f some follows)
items_follow most at (fails kind ∷ bs) f some follows = (record { lighter = some; supported = refl }, items_follow most at bs f some follows)

both_follow : (most : ℕ) (xs ys : List Item) → AllFollow most xs → AllFollow most ys → AllFollow most (xs ++ ys)
both_follow most [] ys h k = k
both_follow most (x ∷ xs) ys h k = (h.0, both_follow most xs ys h.1 k)

pub follow_supported : (most : ℕ) (xs : List Item) → AllFollow most xs → list_all is_supported_item xs ≡ true
follow_supported most [] h = refl
follow_supported most (x ∷ xs) h = rw (h.0.supported) (follow_supported most xs h.1)

pub going_supported : (at : Span) (bs : Branches (Unit {0})) (left : Continuation) → is_supported_continuation left ≡ true → list_all is_supported_item (goes_to at bs left) ≡ true
going_supported at bs left h =
    follow_supported (continuation_weight left + 1) (goes_to at bs left)
    (items_follow (continuation_weight left + 1) at bs (λ x s. goes_on s left) (omega arith) (λ x s. record { lighter = omega arith; supported = h }))

pub both : (a b : Bool) → a ≡ true → b ≡ true → (a && b) ≡ true
both a b h k = rw (h, k) refl

-- ---- statements

side_follows : (most : ℕ) (a b : List Stmt) (declared : ℕ) (left : Continuation) → are_supported a ≡ true → are_supported b ≡ true → is_supported_continuation left ≡ true
    → continuation_weight left + (weight a + weight b) + 1 < most → (holds : Bool) (s : State)
    → Follows most (goes_on s (within (in_block (chosen a b holds) declared) left))
side_follows most a b declared left h k l less true s = record {
  lighter = omega arith;
  supported = both (are_supported a) (list_all is_supported_frame left.frames) h l;
}
side_follows most a b declared left h k l less false s = record {
  lighter = omega arith;
  supported = both (are_supported b) (list_all is_supported_frame left.frames) k l;
}

act_follows : (job : Job) (stmt : Stmt) (declared : ℕ) (s : State) (left : Continuation) (f : Act → ℕ) (h : Act → Bool) (x : Act-F Act Stmt)
    → supported_step (map-Act Act Stmt Bool Bool h is_supported_stmt x) ≡ true → is_supported_continuation left ≡ true
    → AllFollow (continuation_weight left + weight_step (map-Act Act Stmt ℕ ℕ f stmt_weight x) + 2) (next_act job stmt declared s left x)
act_follows job stmt declared s left f h (Act-F.If cond a b) is k =
    let most : ℕ = continuation_weight left + (weight a + weight b) + 2 in
    let parts = and_parts (are_supported a) (are_supported b) is in
    items_follow most stmt.span (decided_here (cond_of expr_of cond) s) (λ holds t. goes_on t (within (in_block (chosen a b holds) declared) left)) (omega arith)
    (λ holds t. side_follows most a b declared left parts.0 parts.1 k (omega arith) holds t)
act_follows job stmt declared s left f h (Act-F.While cond inv body) is k =
    items_follow (continuation_weight left + (weight body + 1) + 2) stmt.span (give_inv (asrt_of inv) s)
    (λ x t. goes_on t (within (in_loop stmt.span cond inv body declared) left)) (omega arith) (λ x t. record {
      lighter = omega arith;
      supported = both (are_supported body) (list_all is_supported_frame left.frames) is k;
    })
act_follows job stmt declared s left f h (Act-F.Return e) is k =
    items_follow (continuation_weight left + 0 + 2) stmt.span (return (asrt_of job.proc.now.post) (expr_of e) s) (λ x t. over (derived stmt.span)) (omega arith)
    (λ x t. record { lighter = omega arith; supported = refl })
act_follows job stmt declared s left f h x is k =
    items_follow (continuation_weight left + 0 + 2) stmt.span (rule_level (setting_of asrt_of job.program.now) x s) (λ y t. goes_on t left) (omega arith)
    (λ y t. record { lighter = omega arith; supported = k })

block_follows : (job : Job) (s : State) (stmts : List Stmt) (declared : ℕ) (up : Continuation) → are_supported stmts ≡ true → is_supported_continuation up ≡ true
    → AllFollow (weight stmts + 1 + continuation_weight up) (next_block job s stmts declared up)
block_follows job s [] declared up h k = (record { lighter = omega arith; supported = k }, tt)
block_follows job s (stmt ∷ others) declared up h k =
    let rest : Continuation = within (in_block others (past declared (act_sets stmt.act))) up in
    let one : stmt_weight stmt ≡ act_weight stmt.act + 2 = fold_out-Stmt ℕ ℕ weight_step stmt_weight_step stmt in
    let two : act_weight stmt.act ≡ weight_step (map-Act Act Stmt ℕ ℕ act_weight stmt_weight (out-Act stmt.act)) =
    fold_out-Act ℕ ℕ weight_step stmt_weight_step stmt.act in
    let same : continuation_weight rest + weight_step (map-Act Act Stmt ℕ ℕ act_weight stmt_weight (out-Act stmt.act)) + 2 ≡ weight (stmt ∷ others) + 1 + continuation_weight up =
    omega (arith, one, two) in
    subst (λ (most : ℕ). AllFollow most (next_block job s (stmt ∷ others) declared up)) same
    (act_follows job stmt declared s rest act_weight is_supported_act (out-Act stmt.act)
    (sym (fold_out-Act Bool Bool supported_step (λ x. x.act) stmt.act) ∙ head_supported stmt others h)
    (both (are_supported others) (list_all is_supported_frame up.frames) (tail_supported stmt others h) k))

-- ---- loops

turn_follows : (at : Span) (cond : Cond) (inv : Asrt) (body : List Stmt) (declared : ℕ) (s : State) (up : Continuation)
    → are_supported body ≡ true → is_supported_continuation up ≡ true
    → AllFollow (weight body + 2 + continuation_weight up) (next_turn at cond inv body declared s up)
turn_follows at cond inv body declared s up k l =
    let most : ℕ = weight body + 2 + continuation_weight up in
    let alone : Continuation = record { frames = in_block body declared ∷ []; leaving = gives_back at inv } in
    let inside : Branches (Unit {0}) = body_round (cond_of expr_of cond) (asrt_of inv) declared (stmts_set body) s in
    let behind : Branches (Unit {0}) = round false (cond_of expr_of cond) (asrt_of inv) declared (stmts_set body) s in
    both_follow most (items at inside (λ x t. goes_on t alone)) (items at behind (λ x t. goes_on t up))
    (items_follow most at inside (λ x t. goes_on t alone) (omega arith)
    (λ x t. record { lighter = omega arith; supported = both (are_supported body) true k refl }))
    (items_follow most at behind (λ x t. goes_on t up) (omega arith) (λ x t. record { lighter = omega arith; supported = l }))

-- ---- a path

exit_follows : (job : Job) (s : State) (leaving : Leaving) → AllFollow 1 (next_exit job s leaving)
exit_follows job s (closes at) =
    items_follow 1 at (finish (asrt_of job.proc.now.post) nought s) (λ x t. over (derived at)) (omega arith) (λ x t. record { lighter = omega arith; supported = refl })
exit_follows job s (gives_back at inv) =
    items_follow 1 at (give_inv (asrt_of inv) s) (λ x t. over (derived at)) (omega arith) (λ x t. record { lighter = omega arith; supported = refl })

from_follows : (job : Job) (s : State) (frames : List Frame) (leaving : Leaving) → list_all is_supported_frame frames ≡ true
    → AllFollow (total (map frame_weight frames) + 1) (next_from job s frames leaving)
from_follows job s [] leaving h = exit_follows job s leaving
from_follows job s (in_block stmts declared ∷ frames) leaving h =
    let up : Continuation = record { frames = frames; leaving = leaving } in
    let parts = and_parts (are_supported stmts) (list_all is_supported_frame frames) h in
    let same : weight stmts + 1 + continuation_weight up ≡ total (map frame_weight (in_block stmts declared ∷ frames)) + 1 = omega arith in
    subst (λ (most : ℕ). AllFollow most (next_block job s stmts declared up)) same (block_follows job s stmts declared up parts.0 parts.1)
from_follows job s (in_loop at cond inv body declared ∷ frames) leaving h =
    let up : Continuation = record { frames = frames; leaving = leaving } in
    let parts = and_parts (are_supported body) (list_all is_supported_frame frames) h in
    let same : weight body + 2 + continuation_weight up ≡ total (map frame_weight (in_loop at cond inv body declared ∷ frames)) + 1 = omega arith in
    subst (λ (most : ℕ). AllFollow most (next_turn at cond inv body declared s up)) same (turn_follows at cond inv body declared s up parts.0 parts.1)

pub next_follows : (job : Job) (item : Item) → is_supported_item item ≡ true → AllFollow (item_weight item) (next job item)
next_follows job (goes_on s left) h = from_follows job s left.frames left.leaving h
next_follows job (over end) h = tt

-- ---- steps

same_total : (f g : Item → ℕ) (most : ℕ) (xs : List Item) → AllFollow most xs → ((x : Item) → Follows most x → f x ≡ g x)
    → total (map f xs) ≡ total (map g xs)
same_total f g most [] h same = refl
same_total f g most (x ∷ xs) h same =
    ap (λ (n : ℕ). n + total (map f xs)) (same x h.0) ∙ ap (λ (n : ℕ). g x + n) (same_total f g most xs h.1 same)

steps_same : (n m : ℕ) (job : Job) (item : Item) → is_supported_item item ≡ true → item_weight item < n → item_weight item < m
    → steps_by n job item ≡ steps_by m job item
unfolding steps_by
steps_same zero m job item h k l = absurd (omega arith)
steps_same (suc n) zero job item h k l = absurd (omega arith)
steps_same (suc n) (suc m) job item h k l =
    ap suc (same_total (λ x. steps_by n job x) (λ x. steps_by m job x) (item_weight item) (next job item) (next_follows job item h)
    (λ x follows. steps_same n m job x follows.supported (omega (arith, follows.lighter)) (omega (arith, follows.lighter))))

pub steps_next : (job : Job) (item : Item) → is_supported_item item ≡ true → steps job item ≡ suc (total (map (steps job) (next job item)))
unfolding steps steps_by
steps_next job item h =
    ap suc (same_total (λ x. steps_by (item_weight item) job x) (steps job) (item_weight item) (next job item) (next_follows job item h)
    (λ x follows. steps_same (item_weight item) (suc (item_weight x)) job x follows.supported (follows.lighter) (omega arith)))
