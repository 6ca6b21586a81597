-- What comes next on a path: its next statement by its rule, each branch with what is then left.
use Rattle.std.specs.Prelude.{ℕ, Bool, false, List, [], ◌∷◌, ◌++◌}
use Rattle.fsl_base.specs.declared.span.Span.{Span}
use Rattle.fsl_core.specs.declared.act.Act.{Act}
use Rattle.fsl_core.specs.declared.act.Stmt.{Stmt}
use Rattle.fsl_core.specs.declared.act.Act.TheOpen.{Act-F}
use Rattle.fsl_core.specs.declared.act.Act.TheViews.{out-Act}
use Rattle.fsl_core.specs.declared.assertion.Asrt.{Asrt}
use Rattle.fsl_core.specs.declared.expr.Cond.{Cond}
use Rattle.fsl_core.specs.Verdicts.{derived, failed}
use Rattle.fsl_core.specs.logic.States.{State, goes, fails, Branches}
use Rattle.fsl_core.specs.logic.Terms.{expr_of}
use Rattle.fsl_core.specs.logic.Deciding.{cond_of}
use Rattle.fsl_core.specs.logic.Joining.{nought}
use Rattle.fsl_core.specs.logic.Producing.{chosen}
use Rattle.fsl_core.specs.logic.Assertions.{asrt_of}
use Rattle.fsl_core.specs.logic.Calls.{finish}
use Rattle.fsl_core.specs.logic.Locations.{setting_of}
use Rattle.fsl_core.specs.logic.Paths.{return, give_inv, round}
use Rattle.fsl_core.specs.logic.Slots.{past}
use Rattle.fsl_flow.specs.declared.job.Job.{Job}
use Rattle.fsl_flow.specs.Continuation.{Frame, in_block, in_loop, Leaving, closes, gives_back, Continuation, within}
use Rattle.fsl_flow.specs.Pending.{Item, goes_on, over}
use Rattle.fsl_flow.specs.Looping.{decided_here, body_round}
use Rattle.fsl_flow.specs.Sets.{act_sets, stmts_set}
use Rattle.fsl_flow.specs.Statements.{rule_level}

-- what the branches of a rule go on with, in order; a branch that fails ends its path at a place
abbrev pub items : {X : Type 0} → Span → Branches X → (X → State → Item) → List Item
items at [] f = []
items at (goes x s ∷ bs) f = f x s ∷ items at bs f
items at (fails kind ∷ bs) f = over (failed at kind) ∷ items at bs f

abbrev pub goes_to : Span → Branches (Unit {0}) → Continuation → List Item
goes_to at bs left = items at bs (λ x s. goes_on s left)

-- each with one of two blocks
abbrev pub goes_to_side : Span → Branches Bool → List Stmt → List Stmt → ℕ → Continuation → List Item
goes_to_side at bs a b declared left = items at bs (λ holds s. goes_on s (within (in_block (chosen a b holds) declared) left))

abbrev pub ends_at : Span → Branches (Unit {0}) → List Item
ends_at at bs = items at bs (λ x s. over (derived at))

abbrev pub next_act : Job → Stmt → ℕ → State → Continuation → Act-F Act Stmt → List Item
next_act job stmt declared s left (Act-F.If cond a b) = goes_to_side stmt.span (decided_here (cond_of expr_of cond) s) a b declared left
next_act job stmt declared s left (Act-F.While cond inv body) =
    goes_to stmt.span (give_inv (asrt_of inv) s) (within (in_loop stmt.span cond inv body declared) left)
next_act job stmt declared s left (Act-F.Return e) = ends_at stmt.span (return (asrt_of job.proc.now.post) (expr_of e) s)
next_act job stmt declared s left act = goes_to stmt.span (rule_level (setting_of asrt_of job.program.now) act s) left

-- of a statement, given what is left behind it
abbrev pub next_stmt : Job → Stmt → ℕ → State → Continuation → List Item
next_stmt job stmt declared s left = next_act job stmt declared s left (out-Act stmt.act)

abbrev pub next_block : Job → State → List Stmt → ℕ → Continuation → List Item
next_block job s [] declared up = goes_on s up ∷ []
next_block job s (stmt ∷ others) declared up = next_stmt job stmt declared s (within (in_block others (past declared (act_sets stmt.act))) up)

-- of a loop to which its invariant was given: a round on paths of their own, and then what is behind the loop
abbrev pub next_turn : Span → Cond → Asrt → List Stmt → ℕ → State → Continuation → List Item
next_turn at cond inv body declared s up =
    goes_to at (body_round (cond_of expr_of cond) (asrt_of inv) declared (stmts_set body) s)
    (record { frames = in_block body declared ∷ []; leaving = gives_back at inv })
    ++ goes_to at (round false (cond_of expr_of cond) (asrt_of inv) declared (stmts_set body) s) up

abbrev pub next_exit : Job → State → Leaving → List Item
next_exit job s (closes at) = ends_at at (finish (asrt_of job.proc.now.post) nought s)
next_exit job s (gives_back at inv) = ends_at at (give_inv (asrt_of inv) s)

abbrev pub next_from : Job → State → List Frame → Leaving → List Item
next_from job s [] leaving = next_exit job s leaving
next_from job s (in_block stmts declared ∷ frames) leaving = next_block job s stmts declared (record { frames = frames; leaving = leaving })
next_from job s (in_loop at cond inv body declared ∷ frames) leaving =
    next_turn at cond inv body declared s (record { frames = frames; leaving = leaving })

abbrev pub next : Job → Item → List Item
next job (goes_on s left) = next_from job s left.frames left.leaving
next job (over end) = []
