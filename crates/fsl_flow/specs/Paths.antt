-- The ends of what waits to be followed, and how many steps it takes.
use Rattle.std.specs.Prelude.{ℕ, zero, suc, ◌+◌, Bool, true, List, [], ◌∷◌, ◌++◌, map}
use Rattle.std.specs.List.{list_all}
use Rattle.fsl_base.specs.declared.span.Span.{Span}
use Rattle.fsl_core.specs.declared.act.Act.{Act}
use Rattle.fsl_core.specs.declared.act.Stmt.{Stmt}
use Rattle.fsl_core.specs.declared.act.Act.TheOpen.{Act-F, Stmt-F}
use Rattle.fsl_core.specs.declared.act.Act.TheFolds.{fold-Act, fold-Stmt}
use Rattle.fsl_core.specs.Verdicts.{End}
use Rattle.fsl_core.specs.logic.Terms.{expr_of}
use Rattle.fsl_core.specs.logic.Deciding.{cond_of}
use Rattle.fsl_core.specs.logic.Assertions.{asrt_of}
use Rattle.fsl_core.specs.logic.Paths.{Ends, Meaning, Reading, each, block, act_step, stmt_step, stmt_of, reading_by, closing, path_ends, give_inv, body_ends, behind_ends}
use Rattle.fsl_flow.specs.Supported.{are_supported}
use Rattle.fsl_flow.specs.declared.job.Job.{Job}
use Rattle.fsl_flow.specs.Next.{next}
use Rattle.fsl_flow.specs.Continuation.{Frame, in_block, in_loop, Leaving, closes, gives_back, Continuation}
use Rattle.fsl_flow.specs.Pending.{Item, goes_on, over}

-- how the statements of a procedure are read
abbrev pub reading : Job → Reading
reading job = reading_by expr_of asrt_of job.program.now job.proc.now

abbrev pub act_meaning : Reading → Act → Span → Meaning
act_meaning r = fold-Act (Span → Meaning) Meaning (act_step r) stmt_step

abbrev pub meanings : Reading → List Stmt → List Meaning
meanings r stmts = map (stmt_of r) stmts

-- ---- ends

-- of statements, or of a round of a loop on a path of its own and then of what comes behind it
abbrev pub frame_ends : Reading → Frame → Ends → Ends
frame_ends r (in_block stmts declared) up s = block (meanings r stmts) declared s up
frame_ends r (in_loop at cond inv body declared) up s =
    body_ends (cond_of r.expr cond) (r.asrt inv) (meanings r body) at declared s
    ++ behind_ends (cond_of r.expr cond) (r.asrt inv) (meanings r body) at declared up s

abbrev pub leaving_ends : Reading → Leaving → Ends
leaving_ends r (closes at) = closing r.post at
leaving_ends r (gives_back at inv) = λ s. each at (give_inv (r.asrt inv) s) (λ x. path_ends at)

abbrev pub frames_ends : Reading → List Frame → Ends → Ends
frames_ends r [] up = up
frames_ends r (frame ∷ frames) up = frame_ends r frame (frames_ends r frames up)

abbrev pub continuation_ends : Reading → Continuation → Ends
continuation_ends r left = frames_ends r left.frames (leaving_ends r left.leaving)

-- this word and the next ones stay closed outside of the laws on them
unfoldable pub item_ends : Job → Item → List End
item_ends job (goes_on s left) = continuation_ends (reading job) left s
item_ends job (over end) = end ∷ []

-- ---- every statement that is left is supported

abbrev pub is_supported_frame : Frame → Bool
is_supported_frame (in_block stmts declared) = are_supported stmts
is_supported_frame (in_loop at cond inv body declared) = are_supported body

abbrev pub is_supported_continuation : Continuation → Bool
is_supported_continuation left = list_all is_supported_frame left.frames

abbrev pub is_supported_item : Item → Bool
is_supported_item (goes_on s left) = is_supported_continuation left
is_supported_item (over end) = true

-- ---- how much of the text is left to follow

abbrev pub total : List ℕ → ℕ
total [] = 0
total (n ∷ ns) = n + total ns

abbrev pub weight_step : Act-F ℕ ℕ → ℕ
weight_step (Act-F.If cond a b) = total a + total b
weight_step (Act-F.While cond inv body) = total body + 1
weight_step _ = 0

abbrev pub stmt_weight_step : Stmt-F ℕ ℕ → ℕ
stmt_weight_step stmt = stmt.act + 2

abbrev pub act_weight : Act → ℕ
act_weight = fold-Act ℕ ℕ weight_step stmt_weight_step

abbrev pub stmt_weight : Stmt → ℕ
stmt_weight = fold-Stmt ℕ ℕ weight_step stmt_weight_step

abbrev pub weight : List Stmt → ℕ
weight stmts = total (map stmt_weight stmts)

abbrev pub frame_weight : Frame → ℕ
frame_weight (in_block stmts declared) = weight stmts + 1
frame_weight (in_loop at cond inv body declared) = weight body + 2

abbrev pub continuation_weight : Continuation → ℕ
continuation_weight left = total (map frame_weight left.frames) + 1

abbrev pub item_weight : Item → ℕ
item_weight (goes_on s left) = continuation_weight left
item_weight (over end) = 0

-- ---- how many steps it takes to follow what waits. What comes next has less text left, so that its weight is enough.

unfoldable pub steps_by : ℕ → Job → Item → ℕ
steps_by zero job item = 0
steps_by (suc n) job item = suc (total (map (λ x. steps_by n job x) (next job item)))

unfoldable pub steps : Job → Item → ℕ
steps job item = steps_by (suc (item_weight item)) job item
