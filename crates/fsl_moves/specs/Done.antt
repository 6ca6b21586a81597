-- What the move of a statement asks, and what its end makes of the thread.
use Rattle.std.specs.Prelude.{◌≡◌, ℕ, Bool, true, false, List, [], ◌∷◌, ◌++◌, Option, ℤ}
use Rattle.fsl_core.specs.declared.act.Act.{Act}
use Rattle.fsl_core.specs.declared.act.Act.TheOpen.{Act-F}
use Rattle.fsl_core.specs.declared.act.Stmt.{Stmt}
use Rattle.fsl_core.specs.declared.label.Label.{Label}
use Rattle.fsl_core.specs.declared.need.Need.{Need}
use Rattle.fsl_core.specs.declared.need.Reply.{Reply}
use Rattle.fsl_core.specs.Programs.{Program}
use Rattle.fsl_core.specs.Moves.{Values, Frame, Moved, running, joining, returned, halted, failed, unlabelled, showing, set_target, act_move}
use Rattle.fsl_moves.specs.declared.config.Arm.{Arm}
use Rattle.fsl_moves.specs.declared.config.Arm.TheVariants as arm
use Rattle.fsl_moves.specs.declared.done.Done.{Done}
use Rattle.fsl_moves.specs.declared.done.Done.TheVariants as done
use Rattle.fsl_moves.specs.declared.done.Turn.TheVariants as turn
use Rattle.fsl_moves.specs.Config.{block_of, frame_of}
use Rattle.fsl_moves.specs.Moves.{is_list}

-- a procedure with these statements left
abbrev pub frame_with : List Stmt → Values → Option ℕ → Frame
frame_with stmts env target = record { stmts = stmts; env = env; target = target }

-- what is left of the block around one that is entered: a loop is made again
abbrev pub stays : Arm → Stmt → List Stmt → List Stmt
stays arm.Body stmt rest = stmt ∷ rest
stays _ stmt rest = rest

-- the result of a procedure goes to the one that called it, or ends the thread
abbrev pub returned_to : Option ℕ → List Frame → ℤ → Moved
returned_to target [] v = showing (Label.End v) (returned v)
returned_to target (below ∷ fs) v = unlabelled (running (set_target target v below) fs)

-- the end of an act's move, where `rest` stands behind its statement and `fs` wait
abbrev pub after : Program → Act-F Act Stmt → Stmt → List Stmt → Option ℕ → List Frame → Values → Done → Moved
after p act stmt rest target fs env (done.Turns (turn.Goes label)) = record { config = running (frame_with rest env target) fs; label = label }
after p act stmt rest target fs env (done.Enters arm) = unlabelled (running (frame_with (block_of arm act ++ stays arm stmt rest) env target) fs)
after p act stmt rest target fs env (done.Calls callee) = unlabelled (running (frame_of p callee) (frame_with rest env target ∷ fs))
after p act stmt rest target fs env (done.Starts c label) = showing label (joining c.first c.count (frame_with rest env target) fs)
after p act stmt rest target fs env (done.Turns (turn.Returns v)) = returned_to target fs v
after p act stmt rest target fs env (done.Turns (turn.Halts label)) = record { config = halted; label = label }
after p act stmt rest target fs env (done.Turns turn.Fails) = unlabelled failed

-- the move of an act with a reply comes to this end, and the variables change from `old` to `new`
abbrev pub Ends : Program → Act-F Act Stmt → (old : Values) → Reply → (new : Values) → Done → Type 0
Ends p act old reply new done =
    (stmt : Stmt) (rest : List Stmt) (target : Option ℕ) (fs : List Frame)
    → (act_move p act stmt (frame_with rest old target) fs).answered reply ≡ after p act stmt rest target fs new done

abbrev pub is_empty : {X : Type 0} → List X → Bool
is_empty [] = true
is_empty (x ∷ xs) = false

-- the move of an act asks this; `last` says whether no procedure waits
abbrev pub Asks : Program → Act-F Act Stmt → Values → (last : Bool) → Need → Type 0
Asks p act env last need =
    (stmt : Stmt) (rest : List Stmt) (target : Option ℕ) (fs : List Frame) → is_empty fs ≡ last
    → (act_move p act stmt (frame_with rest env target) fs).need ≡ need

-- the move of an act asks a list
abbrev pub AsksList : Program → Act-F Act Stmt → Values → Type 0
AsksList p act env =
    (stmt : Stmt) (rest : List Stmt) (target : Option ℕ) (fs : List Frame)
    → is_list (act_move p act stmt (frame_with rest env target) fs).need ≡ true
