-- What a move may take: memory, and numbers of threads.
use Rattle.std.specs.Prelude.{Bool, true, false, List, [], ◌∷◌, ◌≡◌, ◌+◌, ◌<◌, ◌^◌, length, Option, Some}
use Rattle.fsl_core.specs.declared.act.Act.{Act}
use Rattle.fsl_core.specs.declared.act.Act.TheOpen.{Act-F}
use Rattle.fsl_core.specs.declared.act.Act.TheViews.{out-Act}
use Rattle.fsl_core.specs.declared.act.Stmt.{Stmt}
use Rattle.fsl_core.specs.declared.need.Need.{Need}
use Rattle.fsl_core.specs.declared.need.Need.TheVariants as need
use Rattle.fsl_core.specs.Moves.{Config, running, joining, returned, halted, failed, Values, started_of}
use Rattle.fsl_core.specs.declared.need.Reply.{Reply}
use Rattle.fsl_core.specs.declared.need.Reply.TheVariants as reply
use Rattle.fsl_core.specs.declared.need.Started.{Started}
use Rattle.fsl_core.specs.Programs.{Program}
use Rattle.fsl_moves.specs.declared.done.Done.{Done}
use Rattle.fsl_moves.specs.declared.done.Done.TheVariants as done

-- what is asked is a list
abbrev pub is_list : Need → Bool
is_list (need.Fork calls) = true
is_list (need.Join children) = true
is_list _ = false

-- a read, a write, or both
abbrev pub is_access : Need → Bool
is_access (need.Load m l) = true
is_access (need.Store m l v) = true
is_access (need.Rmw m fail l op) = true
is_access _ = false

-- the move enters a block or a procedure, or starts threads
abbrev pub act_grows : Act-F Act Stmt → Bool
act_grows (Act-F.Call slot proc args) = true
act_grows (Act-F.Par calls) = true
act_grows (Act-F.If cond a b) = true
act_grows (Act-F.While cond inv body) = true
act_grows _ = false

abbrev pub stmts_grow : List Stmt → Bool
stmts_grow [] = false
stmts_grow (stmt ∷ stmts) = act_grows (out-Act stmt.act)

-- the next move enters a block or a procedure, or starts threads, or waits for some
abbrev pub grows : Config → Bool
grows (running f fs) = stmts_grow f.stmts
grows (joining first count f fs) = true
grows (returned v) = false
grows halted = false
grows failed = false

-- ---- the numbers of threads, which are below 2^32

-- the threads that a reply starts have numbers, and each one that is waited for has a result
abbrev pub HasNumbers : Need → Reply → Type 0
HasNumbers (need.Fork calls) (reply.Threads first) = first + length calls < 2 ^ 32
HasNumbers (need.Join children) (reply.Results values) = length values ≡ length children
HasNumbers _ _ = Unit {0}

abbrev pub CanStart : Option (List Started) → Reply → Type 0
CanStart (Some calls) (reply.Threads first) = first + length calls < 2 ^ 32
CanStart _ _ = Unit {0}

-- the threads that an act starts have numbers
abbrev pub CanNumber : Program → Act-F Act Stmt → Values → Reply → Type 0
CanNumber p (Act-F.Par calls) env reply = CanStart (started_of p calls env) reply
CanNumber p _ env reply = Unit {0}

-- the threads that were started have numbers
abbrev pub IsNumbered : Done → Type 0
IsNumbered (done.Starts children label) = children.first + children.count < 2 ^ 32
IsNumbered _ = Unit {0}
