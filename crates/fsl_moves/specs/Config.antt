-- Configurations that keep where they stand in the program, and the configurations of the definition that they stand for.
use Rattle.std.specs.Prelude.{ℕ, ◌+◌, ◌<◌, ◌^◌, slice_get, List, [], ◌∷◌, ◌++◌, map, reverse, Option, Some, None, drop}
use Rattle.fsl_core.specs.declared.act.Act.{Act}
use Rattle.fsl_core.specs.declared.act.Act.TheOpen.{Act-F}
use Rattle.fsl_core.specs.declared.act.Act.TheViews.{out-Act}
use Rattle.fsl_core.specs.declared.act.Stmt.{Stmt}
use Rattle.fsl_core.specs.declared.declaration.Proc.{Proc}
use Rattle.fsl_core.specs.Programs.{Program}
use Rattle.fsl_core.specs.Moves as moves
use Rattle.fsl_moves.specs.declared.config.Arm.{Arm}
use Rattle.fsl_moves.specs.declared.config.Arm.TheVariants as arm
use Rattle.fsl_moves.specs.declared.config.Children.{Children}
use Rattle.fsl_moves.specs.declared.config.Config.{Config}
use Rattle.fsl_moves.specs.declared.config.Config.TheVariants as config
use Rattle.fsl_moves.specs.declared.config.Entry.{Entry}
use Rattle.fsl_moves.specs.declared.config.Frame.{Frame}

abbrev pub body_of : Option Proc → List Stmt
body_of None = []
body_of (Some proc) = proc.body

abbrev pub params_of : Option Proc → ℕ
params_of None = 0
params_of (Some proc) = proc.params

-- ---- where a procedure stands in its body

-- a block of a statement
abbrev pub block_of : Arm → Act-F Act Stmt → List Stmt
block_of arm.Yes (Act-F.If cond a b) = a
block_of arm.No (Act-F.If cond a b) = b
block_of arm.Body (Act-F.While cond inv body) = body
block_of _ _ = []

abbrev pub block_in : Arm → Option Stmt → List Stmt
block_in arm None = []
block_in arm (Some stmt) = block_of arm (out-Act stmt.act)

-- the block that is entered from the one around it
abbrev pub entered : Entry → List Stmt → List Stmt
entered e block = block_in e.arm (slice_get block e.stmt)

-- the block at the end of a path, which begins at a body
abbrev pub innermost : List Stmt → List Entry → List Stmt
innermost block [] = block
innermost block (e ∷ path) = innermost (entered e block) path

-- what is left of the blocks around that one, the inner ones first
abbrev pub around : List Stmt → List Entry → List Stmt
around block [] = []
around block (e ∷ path) = around (entered e block) path ++ drop e.onward block

-- what is left from a statement on
abbrev pub left_from : List Stmt → List Entry → ℕ → List Stmt
left_from body path at = drop at (innermost body path) ++ around body path

-- ---- threads

abbrev pub frame_of : Program → Frame → moves.Frame
frame_of p f = record {
  stmts = left_from (body_of (slice_get p.procs f.proc)) f.path.items f.at;
  env = f.env;
  target = f.target;
}

-- the procedures that wait, the innermost first
abbrev pub frames_of : Program → List Frame → List moves.Frame
frames_of p below = reverse (map (frame_of p) below)

abbrev pub running_or_joining : Option Children → moves.Frame → List moves.Frame → moves.Config
running_or_joining None f fs = moves.running f fs
running_or_joining (Some c) f fs = moves.joining c.first c.count f fs

-- the configuration with the statements that are left
abbrev pub config_of : Program → Config → moves.Config
config_of p (config.Running f below children) = running_or_joining children (frame_of p f) (frames_of p below.items)
config_of p (config.Returned v) = moves.returned v
config_of p config.Halted = moves.halted
config_of p config.Failed = moves.failed

-- the threads that are waited for have numbers
abbrev pub AreNumbered : Option Children → Type 0
AreNumbered None = Unit {0}
AreNumbered (Some c) = c.first + c.count < 2 ^ 32

-- the configuration is one of the program
abbrev pub Fits : Program → Config → Type 0
Fits p (config.Running f below children) = AreNumbered children
Fits p (config.Returned v) = Unit {0}
Fits p config.Halted = Unit {0}
Fits p config.Failed = Unit {0}
