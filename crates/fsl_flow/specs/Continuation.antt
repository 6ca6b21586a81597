-- What is left of a path: a frame for each depth of nesting, from the innermost outwards, and where the path ends.
use Rattle.std.specs.Prelude.{ℕ, List, ◌∷◌, map, reverse}
use Rattle.fsl_base.specs.declared.span.Span.{Span}
use Rattle.fsl_core.specs.declared.act.Stmt.{Stmt}
use Rattle.fsl_core.specs.declared.assertion.Asrt.{Asrt}
use Rattle.fsl_core.specs.declared.expr.Cond.{Cond}
use Rattle.fsl_flow.specs.declared.continuation.Frame as framing
use Rattle.fsl_flow.specs.declared.continuation.Frame.TheVariants as framed
use Rattle.fsl_flow.specs.declared.continuation.Exit.{Exit}
use Rattle.fsl_flow.specs.declared.continuation.Exit.TheVariants as exit
use Rattle.fsl_flow.specs.declared.continuation.Continuation as continuing

-- what is left at one depth of nesting: statements, behind so many declared slots, or a loop with them
pub data Frame : Type 0 where
  in_block : List Stmt → ℕ → Frame
  in_loop : Span → Cond → Asrt → List Stmt → ℕ → Frame

-- where a path ends that comes through all its frames
pub data Leaving : Type 0 where
  closes : Span → Leaving
  gives_back : Span → Asrt → Leaving

pub record Continuation : Type 0 where
  pub frames : List Frame
  pub leaving : Leaving

abbrev pub within : Frame → Continuation → Continuation
within frame left = record { frames = frame ∷ left.frames; leaving = left.leaving }

-- ---- the code's values as these. The code adds and takes at the end of its lists.

unfoldable pub from_last : {X Y : Type 0} → (X → Y) → List X → List Y
from_last f xs = reverse (map f xs)

abbrev pub frame_of : framing.Frame → Frame
frame_of (framed.Block stmts declared) = in_block stmts.now declared
frame_of (framed.Loop x) = in_loop x.at x.cond.now x.inv.now x.body.now x.declared

abbrev pub leaving_of : Exit → Leaving
leaving_of (exit.Closing at) = closes at
leaving_of (exit.Back at inv) = gives_back at inv.now

abbrev pub continuation_of : continuing.Continuation → Continuation
continuation_of k = record { frames = from_last frame_of k.frames; leaving = leaving_of k.exit }
