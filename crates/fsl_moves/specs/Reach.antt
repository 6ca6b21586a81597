-- The next statement of a procedure that runs.
use Rattle.std.specs.Prelude.{ℕ, ◌≡◌, ◌≤◌, ◌+◌, ◌<◌, ◌^◌, slice_get, List, [], length, take, Option, Some, MatchOption}
use Rattle.fsl_core.specs.declared.act.Stmt.{Stmt}
use Rattle.fsl_moves.specs.declared.config.Entry.{Entry}
use Rattle.fsl_moves.specs.declared.reach.Next.{Next}
use Rattle.fsl_moves.specs.Config.{innermost, left_from}

-- statement `at` of the block at the end of the first `depth` entries of a path, with nothing left behind these
pub record IsNext (body : List Stmt) (path : List Entry) (left : List Stmt) (depth at : ℕ) (stmt : Stmt) : Type 0 where
  pub within : depth ≤ length path
  pub room : at + 1 < 2 ^ 64
  pub there : slice_get (innermost body (take depth path)) at ≡ Some stmt
  pub whole : left ≡ left_from body (take depth path) at

-- the next statement of what is left, `None` where nothing is
abbrev pub IsFound : List Stmt → List Entry → (left : List Stmt) → Option Next → Type 0
IsFound body path left next = MatchOption next (left ≡ []) (λ n. IsNext body path left n.depth n.at n.stmt.now)
