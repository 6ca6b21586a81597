-- A thread that reads a message in a read-modify-write: the atoms of the message beside the pieces of the thread, and the
-- path that stands on both.
use Rattle.std.specs.Prelude.{◌≡◌, ◌≤◌, false, true, List, ◌++◌, ℤ}
use Rattle.fsl_core.specs.declared.mode.Rung.TheVariants.{Msg}
use Rattle.fsl_meaning.specs.Heaps.{Cell, Heap, Holds, Claim, IsInit, Ground, Knows, Needs, Agrees}
use Rattle.fsl_kept.specs.Changes.{without}
use Rattle.fsl_updated.specs.Grounds.{of_message}
use Rattle.fsl_own.specs.Owning.{Resource as resource}
use Rattle.fsl_own.specs.Atoms.{Atom, demand}
use Rattle.fsl_good.specs.Pieces.{AtPlain, Piece, all_placed, IsPossible}
use Rattle.fsl_held.specs.Heaps.{heap_of, truth_of, ground_of, knows_in}

-- `read` is what the message and the thread say; `more` is what the message has, at msg, and what of the thread is the
-- path's, beside what is `under` it
pub record Meets (read : Ground) (more under : Heap) (pool : List Atom) (zs : List Piece) : Type 0 where
  pub possible : IsPossible (all_placed AtPlain pool ++ zs)
  pub agrees : Agrees read.truth (truth_of (all_placed AtPlain pool ++ zs)) more
  pub message : (l : ℤ) → more (Cell Msg l) ≤ demand pool (resource.Cell l)
  pub thread : Holds (without Msg more) under (heap_of zs)
  pub given : (l : ℤ) → Knows read (IsInit Msg l) → knows_in (all_placed AtPlain pool) (IsInit Msg l) ≡ true
  pub knows : (c : Claim) → of_message c ≡ false → Needs more c → Knows read c → Knows (ground_of zs) c
