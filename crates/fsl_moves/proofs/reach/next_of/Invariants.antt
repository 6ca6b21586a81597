use Rattle.std.proofs.Common.{◌≡◌, take, slice_get}
use Rattle.fsl_moves.specs.Config.{body_of, innermost, around}
use Rattle.fsl_moves.specs.Reach.{IsFound}
use Rattle.fsl_moves.proofs.reach.next_of.Given as goal

-- the next statement of the blocks around the one that is looked at
abbrev pub invariant-loop-depth : goal.invariant-loop-depth
invariant-loop-depth l =
    let body = body_of (slice_get l.p.procs l.frame.proc) in
    let path = l.frame.path.items in
    record {
      block : innermost body (take l.depth path) ≡ l.block;
      next : IsFound body path (around body (take l.depth path)) l.next;
    }
