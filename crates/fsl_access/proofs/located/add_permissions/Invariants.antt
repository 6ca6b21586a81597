use Rattle.std.proofs.Common.{◌≡◌, ◌≤◌, drop, map, length}
use Rattle.fsl_core.specs.logic.Accesses.{add_permissions}
use Rattle.fsl_core.specs.logic.Assertions.{asrt_of}
use Rattle.fsl_chunk.specs.Fits.{leave_of}
use Rattle.fsl_access.proofs.located.add_permissions.Given as goal

abbrev pub invariant-loop-asrt : goal.invariant-loop-asrt
invariant-loop-asrt l = record {
  few : l.part ≤ length l.state.chunks;
  so_far : add_permissions (leave_of l.l) l.part (map asrt_of (drop l._asrt-index l.parts)) l.state
      ≡ add_permissions (leave_of l.l) 0 (map asrt_of l.parts) l.fn.state;
}
