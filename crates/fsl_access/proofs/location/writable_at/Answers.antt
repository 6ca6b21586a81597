use Rattle.std.proofs.Common.{◌≡◌, Some, slice_get}
use Rattle.std.specs.Option.{option_map}
use Rattle.fsl_core.specs.logic.Chunks.{rel_at}
use Rattle.fsl_asrt.proofs.Keeping.{ok_then}
use Rattle.fsl_access.proofs.LocationLemmas.{found_at, rel_reads}
use Rattle.fsl_chunk.specs.Fits.{leave_of}
use Rattle.fsl_access.specs.Location.{rel_in}
use Rattle.fsl_access.proofs.location.writable_at.Goals as goal

pub returns-in-Some : goal.returns-in-Some
returns-in-Some c =
    let s = c.args.state.now in
    let there : slice_get s.chunks c.in-Some.number ≡ Some c.at.result.now = rw c.heap.ensures at c.at.ensures in
    ok_then c.written_by.result (option_map leave_of) _ _
    (found_at (rel_at c.args.at.now s.facts) rel_in s.chunks c.in-Some.number c.at.result.now (rel_reads c.args.at.now s.facts) c.in-Some.ensures.first there)
    c.written_by.ensures
