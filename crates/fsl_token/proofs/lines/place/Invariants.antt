use Rattle.std.proofs.Common.{◌≡◌, ◌+◌, ◌≤◌, drop}
use Rattle.fsl_token.specs.Places.{walk_bytes, place_at}
use Rattle.fsl_token.proofs.lines.place.Given as goal

abbrev pub invariant-loop-byte : goal.invariant-loop-byte
invariant-loop-byte l = record {
  so_far : walk_bytes (record { line = l.line; col = l.col }) (drop l.byte-index l.byte-items) ≡ place_at l.bytes l.fn.at;
  line_small : l.line ≤ l.byte-index + 1;
  col_small : l.col ≤ l.byte-index + 1;
}
