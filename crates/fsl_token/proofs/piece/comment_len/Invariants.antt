use Rattle.std.proofs.Common.{length, ◌-◌, ◌≡◌, ◌≤◌, ◌+◌, drop}
use Rattle.std.specs.Char.{is_newline}
use Rattle.std.specs.List.{position_or_len}
use Rattle.fsl_token.proofs.piece.comment_len.Given as goal

abbrev pub invariant-loop-len : goal.invariant-loop-len
invariant-loop-len l = record { within : l.len ≤ length l.bytes; so_far : l.len + position_or_len is_newline (drop l.len l.bytes) ≡ position_or_len is_newline l.bytes }

abbrev pub decreases-loop-len : goal.decreases-loop-len
decreases-loop-len l = length l.bytes - l.len
