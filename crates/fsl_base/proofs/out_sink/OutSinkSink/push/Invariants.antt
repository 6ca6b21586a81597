use Rattle.std.proofs.Common.{◌≡◌, ◌≤◌, length}
use Rattle.fsl_base.proofs.out_sink.OutSinkSink.push.Given as goal

-- no fault so far
abbrev pub invariant-loop-turn : goal.invariant-loop-turn
invariant-loop-turn l = record { within : l.written ≤ length l.piece; steady : l.self.faults ≡ l.initial.self.faults }
