use Rattle.std.proofs.Common.{◌≡◌, drop}
use Rattle.fsl_core.specs.logic.Joining.{assume_counts}
use Rattle.fsl_asrt.proofs.authority.assume_counts.Given as goal

abbrev pub invariant-loop-number : goal.invariant-loop-number
invariant-loop-number l = record {
  same : l.state.chunks ≡ l.fn.state.chunks;
  so_far : assume_counts l.bank l.n (drop l.number l.fn.state.chunks) l.state ≡ assume_counts l.bank l.n l.fn.state.chunks l.fn.state;
}
