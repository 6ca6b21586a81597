use Rattle.std.proofs.Common.{◌≡◌, drop}
use Rattle.fsl_base.specs.Cuts.{cut_of}
use Rattle.fsl_base.proofs.mem_sink.cut_of.Given as goal

-- the entries before this one are for other calls
abbrev pub invariant-loop-cut : goal.invariant-loop-cut
invariant-loop-cut l = cut_of (drop l.cut-index l.cuts) l.call ≡ cut_of l.cuts l.call
