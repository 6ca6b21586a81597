use Rattle.std.proofs.Common.{◌≡◌, drop}
use Rattle.fsl_pure.specs.Nodes.{among}
use Rattle.fsl_pure.proofs.reduced.among.Given as goal

abbrev pub invariant-loop-symbol : goal.invariant-loop-symbol
invariant-loop-symbol l = among l.number (drop l.symbol-index l.symbols) ≡ among l.number l.symbols
