use Rattle.std.proofs.Common.{◌≡◌, ℕ, suc, ◌<◌, pos}
use Rattle.fsl_lin.specs.Numbers.{part}
use Rattle.fsl_pure.proofs.nodes.node_of.Given as goal

abbrev pub invariant-loop-place : goal.invariant-loop-place
invariant-loop-place l = (s : ℕ) → suc s < l.place → part l.t (suc s) ≡ pos 0
