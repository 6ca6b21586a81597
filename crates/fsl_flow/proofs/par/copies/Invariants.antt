use Rattle.std.proofs.Common.{◌≡◌, ◌++◌, drop, map}
use Rattle.fsl_flow.specs.Calls.{running_of}
use Rattle.fsl_flow.proofs.par.copies.Given as goal

abbrev pub invariant-loop-x : goal.invariant-loop-x
invariant-loop-x l = map running_of l.out ++ map running_of (drop l.x-index l.running) ≡ map running_of l.running
