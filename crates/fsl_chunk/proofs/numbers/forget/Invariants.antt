use Rattle.std.proofs.Common.{◌≡◌, ◌-◌, ◌++◌, length, take, drop}
use Rattle.fsl_chunk.specs.Numbers.{without}
use Rattle.fsl_chunk.proofs.numbers.forget.Given as goal

abbrev pub invariant-loop-at : goal.invariant-loop-at
invariant-loop-at l = take l.at l.numbers ++ without l.gone (drop l.at l.numbers) ≡ without l.gone l.initial.numbers

abbrev pub decreases-loop-at : goal.decreases-loop-at
decreases-loop-at l = length l.numbers - l.at
