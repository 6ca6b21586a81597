use Rattle.std.proofs.Common.{◌≡◌, map}
use Rattle.fsl_tree.specs.SpelledExpressions.{all}
use Rattle.fsl_tree.specs.SpelledStatements.{parallel_call}
use Rattle.fsl_tree.proofs.following.Following.parallel_calls.Given as goal

-- what is left, in front of what is there, is the whole
abbrev pub invariant-loop-part : goal.invariant-loop-part
invariant-loop-part l = all (map parallel_call l.part-iterator.iter.rest.now) l.self ≡ all (map parallel_call l.parts) l.fn.self
