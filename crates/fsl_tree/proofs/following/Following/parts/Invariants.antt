use Rattle.std.proofs.Common.{◌≡◌, map}
use Rattle.fsl_tree.specs.SpelledExpressions.{all}
use Rattle.fsl_tree.specs.Spelling.{part}
use Rattle.fsl_tree.proofs.following.Following.parts.Given as goal

-- what is left, in front of what is there, is the whole
abbrev pub invariant-loop-part : goal.invariant-loop-part
invariant-loop-part l = all (map part l.part-iterator.iter.rest.now) l.self ≡ all (map part l.parts) l.fn.self
