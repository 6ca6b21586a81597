use Rattle.std.proofs.Common.{◌≡◌, map}
use Rattle.fsl_tree.specs.SpelledExpressions.{all}
use Rattle.fsl_tree.specs.Spelling.{declaration}
use Rattle.fsl_tree.proofs.following.Following.declarations.Given as goal

-- what is left, in front of what is there, is the whole
abbrev pub invariant-loop-part : goal.invariant-loop-part
invariant-loop-part l = all (map declaration l.part-iterator.iter.rest.now) l.self ≡ all (map declaration l.parts) l.fn.self
