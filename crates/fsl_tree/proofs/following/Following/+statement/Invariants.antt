use Rattle.std.proofs.Common.{◌≡◌, map}
use Rattle.fsl_tree.specs.SpelledExpressions.{all}
use Rattle.fsl_tree.specs.SpelledStatements.{statement}
use Rattle.fsl_tree.proofs.following.Following.+statement.Given as goal

-- what is left, in front of what is there, is the whole
abbrev pub invariant-statements-loop-part : goal.invariant-statements-loop-part
invariant-statements-loop-part l = all (map statement l.part-iterator.iter.rest.now) l.self ≡ all (map statement l.parts) l.fn.self
