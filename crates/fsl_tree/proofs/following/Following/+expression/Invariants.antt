use Rattle.std.proofs.Common.{◌≡◌, map}
use Rattle.fsl_tree.specs.SpelledExpressions.{all}
use Rattle.fsl_tree.specs.SpelledExpressions.{addend, multiplier}
use Rattle.fsl_tree.proofs.following.Following.+expression.Given as goal

-- what is left, in front of what is there, is the whole
abbrev pub invariant-addends-loop-part : goal.invariant-addends-loop-part
invariant-addends-loop-part l = all (map addend l.part-iterator.iter.rest.now) l.self ≡ all (map addend l.parts) l.fn.self

abbrev pub invariant-multipliers-loop-part : goal.invariant-multipliers-loop-part
invariant-multipliers-loop-part l = all (map multiplier l.part-iterator.iter.rest.now) l.self ≡ all (map multiplier l.parts) l.fn.self
