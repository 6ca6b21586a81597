use Rattle.std.proofs.Common.{◌≡◌, map}
use Rattle.fsl_tree.specs.SpelledAssertions.{conjunct}
use Rattle.fsl_tree.specs.SpelledExpressions.{all}
use Rattle.fsl_tree.proofs.following.Following.+assertion.Given as goal

-- what is left, in front of what is there, is the whole
abbrev pub invariant-conjuncts-loop-part : goal.invariant-conjuncts-loop-part
invariant-conjuncts-loop-part l = all (map conjunct l.part-iterator.iter.rest.now) l.self ≡ all (map conjunct l.parts) l.fn.self
