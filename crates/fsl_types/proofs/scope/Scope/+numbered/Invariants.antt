use Rattle.std.proofs.Common.{◌≡◌, map, take}
use Rattle.fsl_types.specs.Expressions.{addend_of, multiplier_of}
use Rattle.fsl_types.proofs.scope.Scope.+numbered.Given as goal

abbrev pub invariant-expression-loop-addend : goal.invariant-expression-loop-addend
invariant-expression-loop-addend l =
    l.more ≡ map (addend_of l.self.bytes.now l.self.names.now) (take l.addend-index l.addend-items)

abbrev pub invariant-term-loop-next : goal.invariant-term-loop-next
invariant-term-loop-next l =
    l.more ≡ map (multiplier_of l.self.bytes.now l.self.names.now) (take l.next-index l.next-items)
