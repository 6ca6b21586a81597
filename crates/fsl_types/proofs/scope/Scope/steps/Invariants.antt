use Rattle.std.proofs.Common.{◌≡◌, ◌++◌, map, drop}
use Rattle.fsl_types.specs.Statements.{step_line_of}
use Rattle.fsl_types.proofs.scope.Scope.steps.Given as goal

abbrev pub invariant-loop-line : goal.invariant-loop-line
invariant-loop-line l =
    l.list ++ map (step_line_of l.self.bytes.now l.self.names.now) (drop l.line-index l.line-items)
    ≡ map (step_line_of l.self.bytes.now l.self.names.now) l.line-items
