use Rattle.std.proofs.Common.{◌≡◌, reverse, ◌∙◌}
use Rattle.fsl_lin.specs.Walks.{least}
use Rattle.fsl_bounds.proofs.Least.{is_least}
use Rattle.fsl_bounds.proofs.Matrices.{entry_is}
use Rattle.fsl_bounds.proofs.bounds.Bounds.least.Goals as goal

value : (c : goal.After-entry) → c.entry.result ≡ least (reverse c.self.inside.edges.items) c.args.x c.args.y
value c = rw c.as_slice.ensures.value at c.entry.ensures ∙ entry_is _ _ c.self.invariant.matrix c.args.x c.args.y

pub returns-clause-least : goal.returns-clause-least
returns-clause-least c = rw (← c.self.view_is) (value c)

pub returns-clause-walks : goal.returns-clause-walks
returns-clause-walks c =
    rw (← c.self.view_is, value c) (is_least (reverse c.self.inside.edges.items) c.args.x c.args.y c.self.invariant.matrix.feasible)
