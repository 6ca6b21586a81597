use Rattle.std.proofs.Common.{◌≡◌}
use Rattle.std.specs.Prelude.{drop}
use Rattle.fsl_graph.specs.Places.{order_of}
use Rattle.fsl_graph.proofs.graph.Graph.order.Given as goal

-- no entry so far has the location
abbrev pub invariant-loop-order : goal.invariant-loop-order
invariant-loop-order l = order_of (drop l.order-index l.order-items) l.loc ≡ order_of l.self.mo l.loc
