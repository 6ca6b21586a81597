use Rattle.fsl_pure.proofs.Ends.{edge_within}
use Rattle.fsl_pure.proofs.difference.edge_of.Goals as goal

pub returns-clause-within : goal.returns-clause-within
returns-clause-within c = rw c.edge_from.ensures (rw c.ends.ensures (edge_within c.args.numbers.now))
