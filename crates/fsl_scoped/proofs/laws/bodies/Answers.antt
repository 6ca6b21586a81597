use Rattle.fsl_scoped.proofs.Bodies.{bodies_keep_contracts, bodies_are_declared, contracts_outside}
use Rattle.fsl_scoped.proofs.laws.bodies.Goals as goal

pub returns : goal.returns
returns c = record { contracts = bodies_keep_contracts; declared = bodies_are_declared; outside = contracts_outside }
