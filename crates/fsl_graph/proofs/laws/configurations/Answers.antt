use Rattle.fsl_graph.proofs.Determined.{configs_determined, purposes_determined}
use Rattle.fsl_graph.proofs.laws.configurations.Goals as goal

pub returns : goal.returns
returns c = record { configs = configs_determined; purposes = purposes_determined }
