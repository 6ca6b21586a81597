use Rattle.fsl_graph.proofs.Edges.{sb_edges_decided, edges_decided}
use Rattle.fsl_graph.proofs.laws.edge_tests.Goals as goal

pub returns : goal.returns
returns c = record { sb = sb_edges_decided; edge = edges_decided }
