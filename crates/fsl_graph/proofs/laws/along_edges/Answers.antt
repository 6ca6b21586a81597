use Rattle.fsl_graph.proofs.Along.{hb_along_edges, closed_under_hb, prefixes_closed, next_comes}
use Rattle.fsl_graph.proofs.Places.{one_update}
use Rattle.fsl_graph.proofs.laws.along_edges.Goals as goal

pub returns : goal.returns
returns c = record { hb = hb_along_edges; closed = closed_under_hb; prefixes = prefixes_closed; next = next_comes; update = one_update }
