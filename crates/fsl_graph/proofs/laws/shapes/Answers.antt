use Rattle.fsl_graph.proofs.Shapes.{shapes_possible, message_passed, fences_pass, sequence_passes, fork_passes, join_passes, buffers_apart, relaxed_races, cycle_has_no_order}
use Rattle.fsl_graph.proofs.laws.shapes.Goals as goal

pub returns : goal.returns
returns c = record { possible = shapes_possible; message = message_passed; fences = fences_pass; sequence = sequence_passes; fork = fork_passes; join = join_passes; buffers = buffers_apart; relaxed = relaxed_races; cycle = cycle_has_no_order }
