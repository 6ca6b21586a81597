use Rattle.fsl_graph.proofs.Reading.{read_has_source, read_sees_last, write_is_last, last_stays, one_last}
use Rattle.fsl_graph.proofs.laws.reading.Goals as goal

pub returns : goal.returns
returns c = record { source = read_has_source; last = read_sees_last; write = write_is_last; stays = last_stays; one = one_last }
