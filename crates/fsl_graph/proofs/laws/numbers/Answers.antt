use Rattle.fsl_graph.proofs.Threads.{numbers_ascend, all_ahead, each_number_is_one, one_event, one_write, one_access, one_kind}
use Rattle.fsl_graph.proofs.laws.numbers.Goals as goal

pub returns : goal.returns
returns c = record {
  ascend = numbers_ascend;
  ahead = all_ahead;
  each = each_number_is_one;
  event = one_event;
  write = one_write;
  access = one_access;
  kind = one_kind;
}
