use Rattle.fsl_core.proofs.Seeing.{expressions_seen, conditions_seen, arguments_seen}
use Rattle.fsl_core.proofs.laws.what_is_seen_decides.Goals as goal

pub returns : goal.returns
returns c = record {
  expressions = expressions_seen;
  conditions = conditions_seen;
  arguments = arguments_seen;
}
