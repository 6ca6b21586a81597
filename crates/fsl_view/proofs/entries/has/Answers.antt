use Rattle.std.proofs.Common.{◌∙◌}
use Rattle.fsl_view.proofs.EntriesLemmas.{has_index}
use Rattle.fsl_view.proofs.entries.has.Goals as goal

pub returns : goal.returns
returns c = c.is_ok.ensures.value ∙ has_index _ _ _ c.find.ensures
