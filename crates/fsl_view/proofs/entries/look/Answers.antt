use Rattle.fsl_view.proofs.EntriesLemmas.{at_found, at_missing}
use Rattle.fsl_view.proofs.entries.look.Goals as goal

pub returns-in-Ok : goal.returns-in-Ok
returns-in-Ok c = at_found _ _ _ _ c.requires.ascends c.in-Ok.ensures.within (c.in-Ok.ensures.loc _)

pub returns-in-Err : goal.returns-in-Err
returns-in-Err c = at_missing _ _ _ c.in-Err.ensures.below c.in-Err.ensures.above
