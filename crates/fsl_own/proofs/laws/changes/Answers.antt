use Rattle.fsl_own.proofs.Owning.{kept_by_giving, kept_by_joining, kept_by_gaining, kept_by_losing, kept_by_knowing}
use Rattle.fsl_own.proofs.laws.changes.Goals as goal

pub returns : goal.returns
returns c = record { giving = kept_by_giving; joining = kept_by_joining; gaining = kept_by_gaining; losing = kept_by_losing; knowing = kept_by_knowing }
