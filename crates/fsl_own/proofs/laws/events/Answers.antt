use Rattle.fsl_own.proofs.Owning.{change_is_after, use_is_after, kept_by_event, kept_by_free}
use Rattle.fsl_own.proofs.laws.events.Goals as goal

pub returns : goal.returns
returns c = record { change = change_is_after; used = use_is_after; event = kept_by_event; free = kept_by_free }
