use Rattle.fsl_safe.proofs.Standing.{event_begun, next_unawaited, first_ahead}
use Rattle.fsl_safe.proofs.laws.next_event.Goals as goal

pub returns : goal.returns
returns c = record { begun = event_begun; unawaited = next_unawaited; first = first_ahead }
