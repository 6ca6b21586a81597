use Rattle.std.proofs.Common.{◌≡◌}
use Rattle.fsl_core.specs.logic.Verdicts.{verdict_of}
use Rattle.fsl_flow.proofs.SupportedStraight.{supported}
use Rattle.fsl_commands.specs.Check.{verdict_status}
use Rattle.fsl_commands.proofs.RunLemmas.{runs_so}
use Rattle.fsl_commands.proofs.run.judged.Goals as goal

-- the paths of a straight program are followed
pub judge-requires-clause-supported : goal.judge-requires-clause-supported
judge-requires-clause-supported g c κs within = supported c.args.loaded.program c.requires.supported

pub returns-then-status-eq0 : goal.returns-then-status-eq0
returns-then-status-eq0 g c =
    let verdict = c.in_ok-verdict.ensures in
    let said = verdict.is in
    let status = c.verdict_status-status.ensures in
    let zero = c.if-status-eq0.true in
    let accepted : verdict_status (verdict_of c.args.loaded.program) ≡ 0 = cc in
    runs_so c.args.loaded.bytes c.args.loaded.program c.args.how.steps c.in_ok-run.field-0.graph c.in_ok-run.field-0.end accepted
    verdict.safe c.in_ok-run.ensures c.ended.result c.ended.ensures
