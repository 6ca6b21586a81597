use Rattle.std.proofs.Common.{sym}
use Rattle.fsl_commands.proofs.top.fslpp.Goals as goal

pub returns-in-Some : goal.returns-in-Some
returns-in-Some g c = rw (sym c.in-Some.ensures) c.check_cmd.ensures

pub returns-in-Some-named : goal.returns-in-Some-named
returns-in-Some-named g c = rw (sym c.in_default.ensures) (rw (sym c.in-Some-named.ensures) c.run_cmd.ensures)

pub returns-in-None : goal.returns-in-None
returns-in-None g c = rw (sym c.in_default.ensures) (rw (sym c.in-None.ensures) c.usage_cmd.ensures)
