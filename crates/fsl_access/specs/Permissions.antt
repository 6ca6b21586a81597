-- Permissions of the code as those of the rules.
use Rattle.fsl_core.specs.logic.Chunks.{Permission}
use Rattle.fsl_chunk.specs.Fits.{leave_of}
use Rattle.fsl_access.specs.declared.permissions.Permission as code

abbrev pub permission_of : code.Permission → Permission
permission_of x = record { leave = leave_of x.location; part = x.part; out = x.out }
