-- The fault of a call that makes combinations, as one of facts.
use Rattle.fsl_lin.specs.declared.fault.LinFault.{LinFault}
use Rattle.fsl_lin.specs.declared.fault.LinFault.TheVariants.{Wide, NoMemory}
use Rattle.fsl_pure.specs.declared.fault.PureFault.{PureFault}

abbrev pub of_lin : LinFault → PureFault
of_lin Wide = PureFault.Wide
of_lin NoMemory = PureFault.NoMemory
