use Rattle.std.proofs.Common.{ap, sym, ◌∙◌}
use Rattle.fsl_types.specs.Faults.{least_fault}
use Rattle.fsl_types.proofs.ProgramsLemmas.{never_refused}
use Rattle.fsl_types.proofs.RulesLemmas.{none_named}
use Rattle.fsl_types.proofs.resolving.resolve.Goals as goal

-- what has no faults is well formed
pub unreachable-requires : goal.unreachable-requires
unreachable-requires c =
    let none = none_named c.in-Ok.field-0.faults (ap least_fault (sym c.as_slice.ensures) ∙ sym c.least_fault.ensures ∙ c.in-None.is) in
    never_refused c.args.bytes.now c.args.file.now c.in-Ok.field-0 c.in-Ok.ensures none c.in-None-new.ensures.none
