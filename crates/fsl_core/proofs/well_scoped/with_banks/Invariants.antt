use Rattle.std.proofs.Common.{◌≡◌, drop}
use Rattle.fsl_core.specs.Scopes.{with_banks}
use Rattle.fsl_core.proofs.well_scoped.with_banks.Given as goal

abbrev pub invariant-loop-bank : goal.invariant-loop-bank
invariant-loop-bank l =
    with_banks l.params (drop l.bank-index l.banks) l.scope ≡ with_banks l.params l.banks l.initial.scope
