use Rattle.std.proofs.Common.{◌≡◌, ◌==◌, drop}
use Rattle.std.specs.List.{list_any}
use Rattle.fsl_core.proofs.scoping.is_among.Given as goal

abbrev pub invariant-loop-bank : goal.invariant-loop-bank
invariant-loop-bank l =
    list_any (λ bank. bank == l.slot) (drop l.bank-index l.banks) ≡ list_any (λ bank. bank == l.slot) l.banks
