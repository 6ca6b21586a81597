use Rattle.std.proofs.Common.{◌≡◌, ◌+◌, ◌≤◌, drop}
use Rattle.fsl_view.proofs.EntriesLemmas.{new_ones}
use Rattle.fsl_view.proofs.entries.missing.Given as goal

abbrev pub invariant-loop-other : goal.invariant-loop-other
invariant-loop-other l = record {
  counted : l.count + new_ones l.entries (drop l.other-index l.others) ≡ new_ones l.entries l.others;
  few : l.count ≤ l.other-index;
}
