use Rattle.std.proofs.Common.{◌≡◌, ◌≤◌, drop, vec_capacity}
use Rattle.fsl_view.specs.Entries.{IsAscending, join_in}
use Rattle.fsl_view.proofs.entries.raise_each.Given as goal

abbrev pub invariant-loop-other : goal.invariant-loop-other
invariant-loop-other l = record {
  raised : join_in l.entries.items (drop l.other-index l.others) ≡ join_in l.initial.entries.items l.others;
  ascending : IsAscending l.entries.items;
  room : vec_capacity l.initial.entries ≤ vec_capacity l.entries;
}
