use Rattle.std.proofs.Common.{◌≡◌, ◌++◌, map}
use Rattle.fsl_asrt.specs.Branch.{branches}
use Rattle.fsl_flow.specs.Next.{ends_at}
use Rattle.fsl_flow.specs.Pending.{item_of}
use Rattle.fsl_flow.proofs.pending.each_end.Given as goal

abbrev pub invariant-loop-branch : goal.invariant-loop-branch
invariant-loop-branch l = record {
  can : (goal.iterator-loop-branch).can_next l.branch-iterator;
  finite : (goal.iterator-loop-branch).is_finite l.branch-iterator;
  so_far : map item_of l.out ++ ends_at l.at (branches l.branch-iterator.rest.items) ≡ ends_at l.at (branches l.fn.going);
}
