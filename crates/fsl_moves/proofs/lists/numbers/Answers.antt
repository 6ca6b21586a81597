use Rattle.std.proofs.Common.{◌+◌}
use Rattle.fsl_core.specs.Moves.{numbers_from}
use Rattle.fsl_moves.proofs.ListsLemmas.{numbers_on}
use Rattle.fsl_moves.proofs.lists.numbers.Goals as goal

pub loop-thread-preserved : goal.loop-thread-preserved
loop-thread-preserved c =
    numbers_on c.loop-thread.numbers c.push.new.self c.loop-thread.thread (c.args.children.first + c.args.children.count)
    (numbers_from c.args.children.first c.args.children.count) c.loop-thread-test.true c.in_ok-push.ensures.pushed c.loop-thread.invariant
