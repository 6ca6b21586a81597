use Rattle.fsl_moves.proofs.MovesLemmas.{asks_next, asks_next_list}
use Rattle.fsl_moves.proofs.moves.next_in.Goals as goal

pub returns-in-Some-clause-need : goal.returns-in-Some-clause-need
returns-in-Some-clause-need c =
    asks_next c.args.p.now c.args.frame.now c.in-Some.next.depth c.in-Some.next.at c.in-Some.next.stmt.now c.args.last c.asked.result
    c.in-Some.ensures c.asked.ensures.need

pub returns-in-Some-clause-memory : goal.returns-in-Some-clause-memory
returns-in-Some-clause-memory c =
    asks_next_list c.args.p.now c.args.frame.now c.in-Some.next.depth c.in-Some.next.at c.in-Some.next.stmt.now c.asked.result
    c.in-Some.ensures c.asked.ensures.memory
