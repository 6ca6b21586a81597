use Rattle.fsl_access.proofs.AccessesLemmas.{written_whole, written_part}
use Rattle.fsl_access.proofs.accesses.written.Goals as goal

pub returns-then-not-proves_equal : goal.returns-then-not-proves_equal
returns-then-not-proves_equal c =
    written_part c.args.c c.args.v c.args.state c.in_ok-full.full c.proves_equal.result c.in_ok-full.ensures c.proves_equal.ensures
    c.if-not-proves_equal.true

pub returns : goal.returns
returns c =
    written_whole c.args.c c.args.v c.args.state c.put.new.self c.in_ok-full.full c.proves_equal.result c.in_ok-full.ensures c.proves_equal.ensures
    c.if-not-proves_equal.false c.in_ok-put.ensures.put
