use Rattle.fsl_access.proofs.AccessesLemmas.{freed_whole, freed_part}
use Rattle.fsl_access.proofs.accesses.freed.Goals as goal

pub returns-then-not-proves_equal : goal.returns-then-not-proves_equal
returns-then-not-proves_equal c =
    freed_part c.args.c c.args.state c.in_ok-all.all c.proves_equal.result c.in_ok-all.ensures c.proves_equal.ensures
    c.if-not-proves_equal.true

pub returns : goal.returns
returns c =
    freed_whole c.args.c c.args.state c.take-chunk.new.self c.in_ok-all.all c.proves_equal.result c.in_ok-all.ensures c.proves_equal.ensures
    c.if-not-proves_equal.false c.take-chunk.ensures.taken
