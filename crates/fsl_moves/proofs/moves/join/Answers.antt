use Rattle.fsl_moves.proofs.ListsLemmas.{results_fit}
use Rattle.fsl_moves.proofs.moves.join.Goals as goal

pub joined-requires : goal.joined-requires
joined-requires c =
    results_fit c.args.waits.first c.args.waits.count _ _ c.args.reply.now c.in-Results.is c.as_slice.ensures c.requires.numbers c.requires.numbered
