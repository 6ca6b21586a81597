use Rattle.fsl_chunk.proofs.FitsLemmas.{rel_reads}
use Rattle.fsl_chunk.proofs.fits.is_rel.Goals as goal

pub returns-in-Rel : goal.returns-in-Rel
returns-in-Rel c = rel_reads c.args.at.now _ _ _ c.args.pure.now.facts c.args.chunk.now c.equal.result c.in-Rel.is c.equal.ensures
