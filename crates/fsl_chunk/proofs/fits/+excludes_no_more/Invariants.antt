use Rattle.std.proofs.Common.{length}
use Rattle.fsl_chunk.proofs.fits.+excludes_no_more.Given as goal

abbrev pub decreases-excludes_no_more : goal.decreases-excludes_no_more
decreases-excludes_no_more l = length l.out.now
