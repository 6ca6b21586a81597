use Rattle.std.proofs.Common.{refl}
use Rattle.fsl_gen.specs.Generated.{passing}
use Rattle.fsl_gen.proofs.GeneratedLemmas.{each_next}
use Rattle.fsl_gen.proofs.generated.push_pairs.Goals as goal

pub loop-i-preserved : goal.loop-i-preserved
loop-i-preserved c = each_next passing _ _ _ _ c.loop-i.i c.args.n c.loop-i-test.true refl c.in_ok-push_pair.ensures c.loop-i.invariant
