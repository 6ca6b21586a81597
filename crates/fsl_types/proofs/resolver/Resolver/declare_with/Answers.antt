use Rattle.fsl_types.proofs.ResolverLemmas.{and_gives, and_keeps}
use Rattle.fsl_types.proofs.resolver.Resolver.declare_with.Goals as goal

pub returns : goal.returns
returns c = record {
  made = rw c.and.ensures (and_gives c.declare.result c.args.act);
  resolver = rw c.and.ensures (and_keeps _ c.declare.result c.args.act c.declare.ensures);
}
