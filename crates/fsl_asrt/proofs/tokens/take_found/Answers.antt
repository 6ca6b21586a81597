use Rattle.std.proofs.Common.{Option, Some, None, subst}
use Rattle.fsl_chunk.specs.Went.{branches}
use Rattle.fsl_chunk.specs.declared.kind.ChunkKind.TheVariants.{Tok}
use Rattle.fsl_asrt.specs.declared.counts.FoundCount.{FoundCount}
use Rattle.fsl_asrt.specs.Counts.{IsCountedBy, taken_at}
use Rattle.fsl_asrt.proofs.CountsLemmas.{consumed_count, too_few}
use Rattle.fsl_asrt.proofs.Keeping.{ok_then}
use Rattle.fsl_core.specs.logic.Chunks.{first, tokens_of}
use Rattle.fsl_core.specs.logic.Consuming.{consume_tokens}
use Rattle.fsl_asrt.proofs.tokens.take_found.Goals as goal

pub returns-in-Some : goal.returns-in-Some
returns-in-Some c =
    let s = c.args.state in
    let g = c.args.bank.now in
    let n = c.args.n.now in
    let found : IsCountedBy Tok s.chunks (first (tokens_of g s.facts) s.chunks) (Some c.in-Some.c) =
    subst (λ (o : Option FoundCount). IsCountedBy Tok s.chunks (first (tokens_of g s.facts) s.chunks) o) c.in-Some.is c.in_ok-c.ensures in
    ok_then c.take_counted.result branches (taken_at c.in-Some.c n s) (consume_tokens g n s) (consumed_count g n s c.in-Some.c found c.requires) c.take_counted.ensures

pub returns-in-None : goal.returns-in-None
returns-in-None c =
    let s = c.args.state in
    let g = c.args.bank.now in
    let found : IsCountedBy Tok s.chunks (first (tokens_of g s.facts) s.chunks) None =
    subst (λ (o : Option FoundCount). IsCountedBy Tok s.chunks (first (tokens_of g s.facts) s.chunks) o) c.in-None.is c.in_ok-c.ensures in
    too_few g c.args.n.now s found c.requires
