use Rattle.std.proofs.Common.{Option, Some, None, subst}
use Rattle.fsl_chunk.specs.Went.{branches}
use Rattle.fsl_chunk.specs.declared.kind.ChunkKind.TheVariants.{Tok}
use Rattle.fsl_asrt.specs.declared.counts.FoundCount.{FoundCount}
use Rattle.fsl_asrt.specs.Counts.{IsCountedBy, allowed, joining, more_at}
use Rattle.fsl_asrt.proofs.CountsLemmas.{joined_more, joined_new}
use Rattle.fsl_asrt.proofs.Keeping.{ok_then}
use Rattle.fsl_core.specs.declared.chunk.Chunk.TheVariants as chunk
use Rattle.fsl_core.specs.logic.States.{◌>>◌}
use Rattle.fsl_core.specs.logic.Chunks.{first, add, tokens_of}
use Rattle.fsl_asrt.proofs.tokens.join.Goals as goal

pub returns-in-Some : goal.returns-in-Some
returns-in-Some c =
    let s = c.args.state in
    let g = c.args.bank in
    let n = c.args.n in
    let found : IsCountedBy Tok s.chunks (first (tokens_of g s.facts) s.chunks) (Some c.in-Some.c) =
    subst (λ (o : Option FoundCount). IsCountedBy Tok s.chunks (first (tokens_of g s.facts) s.chunks) o) c.in-Some.is c.in_ok-c.ensures in
    ok_then c.join_chunk.result branches (more_at g c.in-Some.c n s) (joining g n s) (joined_more g n s c.in-Some.c found) c.join_chunk.ensures

pub returns : goal.returns
returns c =
    let s = c.args.state in
    let g = c.args.bank in
    let n = c.args.n in
    let found : IsCountedBy Tok s.chunks (first (tokens_of g s.facts) s.chunks) None =
    subst (λ (o : Option FoundCount). IsCountedBy Tok s.chunks (first (tokens_of g s.facts) s.chunks) o) c.in-None.is c.in_ok-c.ensures in
    ok_then c.new_tokens.result branches ((add (chunk.Tok g n) >> allowed g n) s) (joining g n s) (joined_new g n s found) c.new_tokens.ensures
