use Rattle.std.proofs.Common.{Option, Some, None, pos, subst}
use Rattle.fsl_chunk.specs.Went.{branches}
use Rattle.fsl_chunk.specs.declared.kind.ChunkKind.TheVariants.{Auth}
use Rattle.fsl_asrt.specs.declared.counts.FoundCount.{FoundCount}
use Rattle.fsl_asrt.specs.Counts.{IsCountedBy, allowed}
use Rattle.fsl_asrt.proofs.CountsLemmas.{allowed_by, allowed_all}
use Rattle.fsl_asrt.proofs.Keeping.{ok_then}
use Rattle.fsl_core.specs.logic.Chunks.{first, authority_of}
use Rattle.fsl_core.specs.logic.Deciding.{assume_at_most}
use Rattle.fsl_asrt.proofs.tokens.assume_allowed.Goals as goal

pub returns-in-Some : goal.returns-in-Some
returns-in-Some c =
    let s = c.args.state in
    let g = c.args.bank.now in
    let sum = c.args.sum.now in
    let found : IsCountedBy Auth s.chunks (first (authority_of g s.facts) s.chunks) (Some c.in-Some.a) =
    subst (λ (o : Option FoundCount). IsCountedBy Auth s.chunks (first (authority_of g s.facts) s.chunks) o) c.in-Some.is c.in_ok-a.ensures in
    ok_then c.assume_at_most.result branches (assume_at_most sum (pos 0) c.in-Some.a.n s) (allowed g sum s) (allowed_by g sum s c.in-Some.a found) c.assume_at_most.ensures

pub returns-in-None : goal.returns-in-None
returns-in-None c =
    let s = c.args.state in
    let g = c.args.bank.now in
    let found : IsCountedBy Auth s.chunks (first (authority_of g s.facts) s.chunks) None =
    subst (λ (o : Option FoundCount). IsCountedBy Auth s.chunks (first (authority_of g s.facts) s.chunks) o) c.in-None.is c.in_ok-a.ensures in
    allowed_all g c.args.sum.now s found
