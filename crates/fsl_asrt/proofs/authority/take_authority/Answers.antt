use Rattle.std.proofs.Common.{Option, Some, None, subst, ◌∙◌}
use Rattle.fsl_chunk.specs.declared.kind.ChunkKind.TheVariants.{Auth}
use Rattle.fsl_asrt.specs.declared.counts.FoundCount.{FoundCount}
use Rattle.fsl_asrt.specs.Counts.{IsCountedBy}
use Rattle.fsl_asrt.proofs.AuthorityLemmas.{taken_authority, no_authority}
use Rattle.fsl_core.specs.logic.Chunks.{first, authority_of}
use Rattle.fsl_asrt.proofs.authority.take_authority.Goals as goal

pub returns-in-Some : goal.returns-in-Some
returns-in-Some c =
    let s = c.args.state in
    let g = c.args.bank.now in
    let found : IsCountedBy Auth s.chunks (first (authority_of g s.facts) s.chunks) (Some c.in-Some.a) =
    subst (λ (o : Option FoundCount). IsCountedBy Auth s.chunks (first (authority_of g s.facts) s.chunks) o) c.in-Some.is c.in_ok-a.ensures in
    c.take_equal.ensures ∙ taken_authority g c.args.n.now s c.in-Some.a found

pub returns-in-None : goal.returns-in-None
returns-in-None c =
    let s = c.args.state in
    let g = c.args.bank.now in
    let found : IsCountedBy Auth s.chunks (first (authority_of g s.facts) s.chunks) None =
    subst (λ (o : Option FoundCount). IsCountedBy Auth s.chunks (first (authority_of g s.facts) s.chunks) o) c.in-None.is c.in_ok-a.ensures in
    no_authority g c.args.n.now s found
