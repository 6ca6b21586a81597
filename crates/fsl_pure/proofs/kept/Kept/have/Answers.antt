use Rattle.std.proofs.Common.{suc, sym, ◌∙◌}
use Rattle.fsl_pure.proofs.Reversed.{have_reverse}
use Rattle.fsl_pure.proofs.kept.Kept.have.Goals as goal

pub returns : goal.returns
returns c =
    rw (← c.self.view_is) (rw c.as_slice.ensures.value at c.have.ensures ∙ sym (have_reverse (suc c.args.sym.0) c.self.inside.bounds.items))
