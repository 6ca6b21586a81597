use Rattle.std.proofs.Common.{◌∙◌}
use Rattle.fsl_core.specs.logic.Assertions.{asrt_of}
use Rattle.fsl_asrt.specs.Branch.{branches, bounds}
use Rattle.fsl_asrt.proofs.Keeping.{ok_then}
use Rattle.fsl_access.proofs.FencesLemmas.{released_by}
use Rattle.fsl_access.proofs.fences.release.Goals as goal

pub returns : goal.returns
returns c =
    ok_then c.produce_on_each.result branches _ _
    (released_by (asrt_of c.args.a.now) c.args.state c.in_ok-env.env c.in_ok-own.own (bounds c.in_ok-given.given) (branches c.in_ok-given-2.given)
    (c.in_ok-env.ensures ∙ c.env.ensures) c.in_ok-own.ensures c.in_ok-given.ensures c.in_ok-given-2.ensures)
    c.produce_on_each.ensures
