use Rattle.std.proofs.Common.{◌≡◌, ◌++◌, Bool, List, ap, sym, subst, ◌∙◌}
use Rattle.fsl_core.specs.logic.States.{Branches, followed}
use Rattle.fsl_core.specs.logic.Assertions.{asrt_of}
use Rattle.fsl_core.specs.logic.Locations.{setting_of}
use Rattle.fsl_core.specs.logic.Accesses.{is_excluded, gain}
use Rattle.fsl_lin.specs.Combination.{Combination}
use Rattle.fsl_asrt.specs.Branch.{branches, decided}
use Rattle.fsl_asrt.specs.declared.branch.Branch.{Branch}
use Rattle.fsl_asrt.proofs.Keeping.{AreKept}
use Rattle.fsl_access.specs.Permissions.{permission_of}
use Rattle.fsl_access.proofs.LoadingLemmas.{excluded_kept}
use Rattle.fsl_access.proofs.loading.gain_by.Goals as goal

pub loop-side-init : goal.loop-side-init
loop-side-init c =
    let s = c.args.state in
    let v = c.args.v.now in
    let x = c.args.x.now in
    let items = c.into_iter-side-iterator.result.rest.items in
    let same : decided items ≡ is_excluded v x.out s =
    ap decided (c.into_iter-side-iterator.ensures.into_iter_gives.0 ∙ c.into_vec-side-items.ensures) ∙ c.in_ok-sides.ensures
    ∙ ap (λ (xs : List Combination). is_excluded v xs s) c.as_slice.ensures in
    record {
      can = tt;
      finite = tt;
      kept = subst (λ (bs : Branches Bool). AreKept s bs) (sym same) (excluded_kept v x.out s);
      so_far = ap (λ (out : List Branch). branches out ++ followed (decided items) (gain (setting_of asrt_of c.args.p.now) c.args.rung v c.args.place (permission_of x))) c.new-out.ensures
          ∙ ap (λ (bs : Branches Bool). followed bs (gain (setting_of asrt_of c.args.p.now) c.args.rung v c.args.place (permission_of x))) same;
    }
