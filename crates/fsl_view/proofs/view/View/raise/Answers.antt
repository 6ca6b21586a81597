use Rattle.std.proofs.lemmas.Result.{on_ok_weaker}
use Rattle.std.proofs.Common.{◌∙◌, ap, ℤ, to_z-of_z}
use Rattle.fsl_view.specs.Entries.{raise_in}
use Rattle.fsl_view.proofs.EntriesLemmas.{seen_raise}
use Rattle.fsl_view.proofs.view.View.raise.Goals as goal

pub returns-clause-seen : goal.returns-clause-seen
returns-clause-seen c =
    let es = c.self.inside.entries.items in
    let same = ap (λ (l : ℤ). raise_in es (record { loc = l; to = c.args.to })) (to_z-of_z c.ranges.loc) in
    rw (← c.self.view_is) (on_ok_weaker c.raise.result
    (λ is. seen_raise es _ (record { loc = c.args.loc; to = c.args.to }) c.self.invariant.ascends (is ∙ same))
    c.raise.ensures.raised)
