use Rattle.fsl_view.proofs.EntriesLemmas.{seen_join}
use Rattle.fsl_view.proofs.view.View.join.Goals as goal

pub returns-clause-seen : goal.returns-clause-seen
returns-clause-seen c =
    rw (← c.self.view_is, ← c.other.view_is) (seen_join c.self.inside.entries.items c.other.inside.entries.items _ c.self.invariant.ascends c.other.invariant.ascends
    (let was = c.in_ok-reserve.ensures.items in let mine = c.as_slice.ensures.value in let theirs = c.as_slice-3.ensures.value in let is = c.raise_each.ensures.raised in cc))
