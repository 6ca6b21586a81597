use Rattle.std.proofs.Common.{◌≡◌, ◌+◌, ◌≤◌, length, vec_capacity, arith}
use Rattle.fsl_view.specs.Entries.{join_in}
use Rattle.fsl_view.proofs.EntriesLemmas.{join_few, seen_join}
use Rattle.fsl_view.proofs.view.View.join_reserved.Goals as goal

pub raise_each-requires-clause-room : goal.raise_each-requires-clause-room
raise_each-requires-clause-room c =
    let few = join_few c.self.inside.entries.items c.other.inside.entries.items in
    let fits : length c.self.inside.entries.items + length c.other.inside.entries.items ≤ vec_capacity c.self.inside.entries =
    rw (← c.self.view_is, ← c.other.view_is) at c.requires in
    rw c.as_slice-others.ensures.value (omega arith)

joined : (c : goal.After-raise_each) → c.raise_each.new.entries.items ≡ join_in c.self.inside.entries.items c.other.inside.entries.items
joined c = let theirs = c.as_slice-others.ensures.value in let is = c.raise_each.ensures.raised in cc

pub returns-clause-seen : goal.returns-clause-seen
returns-clause-seen c =
    rw (← c.self.view_is, ← c.other.view_is) (seen_join c.self.inside.entries.items c.other.inside.entries.items _ c.self.invariant.ascends c.other.invariant.ascends (joined c))

pub returns-clause-few : goal.returns-clause-few
returns-clause-few c =
    rw (← c.self.view_is, ← c.other.view_is, joined c) (join_few c.self.inside.entries.items c.other.inside.entries.items)
