use Rattle.std.proofs.Common.{◌≡◌, ◌∙◌, ◌<◌, ap, ℤ, length, vec_capacity, to_z-of_z, to_z, of_z, w64, arith}
use Rattle.fsl_view.specs.Entries.{raise_in}
use Rattle.fsl_view.proofs.EntriesLemmas.{raise_few, seen_raise}
use Rattle.fsl_view.proofs.view.View.raise_reserved.Goals as goal

pub raise_reserved-requires-clause-room : goal.raise_reserved-requires-clause-room
raise_reserved-requires-clause-room c =
    let fits : length c.self.inside.entries.items < vec_capacity c.self.inside.entries = rw (← c.self.view_is) at c.requires in
    let few = raise_few c.self.inside.entries.items (record { loc = to_z w64 (of_z w64 c.args.loc); to = c.args.to }) in
    omega arith

raised : (c : goal.After-raise_reserved) → c.raise_reserved.new.entries.items ≡ raise_in c.self.inside.entries.items (record { loc = c.args.loc; to = c.args.to })
raised c =
    c.raise_reserved.ensures.raised
    ∙ ap (λ (l : ℤ). raise_in c.self.inside.entries.items (record { loc = l; to = c.args.to })) (to_z-of_z c.ranges.loc)

pub returns-clause-seen : goal.returns-clause-seen
returns-clause-seen c =
    rw (← c.self.view_is) (seen_raise c.self.inside.entries.items _ (record { loc = c.args.loc; to = c.args.to }) c.self.invariant.ascends (raised c))

pub returns-clause-few : goal.returns-clause-few
returns-clause-few c =
    rw (← c.self.view_is, raised c) (raise_few c.self.inside.entries.items (record { loc = c.args.loc; to = c.args.to }))
