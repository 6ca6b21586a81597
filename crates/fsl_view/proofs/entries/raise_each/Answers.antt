use Rattle.std.proofs.Common.{◌+◌, length, get_or, drop, ap, sym, ◌∙◌, arith, pos}
use Rattle.std.proofs.lemmas.List.{drop_more}
use Rattle.fsl_view.specs.Entries.{raise_in, join_in}
use Rattle.fsl_view.specs.declared.entry.Entry.{Entry}
use Rattle.fsl_view.proofs.EntriesLemmas.{join_longer}
use Rattle.fsl_view.proofs.entries.raise_each.Goals as goal

pub raise_reserved-requires-clause-room : goal.raise_reserved-requires-clause-room
raise_reserved-requires-clause-room c =
    let es = c.loop-other.entries.items in
    let others = c.args.others.now in
    let i = c.loop-other.other-index in
    let none : Entry = record { loc = pos 0; to = 0 } in
    let split = drop_more others i none c.loop-other-test.true in
    let now = ap length (sym (ap (join_in es) split) ∙ c.loop-other.invariant.raised) in
    let longer = join_longer (raise_in es (get_or others i none)) (drop (i + 1) others) in
    omega arith
