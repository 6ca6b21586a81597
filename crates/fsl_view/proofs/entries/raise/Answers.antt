use Rattle.std.proofs.Common.{◌≡◌, length, slice_set, ap, ◌∙◌, arith}
use Rattle.std.proofs.lemmas.List.Edits.{length-insert}
use Rattle.fsl_view.specs.Entries.{raise_in}
use Rattle.fsl_view.proofs.EntriesLemmas.{raised_ascends, raise_missing, raise_read}
use Rattle.fsl_view.proofs.entries.raise.Goals as goal

pub returns-in_err-insert-in-Err-clause-succeeds :
    goal.returns-in_err-insert-in-Err-clause-succeeds
returns-in_err-insert-in-Err-clause-succeeds c = λ fits.
    let place = rw c.as_slice.ensures.value at c.in-Err.ensures in
    let in_place = ap length (raise_missing c.args.entries.now.items c.in-Err.index c.args.by.now place.below place.above) in
    let longer = length-insert c.args.entries.now.items c.in-Err.index c.args.by.now place.within in
    let full = c.in_err-insert-in-Err.ensures.full in
    absurd (omega arith)

raised_in_place : (c : goal.After-entries-1) → slice_set c.args.entries.now.items c.in-Ok.index (record { loc = c.index_mut-entry.result.now.loc; to = c.max-entry.result }) ≡ raise_in c.args.entries.now.items c.args.by.now
raised_in_place c =
    let place = rw c.as_slice.ensures.value at c.in-Ok.ensures in
    raise_read c.args.entries.now.items c.in-Ok.index c.args.by.now c.index_mut-entry.result.now c.max-entry.result
    c.requires.ascends place.within place.loc c.index_mut-entry.ensures.value c.max-entry.ensures

pub returns-in-Ok-clause-raised : goal.returns-in-Ok-clause-raised
returns-in-Ok-clause-raised c = raised_in_place c

pub returns-in-Ok-clause-ascending : goal.returns-in-Ok-clause-ascending
returns-in-Ok-clause-ascending c = raised_ascends _ _ c.args.by.now c.requires (raised_in_place c)

raised_by_insert : (c : goal.In_ok-insert-in-Err) → c.insert.new.self.items ≡ raise_in c.args.entries.now.items c.args.by.now
raised_by_insert c =
    let place = rw c.as_slice.ensures.value at c.in-Err.ensures in
    c.in_ok-insert-in-Err.ensures.items
    ∙ raise_missing c.args.entries.now.items c.in-Err.index c.args.by.now place.below place.above

pub returns-in_ok-insert-in-Err-clause-raised : goal.returns-in_ok-insert-in-Err-clause-raised
returns-in_ok-insert-in-Err-clause-raised c = raised_by_insert c

pub returns-in_ok-insert-in-Err-clause-ascending : goal.returns-in_ok-insert-in-Err-clause-ascending
returns-in_ok-insert-in-Err-clause-ascending c = raised_ascends _ _ c.args.by.now c.requires (raised_by_insert c)
