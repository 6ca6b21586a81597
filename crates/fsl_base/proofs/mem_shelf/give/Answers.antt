use Rattle.std.proofs.Common.{take, drop, refl, ◌∙◌, ap, length, arith}
use Rattle.std.proofs.lemmas.Option.{slice_get_read}
use Rattle.fsl_base.proofs.Shelves.{moved, ended, goes_on}
use Rattle.fsl_base.proofs.mem_shelf.give.Goals as goal

pub returns-clause-bytes : goal.returns-clause-bytes
returns-clause-bytes c =
    let left_is = c.split_at.ensures.back ∙ ap (λ bytes. drop c.args.mark.byte bytes) c.as_slice.ensures in
    let there = slice_get_read c.args.files.now _ c.args.mark.file c.in-Some.file.now refl c.in-Some.ensures.lookup.3.0 c.in-Some.ensures.lookup.1 in
    moved _ c.in-Some.file.now c.args.mark.byte _ _ there (c.copy_front.ensures.front ∙ ap (λ bytes. take c.copy_front.result bytes) left_is)

pub returns-clause-end : goal.returns-clause-end
returns-clause-end c none =
    let left_is = c.split_at.ensures.back ∙ ap (λ bytes. drop c.args.mark.byte bytes) c.as_slice.ensures in
    let there = slice_get_read c.args.files.now _ c.args.mark.file c.in-Some.file.now refl c.in-Some.ensures.lookup.3.0 c.in-Some.ensures.lookup.1 in
    ended _ c.in-Some.file.now c.args.mark.byte there (omega (arith, none, c.copy_front.ensures.count, ap length left_is, c.requires.feeds, c.requires.room))

pub returns-clause-within : goal.returns-clause-within
returns-clause-within c =
    let left_is = c.split_at.ensures.back ∙ ap (λ bytes. drop c.args.mark.byte bytes) c.as_slice.ensures in
    let there = slice_get_read c.args.files.now _ c.args.mark.file c.in-Some.file.now refl c.in-Some.ensures.lookup.3.0 c.in-Some.ensures.lookup.1 in
    goes_on _ c.in-Some.file.now c.args.mark.byte _ there c.requires.placed (omega (arith, c.copy_front.ensures.count, ap length left_is))
