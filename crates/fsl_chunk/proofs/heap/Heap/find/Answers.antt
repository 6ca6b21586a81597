use Rattle.std.proofs.Common.{◌<◌, length, ap, ◌∙◌}
use Rattle.fsl_chunk.specs.Kind.{numbers_of}
use Rattle.fsl_chunk.specs.Fits.{fits}
use Rattle.fsl_chunk.proofs.HeapSearch.{first_in, search_listed, numbers_below}
use Rattle.fsl_chunk.proofs.heap.Heap.find.Goals as goal

pub loop-number-init : goal.loop-number-init
loop-number-init c =
    let items = c.numbers_of-number-items.ensures ∙ (λ i. numbers_of (c.kind_sought.ensures i) (c.rung_sought.ensures i) c.args.self.now) in
    ap (first_in (fits c.args.want.now c.args.pure.now.facts) c.args.self.now) items
    ∙ search_listed c.args.want.now c.args.pure.now.facts c.args.self.now

pub at-requires : goal.at-requires
at-requires c =
    let within : c.loop-number.number-index < length (numbers_of c.kind_sought.result c.rung_sought.result c.args.self.now) = rw (← c.numbers_of-number-items.ensures) c.loop-number-test.true in
    rw c.numbers_of-number-items.ensures (numbers_below c.kind_sought.result c.rung_sought.result c.args.self.now c.loop-number.number-index within)

pub returns-then-fits-clause-within : goal.returns-then-fits-clause-within
returns-then-fits-clause-within c =
    let within : c.loop-number.number-index < length (numbers_of c.kind_sought.result c.rung_sought.result c.args.self.now) = rw (← c.numbers_of-number-items.ensures) c.loop-number-test.true in
    rw c.numbers_of-number-items.ensures (numbers_below c.kind_sought.result c.rung_sought.result c.args.self.now c.loop-number.number-index within)
