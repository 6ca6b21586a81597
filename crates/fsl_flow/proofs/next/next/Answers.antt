use Rattle.std.proofs.Common.{◌≡◌, List, map, IfOk, sym, ap, subst}
use Rattle.fsl_flow.specs.Continuation.{in_block, in_loop, frame_of, leaving_of}
use Rattle.fsl_flow.specs.Pending.{Item, item_of}
use Rattle.fsl_flow.proofs.ContinuationLemmas.{next_taken, last_supported}
use Rattle.fsl_flow.proofs.next.next.Goals as goal

pub block-requires : goal.block-requires
block-requires c =
    let is : frame_of c.in-Some-Block.field-0 ≡ in_block c.in-Some-Block.stmts.now c.in-Some-Block.declared = cc (ap frame_of c.in-Some-Block.field-0-is) in
    last_supported c.args.continuation.frames c.pop.new.self c.in-Some-Block.field-0 (in_block c.in-Some-Block.stmts.now c.in-Some-Block.declared)
    c.in-Some-Block.ensures is c.requires

pub returns-in-Some-Block : goal.returns-in-Some-Block
returns-in-Some-Block c =
    let is : frame_of c.in-Some-Block.field-0 ≡ in_block c.in-Some-Block.stmts.now c.in-Some-Block.declared = cc (ap frame_of c.in-Some-Block.field-0-is) in
    subst (λ (xs : List Item). IfOk c.block.result (λ ps. map item_of ps ≡ xs))
    (sym (next_taken c.args.job.now c.args.state c.args.continuation.frames c.pop.new.self c.in-Some-Block.field-0
    (in_block c.in-Some-Block.stmts.now c.in-Some-Block.declared) (leaving_of c.args.continuation.exit) c.in-Some-Block.ensures is)) c.block.ensures

pub returns-in-Some-Loop : goal.returns-in-Some-Loop
returns-in-Some-Loop c =
    let x = c.in-Some-Loop.entered in
    let is : frame_of c.in-Some-Loop.field-0 ≡ in_loop x.at x.cond.now x.inv.now x.body.now x.declared = cc (ap frame_of c.in-Some-Loop.field-0-is) in
    subst (λ (xs : List Item). IfOk c.turn.result (λ ps. map item_of ps ≡ xs))
    (sym (next_taken c.args.job.now c.args.state c.args.continuation.frames c.pop.new.self c.in-Some-Loop.field-0
    (in_loop x.at x.cond.now x.inv.now x.body.now x.declared) (leaving_of c.args.continuation.exit) c.in-Some-Loop.ensures is)) c.turn.ensures
