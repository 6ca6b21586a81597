use Rattle.std.proofs.Common.{◌≡◌, IfOk, sym, subst, true}
use Rattle.fsl_core.specs.declared.act.Act.TheViews.{out-Act}
use Rattle.fsl_core.specs.Moves as moves
use Rattle.fsl_core.specs.Moves.{moved, need_of, running}
use Rattle.fsl_moves.specs.Config.{frame_of, frames_of}
use Rattle.fsl_moves.specs.Moves.{act_grows, stmts_grow, HasNumbers}
use Rattle.fsl_moves.specs.Turn.{is_entry, turned}
use Rattle.fsl_moves.proofs.MovesLemmas.{can_number_at, grows_at, moved_on, kept_on, grows_on, said}
use Rattle.fsl_moves.proofs.moves.go_on.Goals as goal

pub carried_out-requires : goal.carried_out-requires
carried_out-requires c =
    let p = c.args.p.now in
    let fs = frames_of p c.args.below.now.items in
    can_number_at p c.reach.new.frame c.in-Some.stmt.now fs c.args.reply.now c.in-Some.ensures.reached
    (subst (λ (f : moves.Frame). HasNumbers (need_of p (running f fs)) c.args.reply.now) (sym c.reach.ensures.same) c.requires.numbers)

pub returns-in_err-done-clause-memory : goal.returns-in_err-done-clause-memory
returns-in_err-done-clause-memory c =
    said c.from_residual.result (subst (λ (f : moves.Frame). stmts_grow f.stmts ≡ true) c.reach.ensures.same
    (grows_at c.args.p.now c.reach.new.frame c.in-Some.stmt.now c.in-Some.ensures.reached c.in_err-done.ensures.memory))

pub returns-clause-moved : goal.returns-clause-moved
returns-clause-moved c =
    let p = c.args.p.now in
    let fs = frames_of p c.args.below.now.items in
    subst (λ (f : moves.Frame). IfOk c.settle.result (λ turn. moved p (running f fs) c.args.reply.now
    ≡ turned p c.settle.new.frame c.settle.new.below.items c.settle.new.children turn)) c.reach.ensures.same
    (moved_on p c.reach.new.frame c.in-Some.stmt.now c.args.below.now.items c.args.reply.now c.carried_out.new.env c.in_ok-done.done c.settle.result
    (λ q turn. turned q c.settle.new.frame c.settle.new.below.items c.settle.new.children turn)
    c.in-Some.ensures.reached c.in_ok-done.ensures.done c.settle.ensures.settled)

pub returns-clause-kept : goal.returns-clause-kept
returns-clause-kept c =
    kept_on c.args.p.now c.settle.new.frame c.reach.new.frame c.carried_out.new.env (frame_of c.args.p.now c.args.frame.now)
    (is_entry c.in_ok-done.done) c.settle.result c.reach.ensures.same c.in_ok-done.ensures.unchanged c.settle.ensures.memory c.settle.ensures.kept

pub returns-clause-memory : goal.returns-clause-memory
returns-clause-memory c =
    let so : act_grows (out-Act c.in-Some.stmt.now.act) ≡ true → stmts_grow (frame_of c.args.p.now c.args.frame.now).stmts ≡ true =
    λ h. subst (λ (f : moves.Frame). stmts_grow f.stmts ≡ true) c.reach.ensures.same
    (grows_at c.args.p.now c.reach.new.frame c.in-Some.stmt.now c.in-Some.ensures.reached h) in
    grows_on (is_entry c.in_ok-done.done) (stmts_grow (frame_of c.args.p.now c.args.frame.now).stmts) c.settle.result
    (λ h. so (c.in_ok-done.ensures.entry h)) c.settle.ensures.memory
