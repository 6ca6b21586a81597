use Rattle.std.proofs.Common.{refl}
use Rattle.fsl_core.specs.declared.act.Act.TheViews.{rolls-Set, rolls-AllocNa, rolls-AllocAt, rolls-Free, rolls-Load, rolls-Store, rolls-Cas, rolls-Add, rolls-Swap, rolls-Assert, rolls-Print, rolls-Return, rolls-Bank}
use Rattle.fsl_moves.proofs.MovesLemmas.{layer_of, made}
use Rattle.fsl_moves.proofs.acts.carried_out.Goals as goal

pub returns-in-Set-clause-done : goal.returns-in-Set-clause-done
returns-in-Set-clause-done c =
    made c.args.p.now _ _ c.args.env.now c.args.reply.now c.assigned.new.env _ c.turns.result (layer_of _ _ _ c.in-Set.is (rolls-Set _ _)) c.turns.ensures (c.assigned.ensures c.args.p.now c.args.reply.now)

pub returns-in-AllocNa-clause-done : goal.returns-in-AllocNa-clause-done
returns-in-AllocNa-clause-done c =
    made c.args.p.now _ _ c.args.env.now c.args.reply.now c.allocated.new.env _ c.turns-in-AllocNa.result (layer_of _ _ _ c.in-AllocNa.is (rolls-AllocNa _)) c.turns-in-AllocNa.ensures (c.allocated.ensures.plain c.args.p.now refl)

pub returns-in-AllocAt-clause-done : goal.returns-in-AllocAt-clause-done
returns-in-AllocAt-clause-done c =
    made c.args.p.now _ _ c.args.env.now c.args.reply.now c.allocated-in-AllocAt.new.env _ c.turns-in-AllocAt.result (layer_of _ _ _ c.in-AllocAt.is (rolls-AllocAt _ _ _)) c.turns-in-AllocAt.ensures (c.allocated-in-AllocAt.ensures.atomic c.args.p.now c.in-AllocAt.rmw c.in-AllocAt.inst c.kind_at.ensures)

pub returns-in-Free-clause-done : goal.returns-in-Free-clause-done
returns-in-Free-clause-done c =
    made c.args.p.now _ _ c.args.env.now c.args.reply.now c.args.env.now _ c.turns-in-Free.result (layer_of _ _ _ c.in-Free.is (rolls-Free _)) c.turns-in-Free.ensures (c.freed.ensures c.args.p.now)

pub returns-in-Load-clause-done : goal.returns-in-Load-clause-done
returns-in-Load-clause-done c =
    made c.args.p.now _ _ c.args.env.now c.args.reply.now c.loaded.new.env _ c.turns-in-Load.result (layer_of _ _ _ c.in-Load.is (rolls-Load _ _ _)) c.turns-in-Load.ensures (c.loaded.ensures c.args.p.now)

pub returns-in-Store-clause-done : goal.returns-in-Store-clause-done
returns-in-Store-clause-done c =
    made c.args.p.now _ _ c.args.env.now c.args.reply.now c.args.env.now _ c.turns-in-Store.result (layer_of _ _ _ c.in-Store.is (rolls-Store _ _ _)) c.turns-in-Store.ensures (c.stored.ensures c.args.p.now)

pub returns-in-Cas-clause-done : goal.returns-in-Cas-clause-done
returns-in-Cas-clause-done c =
    made c.args.p.now _ _ c.args.env.now c.args.reply.now c.exchanged.new.env _ c.turns-in-Cas.result (layer_of _ _ _ c.in-Cas.is (rolls-Cas _ _ _ _ _ _ _)) c.turns-in-Cas.ensures (c.exchanged.ensures c.args.p.now c.in-Cas.steps)

pub returns-in-Add-clause-done : goal.returns-in-Add-clause-done
returns-in-Add-clause-done c =
    made c.args.p.now _ _ c.args.env.now c.args.reply.now c.added.new.env _ c.turns-in-Add.result (layer_of _ _ _ c.in-Add.is (rolls-Add _ _ _ _ _)) c.turns-in-Add.ensures (c.added.ensures c.args.p.now c.in-Add.steps)

pub returns-in-Swap-clause-done : goal.returns-in-Swap-clause-done
returns-in-Swap-clause-done c =
    made c.args.p.now _ _ c.args.env.now c.args.reply.now c.swapped.new.env _ c.turns-in-Swap.result (layer_of _ _ _ c.in-Swap.is (rolls-Swap _ _ _ _ _)) c.turns-in-Swap.ensures (c.swapped.ensures c.args.p.now c.in-Swap.steps)

pub returns-in-Assert-clause-done : goal.returns-in-Assert-clause-done
returns-in-Assert-clause-done c =
    made c.args.p.now _ _ c.args.env.now c.args.reply.now c.args.env.now _ c.turns-in-Assert.result (layer_of _ _ _ c.in-Assert.is (rolls-Assert _)) c.turns-in-Assert.ensures (c.asserted.ensures c.args.p.now c.args.reply.now)

pub returns-in-Print-clause-done : goal.returns-in-Print-clause-done
returns-in-Print-clause-done c =
    made c.args.p.now _ _ c.args.env.now c.args.reply.now c.args.env.now _ c.turns-in-Print.result (layer_of _ _ _ c.in-Print.is (rolls-Print _)) c.turns-in-Print.ensures (c.printed.ensures c.args.p.now)

pub returns-in-Return-clause-done : goal.returns-in-Return-clause-done
returns-in-Return-clause-done c =
    made c.args.p.now _ _ c.args.env.now c.args.reply.now c.args.env.now _ c.turns-in-Return.result (layer_of _ _ _ c.in-Return.is (rolls-Return _)) c.turns-in-Return.ensures (c.returned.ensures c.args.p.now c.args.reply.now)

pub returns-in-Bank-clause-done : goal.returns-in-Bank-clause-done
returns-in-Bank-clause-done c =
    made c.args.p.now _ _ c.args.env.now c.args.reply.now c.banked.new.env _ c.turns-in-Bank.result (layer_of _ _ _ c.in-Bank.is (rolls-Bank _)) c.turns-in-Bank.ensures (c.banked.ensures c.args.p.now c.args.reply.now)
