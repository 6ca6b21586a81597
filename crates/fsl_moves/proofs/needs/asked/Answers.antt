use Rattle.fsl_core.specs.declared.act.Act.TheViews.{rolls-Free, rolls-Load, rolls-Store, rolls-Cas, rolls-Add, rolls-Swap, rolls-Print, rolls-Return, rolls-Par}
use Rattle.fsl_moves.proofs.MovesLemmas.{layer_of, asks_act, lists_act}
use Rattle.fsl_moves.proofs.needs.asked.Goals as goal

pub returns-in-Free-clause-need : goal.returns-in-Free-clause-need
returns-in-Free-clause-need c = asks_act c.args.p.now _ _ c.args.env.now c.args.last c.freed.result (layer_of _ _ _ c.in-Free.is (rolls-Free _)) (c.freed.ensures c.args.p.now c.args.last)

pub returns-in-Load-clause-need : goal.returns-in-Load-clause-need
returns-in-Load-clause-need c = asks_act c.args.p.now _ _ c.args.env.now c.args.last c.loaded.result (layer_of _ _ _ c.in-Load.is (rolls-Load _ _ _)) (c.loaded.ensures c.args.p.now c.in-Load.slot c.args.last)

pub returns-in-Store-clause-need : goal.returns-in-Store-clause-need
returns-in-Store-clause-need c = asks_act c.args.p.now _ _ c.args.env.now c.args.last c.stored.result (layer_of _ _ _ c.in-Store.is (rolls-Store _ _ _)) (c.stored.ensures c.args.p.now c.args.last)

pub returns-in-Cas-clause-need : goal.returns-in-Cas-clause-need
returns-in-Cas-clause-need c = asks_act c.args.p.now _ _ c.args.env.now c.args.last c.exchanged.result (layer_of _ _ _ c.in-Cas.is (rolls-Cas _ _ _ _ _ _ _)) (c.exchanged.ensures c.args.p.now c.in-Cas.slot c.in-Cas.steps c.args.last)

pub returns-in-Add-clause-need : goal.returns-in-Add-clause-need
returns-in-Add-clause-need c = asks_act c.args.p.now _ _ c.args.env.now c.args.last c.added.result (layer_of _ _ _ c.in-Add.is (rolls-Add _ _ _ _ _)) (c.added.ensures c.args.p.now c.in-Add.slot c.in-Add.steps c.args.last)

pub returns-in-Swap-clause-need : goal.returns-in-Swap-clause-need
returns-in-Swap-clause-need c = asks_act c.args.p.now _ _ c.args.env.now c.args.last c.swapped.result (layer_of _ _ _ c.in-Swap.is (rolls-Swap _ _ _ _ _)) (c.swapped.ensures c.args.p.now c.in-Swap.slot c.in-Swap.steps c.args.last)

pub returns-in-Print-clause-need : goal.returns-in-Print-clause-need
returns-in-Print-clause-need c = asks_act c.args.p.now _ _ c.args.env.now c.args.last c.printed.result (layer_of _ _ _ c.in-Print.is (rolls-Print _)) (c.printed.ensures c.args.p.now c.args.last)

pub returns-in-Return-clause-need : goal.returns-in-Return-clause-need
returns-in-Return-clause-need c = asks_act c.args.p.now _ _ c.args.env.now c.args.last c.returned.result (layer_of _ _ _ c.in-Return.is (rolls-Return _)) (c.returned.ensures c.args.p.now)

pub returns-in-Par-clause-memory : goal.returns-in-Par-clause-memory
returns-in-Par-clause-memory c = lists_act c.args.p.now _ _ c.args.env.now c.forked.result (layer_of _ _ _ c.in-Par.is (rolls-Par _)) c.forked.ensures.memory
