use Rattle.std.proofs.Common.{◌∷◌, [], ap, ◌∙◌}
use Rattle.std.specs.Prelude.{if◌then◌else◌}
use Rattle.fsl_core.specs.logic.States.{State, goes}
use Rattle.fsl_core.specs.logic.Deciding.{assume}
use Rattle.fsl_lin.specs.Facts.{absurd_facts}
use Rattle.fsl_lin.specs.declared.fact.Fact.TheVariants.{Is}
use Rattle.fsl_pure.specs.Known.{Marked}
use Rattle.fsl_chunk.proofs.StateLemmas.{assumed, unfit}
use Rattle.fsl_chunk.proofs.state.State.assume_eq.Goals as goal

pub returns-in-Ok : goal.returns-in-Ok
returns-in-Ok c =
    let before : State = record { env = c.self.inside.env; facts = c.self.inside.pure.facts; chunks = c.self.inside.heap; next = c.self.inside.pure.symbols } in
    c.settled.ensures
    ∙ ap (λ (pure : Marked). if absurd_facts pure.facts then [] else goes tt (record { env = c.self.inside.env; facts = pure.facts; chunks = c.self.inside.heap; next = pure.symbols }) ∷ []) c.in-Ok.ensures.added
    ∙ assumed (Is c.args.t.now) before c.width-width.ensures.kept.narrow c.in-Ok.ensures.fit
    ∙ ap (assume (Is c.args.t.now)) c.self.view_is

pub returns-in-Err-Wide : goal.returns-in-Err-Wide
returns-in-Err-Wide c =
    let before : State = record { env = c.self.inside.env; facts = c.self.inside.pure.facts; chunks = c.self.inside.heap; next = c.self.inside.pure.symbols } in
    unfit (Is c.args.t.now) before (c.in-Err-Wide.ensures.wide cc) ∙ ap (assume (Is c.args.t.now)) c.self.view_is
