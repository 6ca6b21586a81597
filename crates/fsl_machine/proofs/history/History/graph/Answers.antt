use Rattle.std.proofs.Common.{subst}
use Rattle.fsl_graph.specs.Lone.{IsLone}
use Rattle.fsl_machine.specs.States.{with_trace}
use Rattle.fsl_machine.specs.History.{Trace}
use Rattle.fsl_machine.proofs.Lone.{is_lone}
use Rattle.fsl_machine.proofs.history.History.graph.Goals as goal

pub returns-clause-lone : goal.returns-clause-lone
returns-clause-lone c =
    let t : Trace = record { events = c.self.inside.events.items; mo = c.self.inside.orders.items } in
    subst (λ (u : Trace). IsLone (with_trace c.args.threads u)) c.self.view_is (is_lone c.args.threads t c.self.invariant.serial)
