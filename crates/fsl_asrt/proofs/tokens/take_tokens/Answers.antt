use Rattle.std.proofs.Common.{pos, sym, ap, ◌∙◌}
use Rattle.fsl_asrt.proofs.CountsLemmas.{not_counted}
use Rattle.fsl_core.specs.logic.Deciding.{proves_at_most}
use Rattle.fsl_lin.specs.Combination.{Combination}
use Rattle.fsl_asrt.proofs.tokens.take_tokens.Goals as goal

pub take_found-requires : goal.take_found-requires
take_found-requires c =
    ap (λ (z : Combination). proves_at_most c.args.state.facts z (pos 0) c.args.n.now) (sym c.in_ok-nought.ensures)
    ∙ sym c.proves_at_most.ensures ∙ c.if-proves_at_most.true

pub returns-else-proves_at_most : goal.returns-else-proves_at_most
returns-else-proves_at_most c =
    not_counted c.args.bank.now c.args.n.now c.args.state
    (ap (λ (z : Combination). proves_at_most c.args.state.facts z (pos 0) c.args.n.now) (sym c.in_ok-nought.ensures)
    ∙ sym c.proves_at_most.ensures ∙ c.if-proves_at_most.false)
