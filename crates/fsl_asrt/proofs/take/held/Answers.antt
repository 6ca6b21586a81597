use Rattle.std.proofs.Common.{sym, ◌∙◌}
use Rattle.fsl_asrt.proofs.TakeLemmas.{is_held, not_held}
use Rattle.fsl_asrt.proofs.take.held.Goals as goal

pub returns-then-proves_equal : goal.returns-then-proves_equal
returns-then-proves_equal c =
    sym (is_held c.args.v.now c.args.t.now c.args.env c.args.state.now (sym c.proves_equal.ensures ∙ c.if-proves_equal.true))

pub returns-else-proves_equal : goal.returns-else-proves_equal
returns-else-proves_equal c =
    sym (not_held c.args.v.now c.args.t.now c.args.env c.args.state.now (sym c.proves_equal.ensures ∙ c.if-proves_equal.false))
