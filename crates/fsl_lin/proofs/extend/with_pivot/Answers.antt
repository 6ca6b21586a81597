use Rattle.std.proofs.Common.{◌≡◌, ◌∷◌, suc, ap, sym, ◌∙◌}
use Rattle.std.proofs.lemmas.Bool.{and_right}
use Rattle.std.proofs.lemmas.Result.{IfOk-weaker}
use Rattle.fsl_lin.specs.Numbers.{part, listed, fits}
use Rattle.fsl_lin.specs.Rows.{turned, all_without, rows_fit}
use Rattle.fsl_lin.specs.Equations.{rows_of}
use Rattle.fsl_lin.proofs.extend.with_pivot.Goals as goal

pub returns-in-Ok-clause-exact : goal.returns-in-Ok-clause-exact
returns-in-Ok-clause-exact c =
    let place : suc c.symbol_at.result.0 ≡ c.args.place = c.symbol_at.ensures in
    let same : part c.in-Ok.lin ≡ turned c.args.place (listed c.args.numbers.now) = c.in-Ok.ensures.exact in
    IfOk-weaker c.extended.result _ _
    (λ es e. e ∙ (λ j. record { pivot = place j; numbers = same j } ∷ all_without (place j) (same j) (rows_of c.args.equations.now)))
    c.extended.ensures.exact

pub returns-in-Ok-clause-wide : goal.returns-in-Ok-clause-wide
returns-in-Ok-clause-wide c h =
    let place : suc c.symbol_at.result.0 ≡ c.args.place = c.symbol_at.ensures in
    let same : part c.in-Ok.lin ≡ turned c.args.place (listed c.args.numbers.now) = c.in-Ok.ensures.exact in
    and_right (fits (turned c.args.place (listed c.args.numbers.now)))
    (rows_fit (all_without c.args.place (turned c.args.place (listed c.args.numbers.now)) (rows_of c.args.equations.now)))
    (ap rows_fit (sym (λ j. all_without (place j) (same j) (rows_of c.args.equations.now))) ∙ c.extended.ensures.wide h)
