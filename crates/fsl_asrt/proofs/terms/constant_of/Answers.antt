use Rattle.std.proofs.Common.{◌≡◌, ◌^◌, pos, get_or, SFits, rules, sym, ◌∙◌}
use Rattle.std.proofs.lemmas.Int.{to_z-of_z}
use Rattle.std.specs.Int.{w128}
use Rattle.fsl_lin.specs.Facts.{rows}
use Rattle.fsl_lin.specs.Numbers.{part, listed}
use Rattle.fsl_lin.specs.Rows.{normal}
use Rattle.fsl_lin.specs.Sizes.{IsSize}
use Rattle.fsl_asrt.proofs.TermsLemmas.{number_is}
use Rattle.fsl_asrt.proofs.terms.constant_of.Goals as goal

pub returns-then-is_constant : goal.returns-then-is_constant
returns-then-is_constant c =
    let ns = c.fill.new.numbers in
    let size : IsSize (2 ^ 124) (get_or ns 0 (pos 0)) = c.fill.ensures.size 0 in
    let fits : SFits w128 (get_or ns 0 (pos 0)) = search rules in
    let v : listed ns ≡ normal (rows c.args.pure.now.facts) (part c.args.t.now) = rw c.eqs.ensures at c.fill.ensures.value in
    rw (to_z-of_z w128 (get_or ns 0 (pos 0)) fits)
    (number_is (listed ns) c.args.pure.now.facts c.args.t.now v (sym c.is_constant.ensures ∙ c.if-is_constant.true))
