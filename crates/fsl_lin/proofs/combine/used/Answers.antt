use Rattle.std.proofs.Common.{rules, ◌≡◌, [], ◌∷◌, ◌++◌, ℤ, pos, arith, ap, sym, ◌∙◌}
use Rattle.std.specs.Int.{w128}
use Rattle.std.proofs.lemmas.Int.{ints}
use mir.Val.{SFits}
use Rattle.fsl_lin.specs.Combination.{trim}
use Rattle.fsl_lin.proofs.Terms.{trim_zero, trim_kept}
use Rattle.fsl_lin.proofs.combine.used.Goals as goal

pub returns-then-last-ne0 : goal.returns-then-last-ne0
returns-then-last-ne0 c =
    let fits : SFits w128 c.in-Some.last.now = search rules in
    let other : c.in-Some.last.now ≡ pos 0 → ⊥ = λ z. c.if-last-ne0.true (omega (arith, ints)) in
    let split = c.in-Some.ensures.cases.0 in
    split ∙ sym (trim_kept c.in-Some.before.now c.in-Some.last.now other) ∙ ap trim (sym split) ∙ c.loop-last.invariant

pub loop-last-preserved : goal.loop-last-preserved
loop-last-preserved c =
    let fits : SFits w128 c.in-Some.last.now = search rules in
    let zero : c.in-Some.last.now ≡ pos 0 = omega (arith, ints) in
    let split : c.loop-last.used.now ≡ c.in-Some.before.now ++ pos 0 ∷ [] =
    c.in-Some.ensures.cases.0 ∙ ap (λ (y : ℤ). c.in-Some.before.now ++ y ∷ []) zero in
    sym (trim_zero c.in-Some.before.now) ∙ ap trim (sym split) ∙ c.loop-last.invariant
