use Rattle.std.proofs.Common.{rules, ◌≡◌, pos, w32, arith, sym, ◌∙◌}
use Rattle.std.proofs.lemmas.Int.{ints}
use mir.Val.{SFits}
use Rattle.fsl_lin.proofs.Terms.{last_kept, popped_zero}
use Rattle.fsl_lin.proofs.combine.trim.Goals as goal

pub returns-then-last-ne0 : goal.returns-then-last-ne0
returns-then-last-ne0 c =
    let fits : SFits w32 c.in-Some.last.now = search rules in
    let other : c.in-Some.last.now ≡ pos 0 → ⊥ = λ z. c.if-last-ne0.true (omega (arith, ints)) in
    let kept = last_kept c.deref.result.now c.in-Some.last.now c.in-Some.ensures.item.3.0 c.in-Some.ensures.item.1 other in
    let same = rw c.deref.ensures.value at kept in
    sym same ∙ c.loop-last.invariant

pub loop-last-preserved : goal.loop-last-preserved
loop-last-preserved c =
    let fits : SFits w32 c.in-Some.last.now = search rules in
    let zero : c.in-Some.last.now ≡ pos 0 = omega (arith, ints) in
    let popped = popped_zero c.deref.result.now c.in-Some.ensures.item.3.0 (sym (c.in-Some.ensures.item.3.1 (pos 0)) ∙ zero) in
    let rest = c.pop.ensures.rest in let same = c.deref.ensures.value in let len = c.deref.ensures.len in let before = c.loop-last.invariant in cc
