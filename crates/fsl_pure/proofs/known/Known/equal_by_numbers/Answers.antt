use Rattle.std.proofs.Common.{◌≡◌, List, pos, reverse, ap, sym, subst, ◌∙◌}
use Rattle.fsl_lin.specs.Numbers.{Numbers, part, listed, gapped, opposite}
use Rattle.fsl_lin.specs.Rows.{Row, normal}
use Rattle.fsl_lin.specs.Equations.{rows_of}
use Rattle.fsl_lin.specs.Facts.{kept, proves_normal}
use Rattle.fsl_pure.specs.Known.{Assumed}
use Rattle.fsl_pure.proofs.Held.{proves_is_by, by_zero, not_first, by_both}
use Rattle.fsl_pure.proofs.known.Known.equal_by_numbers.Goals as goal

pub returns-then-is_zero : goal.returns-then-is_zero
returns-then-is_zero c =
    let held = c.self.invariant.held in
    let numbers = c.difference.ensures.value ∙ ap (λ (rs : List Row). normal rs (gapped (part c.args.a.now) (part c.args.b.now) (pos 0))) (ap rows_of c.get.ensures ∙ held.equations) in
    rw (← c.self.view_is) (c.is_zero.ensures ∙ by_zero _ _ (sym c.is_zero.ensures ∙ c.if-is_zero.true) ∙ sym (proves_is_by (reverse c.self.inside.facts.items) (gapped (part c.args.a.now) (part c.args.b.now) (pos 0)) _ numbers))

pub returns-else-proves : goal.returns-else-proves
returns-else-proves c =
    let held = c.self.invariant.held in
    let numbers = c.difference.ensures.value ∙ ap (λ (rs : List Row). normal rs (gapped (part c.args.a.now) (part c.args.b.now) (pos 0))) (ap rows_of c.get.ensures ∙ held.equations) in
    let first = c.proves.ensures ∙ ap (λ (ns : List Numbers). proves_normal ns (listed c.difference.new.numbers)) held.normal in
    rw (← c.self.view_is)
    (first ∙ not_first _ _ _ (sym c.is_zero.ensures ∙ c.if-is_zero.false) (sym first ∙ c.if-proves.false) ∙ sym (proves_is_by (reverse c.self.inside.facts.items) (gapped (part c.args.a.now) (part c.args.b.now) (pos 0)) _ numbers))

pub returns-then-proves : goal.returns-then-proves
returns-then-proves c =
    let held = c.self.invariant.held in
    let numbers = c.difference.ensures.value ∙ ap (λ (rs : List Row). normal rs (gapped (part c.args.a.now) (part c.args.b.now) (pos 0))) (ap rows_of c.get.ensures ∙ held.equations) in
    let first = c.proves.ensures ∙ ap (λ (ns : List Numbers). proves_normal ns (listed c.difference.new.numbers)) held.normal in
    let second =
    subst (λ (a : Assumed). c.proves_opposite.result ≡ proves_normal (kept a.facts) (opposite (listed c.difference.new.numbers))) (sym c.self.view_is) c.proves_opposite.ensures in
    rw (← c.self.view_is)
    (second ∙ by_both _ _ _ (sym c.is_zero.ensures ∙ c.if-is_zero.false) (sym first ∙ c.if-proves.true) ∙ sym (proves_is_by (reverse c.self.inside.facts.items) (gapped (part c.args.a.now) (part c.args.b.now) (pos 0)) _ numbers))
