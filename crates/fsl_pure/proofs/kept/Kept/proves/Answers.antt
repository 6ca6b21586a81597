use Rattle.std.proofs.Common.{◌≡◌, List, false, map, reverse, ap, sym, subst, ◌∙◌}
use Rattle.fsl_lin.specs.Combination.{Combination}
use Rattle.fsl_lin.specs.Numbers.{part, listed}
use Rattle.fsl_lin.specs.Walks.{least}
use Rattle.fsl_lin.specs.Facts.{at_most, by_constant}
use Rattle.fsl_bounds.specs.Marks.{Marked}
use Rattle.fsl_pure.specs.Table.{contradict}
use Rattle.fsl_pure.proofs.Proving.{difference_proved, other_proved, first_false}
use Rattle.fsl_pure.proofs.Reversed.{by_bound_reverse}
use Rattle.fsl_pure.proofs.kept.Kept.proves.Goals as goal

pub returns-in-Some : goal.returns-in-Some
returns-in-Some c =
    let clear : contradict (map part (reverse c.self.inside.bounds.items)) ≡ false =
    subst (λ (xs : List Combination). contradict (map part xs) ≡ false) (sym c.self.view_is) c.requires.clear in
    let table = c.self.invariant.edges (c.self.invariant.told ∙ clear) in
    rw (← c.self.view_is) (c.walks.ensures
    ∙ ap (λ (t : Marked). at_most (least t.edges c.in-Some.edge.from c.in-Some.edge.to) c.in-Some.edge.bound) table
    ∙ sym (difference_proved _ (listed c.args.numbers.now) c.in-Some.edge clear (sym c.in-Some.ensures.exact)))

pub returns-else-by_constant : goal.returns-else-by_constant
returns-else-by_constant c =
    rw (← c.self.view_is) (rw c.as_slice.ensures.value at c.by_bound.ensures
    ∙ sym (by_bound_reverse c.self.inside.bounds.items (listed c.args.numbers.now))
    ∙ first_false (by_constant (listed c.args.numbers.now)) _ (sym c.by_constant.ensures ∙ c.if-by_constant.false)
    ∙ sym (other_proved (map part (reverse c.self.inside.bounds.items)) (listed c.args.numbers.now) (sym c.in-None.ensures.exact)))
