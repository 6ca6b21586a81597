use Rattle.std.proofs.Common.{◌≡◌, List, [], ◌∷◌, ◌++◌, map, reverse, true, ap, sym, subst, ◌∙◌}
use Rattle.fsl_lin.specs.Combination.{Combination}
use Rattle.fsl_lin.specs.Numbers.{Numbers, part, listed, fits}
use Rattle.fsl_lin.proofs.Arrays.{scaled_one}
use Rattle.fsl_pure.specs.Table.{IsTable}
use Rattle.fsl_pure.proofs.Tabled.{table_after, parts_pushed}
use Rattle.fsl_pure.proofs.kept.Kept.add.Goals as goal

parts : (c : goal.After-self-1) → map part (reverse c.push.new.items.items) ≡ listed c.args.numbers.now ∷ map part (reverse c.self.inside.bounds.items)
parts c =
    let same : part c.in_ok-lin-in-Ok.lin ≡ listed c.args.numbers.now = ap part c.in_ok-lin-in-Ok.ensures ∙ c.in-Ok.ensures.exact ∙ scaled_one (listed c.args.numbers.now) in
    parts_pushed c.self.inside.bounds.items c.push.new.items.items c.in_ok-lin-in-Ok.lin (listed c.args.numbers.now)
    (c.push.ensures ∙ ap (λ (xs : List Combination). xs ++ c.in_ok-lin-in-Ok.lin ∷ []) c.reserve.ensures.items) same

pub invariant_of-self-2 : goal.invariant_of-self-2
invariant_of-self-2 c =
    let fit : fits (listed c.args.numbers.now) ≡ true = ap fits (sym (scaled_one (listed c.args.numbers.now))) ∙ c.in-Ok.ensures.narrow in
    subst (λ (ns : List Numbers). IsTable ns c.lay_unless.new.table c.in_ok-refuted.refuted) (sym (parts c))
    (table_after _ _ _ _ _ _ c.self.invariant c.in_ok-refuted.ensures.told c.in_ok-refuted.ensures.laid fit)

pub returns-clause-added : goal.returns-clause-added
returns-clause-added c = rw (← c.self.view_is) (parts c)
