use Rattle.std.proofs.Common.{Option, sym, ◌++◌, ◌∙◌}
use Rattle.fsl_asrt.specs.Branch.{bounds}
use Rattle.fsl_asrt.specs.Take.{left, part_left, none_left, some_left, rest_taken}
use Rattle.fsl_asrt.proofs.Keeping.{ok_then}
use Rattle.fsl_asrt.proofs.TakeLemmas.{rest_stays, rest_either}
use Rattle.fsl_lin.specs.Combination.{Combination}
use Rattle.fsl_asrt.proofs.take.take_rest.Goals as goal

pub returns-then-proves_at_most : goal.returns-then-proves_at_most
returns-then-proves_at_most c =
    let s = c.args.state in
    let x = c.args.c in
    let k = c.args.share.now in
    ok_then c.part_taken.result bounds (part_left c.args.rung x k c.args.env s) (rest_taken c.args.rung x k c.args.env s)
    (sym (rest_stays x.share k s (λ (r : Option Combination). left c.args.rung x r c.args.env)
    (sym c.proves_equal.ensures ∙ c.if-proves_equal.false) (sym c.proves_at_most.ensures ∙ c.if-proves_at_most.true)))
    c.part_taken.ensures

pub returns-else-proves_at_most : goal.returns-else-proves_at_most
returns-else-proves_at_most c =
    let s = c.args.state in
    let x = c.args.c in
    let k = c.args.share.now in
    ok_then c.either.result bounds (none_left c.args.rung x k c.args.env s ++ some_left c.args.rung x k c.args.env s) (rest_taken c.args.rung x k c.args.env s)
    (sym (rest_either x.share k s (λ (r : Option Combination). left c.args.rung x r c.args.env)
    (sym c.proves_equal.ensures ∙ c.if-proves_equal.false) (sym c.proves_at_most.ensures ∙ c.if-proves_at_most.false)))
    c.either.ensures
