use Rattle.std.proofs.Common.{◌≡◌, ◌++◌, ap, ◌∙◌}
use Rattle.std.proofs.lemmas.List.{map-append}
use Rattle.fsl_asrt.specs.Branch.{bound_of, bounds}
use Rattle.fsl_asrt.specs.Take.{none_left}
use Rattle.fsl_core.specs.logic.States.{Env, State, Branches}
use Rattle.fsl_asrt.proofs.take.either.Goals as goal

pub returns : goal.returns
returns c =
    let s = c.args.state in
    let x = c.args.c in
    let k = c.args.share.now in
    let rung = c.args.rung in
    let env = c.args.env in
    let out = c.in_ok-out.out in
    let more = c.in_ok-more.more in
    let low : bounds out ≡ none_left rung x k env s =
    c.in_ok-out.ensures ∙ ap (λ (t : State). none_left rung x k c.in_ok-fork-2.field-0 t) c.in_ok-fork.ensures
    ∙ ap (λ (e : Env). none_left rung x k e s) c.in_ok-fork-2.ensures in
    ap bounds c.in_ok-append.ensures ∙ map-append bound_of out more
    ∙ ap (λ (r : Branches Env). r ++ bounds more) low ∙ ap (λ (r : Branches Env). none_left rung x k env s ++ r) c.in_ok-more.ensures
