use Rattle.std.proofs.Common.{List, map, Option, sym, ap, ◌∙◌}
use Rattle.fsl_core.specs.declared.expr.Expr.{Expr}
use Rattle.fsl_core.specs.declared.verdict.Kind.TheVariants as kind
use Rattle.fsl_core.specs.logic.States.{Env, demand_some}
use Rattle.fsl_core.specs.logic.Terms.{expr_of, terms}
use Rattle.fsl_core.specs.logic.Producing.{inst_of}
use Rattle.fsl_core.specs.logic.Assertions.{asrt_of}
use Rattle.fsl_core.specs.logic.Locations.{setting_of}
use Rattle.fsl_lin.specs.Combination.{Combination}
use Rattle.fsl_chunk.specs.Went.{branches}
use Rattle.fsl_asrt.proofs.Keeping.{ok_then}
use Rattle.fsl_access.proofs.LocatedLemmas.{read_location}
use Rattle.fsl_access.proofs.located.alloc_at.Goals as goal

pub returns-in-Some : goal.returns-in-Some
returns-in-Some c =
    let s = c.args.state in
    let read = ap (λ (o : Option (List Combination)). demand_some kind.Term o s) (sym c.in-Some.is) ∙ c.in_ok-args.ensures
    ∙ ap (λ (env : Env). terms (map expr_of c.as_slice.result.now) env s) c.env.ensures
    ∙ ap (λ (es : List Expr). terms (map expr_of es) s.env s) c.as_slice.ensures in
    ok_then c.new_location.result branches _ _
    (sym (read_location (setting_of asrt_of c.args.p.now) c.args.slot c.args.rmw (inst_of expr_of c.args.inst.now) s c.in-Some.args read))
    c.new_location.ensures
