use Rattle.std.proofs.Common.{◌≡◌, [], ◌∷◌, pos, false, sym, ap, ◌∙◌}
use Rattle.fsl_asrt.specs.Branch.{bounds}
use Rattle.fsl_asrt.specs.Pointed.{wanted_of}
use Rattle.fsl_asrt.proofs.Keeping.{ok_then}
use Rattle.fsl_asrt.proofs.TakeLemmas.{not_one}
use Rattle.fsl_core.specs.declared.verdict.Kind.TheVariants.{Share}
use Rattle.fsl_core.specs.logic.States.{fails}
use Rattle.fsl_core.specs.logic.Deciding.{proves_at_most}
use Rattle.fsl_core.specs.logic.Consuming.{consume_cell}
use Rattle.fsl_lin.specs.Combination.{Combination, constant}
use Rattle.fsl_asrt.proofs.take.consume_cell.Goals as goal

pub take_found-requires : goal.take_found-requires
take_found-requires c =
    let s = c.args.state in
    ap (λ (one : Combination). proves_at_most s.facts one (pos 0) c.args.p.share) (sym c.in_ok-one.ensures)
    ∙ sym c.proves_at_most.ensures ∙ c.if-proves_at_most.true

pub returns-else-proves_at_most : goal.returns-else-proves_at_most
returns-else-proves_at_most c =
    let s = c.args.state in
    let p = c.args.p in
    let l : proves_at_most s.facts (constant (pos 1)) (pos 0) p.share ≡ false =
    ap (λ (one : Combination). proves_at_most s.facts one (pos 0) p.share) (sym c.in_ok-one.ensures)
    ∙ sym c.proves_at_most.ensures ∙ c.if-proves_at_most.false in
    ok_then c.failing.result bounds (fails Share ∷ []) (consume_cell c.args.rung p.at p.share (wanted_of p.value) c.args.env s)
    (sym (not_one c.args.rung s p.at p.share (wanted_of p.value) c.args.env l)) c.failing.ensures
