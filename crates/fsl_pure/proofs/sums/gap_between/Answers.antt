use Rattle.std.proofs.Common.{◌≡◌, Err, sym, ap, ◌∙◌}
use Rattle.fsl_lin.specs.declared.fault.LinFault.TheVariants.{Wide}
use Rattle.fsl_lin.specs.Numbers.{listed, fits}
use Rattle.fsl_lin.proofs.Arrays.{scaled_one}
use Rattle.fsl_pure.proofs.Apart.{apart_is, apart_fits}
use Rattle.fsl_pure.proofs.sums.gap_between.Goals as goal

pub returns-in-Ok-clause-exact : goal.returns-in-Ok-clause-exact
returns-in-Ok-clause-exact c =
    apart_is c.args.a.now c.args.b.now c.in-Ok.t c.args.gap.now c.in-Ok.ensures.kept
    (c.in-Ok.ensures.exact ∙ scaled_one (listed c.write_gap.new.numbers) ∙ c.write_gap.ensures.value)

pub returns-in-Err-clause-wide : goal.returns-in-Err-clause-wide
returns-in-Err-clause-wide c h =
    let f : c.in-Err.fault ≡ Wide = cc in
    apart_fits c.args.a.now c.args.b.now c.args.gap.now c.width.ensures.kept c.width-2.ensures.kept
    ∙ ap fits (sym (scaled_one (listed c.write_gap.new.numbers) ∙ c.write_gap.ensures.value)) ∙ c.in-Err.ensures.wide (ap Err f)
