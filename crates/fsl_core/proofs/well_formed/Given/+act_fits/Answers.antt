use Rattle.std.proofs.Common.{◌≡◌, ap, sym, ◌∙◌, ◌&&◌, true, false}
use Rattle.std.specs.List.{list_all}
use Rattle.fsl_core.proofs.Blocks.{of_if, of_while}
use Rattle.fsl_core.specs.WellFormed.{act_fits, stmt_fits, asrt_fits}
use Rattle.fsl_core.proofs.well_formed.Given.+act_fits.Goals as goal

pub act_fits-returns-then-block_fits : goal.act_fits-returns-then-block_fits
act_fits-returns-then-block_fits t c =
    let p = c.args.self.now in
    let first : list_all (stmt_fits p) c.in-If.yes ≡ true = rw (← c.as_slice-in-If.ensures) (sym c.block_fits.ensures ∙ c.if-block_fits.true) in
    rw (c.in-If.is, of_if p c.in-If.cond c.in-If.yes c.in-If.no, first, ← c.as_slice-then-block_fits.ensures) c.block_fits-then-block_fits.ensures

pub act_fits-returns-else-block_fits : goal.act_fits-returns-else-block_fits
act_fits-returns-else-block_fits t c =
    let p = c.args.self.now in
    let first : list_all (stmt_fits p) c.in-If.yes ≡ false = rw (← c.as_slice-in-If.ensures) (sym c.block_fits.ensures ∙ c.if-block_fits.false) in
    rw (c.in-If.is, of_if p c.in-If.cond c.in-If.yes c.in-If.no, first) c.if-block_fits.false

pub act_fits-returns-then-asrt_fits : goal.act_fits-returns-then-asrt_fits
act_fits-returns-then-asrt_fits t c =
    let p = c.args.self.now in
    let first : asrt_fits p.invs c.in-While.inv true ≡ true = sym c.asrt_fits-in-While.ensures ∙ c.if-asrt_fits.true in
    rw (c.in-While.is, of_while p c.in-While.cond c.in-While.inv c.in-While.body, first, ← c.as_slice-then-asrt_fits.ensures) c.block_fits-then-asrt_fits.ensures
