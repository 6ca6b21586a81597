use Rattle.std.proofs.Common.{◌≡◌, ℕ, ◌<◌, false, List, [], length, Option, ℤ, subst, ◌∙◌, arith}
use Rattle.std.proofs.lemmas.List.{get_or_default}
use Rattle.std.proofs.lemmas.Result.{IfOk-weaker}
use Rattle.fsl_bounds.specs.Matrix.{entry, improves, IsRowAfter}
use Rattle.fsl_bounds.proofs.Pushed.{row_kept}
use Rattle.fsl_bounds.proofs.rows.row_after.Goals as goal

pub returns-then-not-improves : goal.returns-then-not-improves
returns-then-not-improves c =
    let within : c.args.u < length c.args.rows.now = omega arith in
    let many : length c.args.rows.now ≡ c.args.many = omega arith in
    let same : improves (entry c.args.rows.now) c.args.e.now c.args.u ≡ false = cc in
    let read = c.index-rows-u.is ∙ get_or_default c.args.rows.now c.args.u c.index-rows-u.result [] within in
    IfOk-weaker c.share.result (λ (row : List (Option ℤ)). row ≡ c.index-rows-u.result) (λ row. IsRowAfter c.args.rows.now c.args.e.now c.args.u c.args.many row)
    (λ row h. subst (λ (m : ℕ). IsRowAfter c.args.rows.now c.args.e.now c.args.u m row) many
    (row_kept c.args.rows.now c.args.e.now c.args.u row c.requires.closed within (c.requires.square within) same (h ∙ read))) c.share.ensures
