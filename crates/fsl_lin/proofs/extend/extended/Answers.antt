use Rattle.std.proofs.Common.{◌≡◌, List, [], ◌∷◌, ◌++◌, suc, ap, sym, ◌∙◌, Err}
use Rattle.fsl_lin.specs.declared.fault.LinFault.TheVariants.{Wide}
use Rattle.fsl_lin.specs.declared.equation.Equation.{Equation}
use Rattle.fsl_lin.specs.Numbers.{part}
use Rattle.fsl_lin.specs.Rows.{Row, all_normal, all_without, rows_fit}
use Rattle.fsl_lin.specs.Equations.{row_of, rows_of}
use Rattle.fsl_lin.proofs.MoreRows.{all_normal_one}
use Rattle.fsl_lin.proofs.extend.extended.Goals as goal

pub returns-in_ok-append-in-Ok-clause-exact : goal.returns-in_ok-append-in-Ok-clause-exact
returns-in_ok-append-in-Ok-clause-exact c =
    let first : c.push.new.self.items ≡ c.args.new ∷ [] = c.in_ok-push.ensures.items ∙ ap (λ (es : List Equation). es ++ c.args.new ∷ []) c.new-next.ensures.items in
    let one : c.as_slice.result.now ≡ c.args.new ∷ [] = c.as_slice.ensures.value ∙ first in
    let rest : rows_of c.in-Ok.rest.items ≡ all_without (suc c.args.new.sym.0) (part c.args.new.lin) (rows_of c.args.equations.now) =
    c.in-Ok.ensures.exact ∙ ap (λ (es : List Equation). all_normal (rows_of es) (rows_of c.args.equations.now)) one
    ∙ all_normal_one (row_of c.args.new) (rows_of c.args.equations.now) in
    ap rows_of (c.in_ok-append-in-Ok.ensures.items ∙ ap (λ (es : List Equation). es ++ c.in-Ok.rest.items) first)
    ∙ ap (λ (rs : List Row). row_of c.args.new ∷ rs) rest

pub returns-in-Err-clause-wide : goal.returns-in-Err-clause-wide
returns-in-Err-clause-wide c h =
    let f : c.in-Err.fault ≡ Wide = cc in
    let first : c.push.new.self.items ≡ c.args.new ∷ [] = c.in_ok-push.ensures.items ∙ ap (λ (es : List Equation). es ++ c.args.new ∷ []) c.new-next.ensures.items in
    let one : c.as_slice.result.now ≡ c.args.new ∷ [] = c.as_slice.ensures.value ∙ first in
    ap rows_fit (sym (ap (λ (es : List Equation). all_normal (rows_of es) (rows_of c.args.equations.now)) one ∙ all_normal_one (row_of c.args.new) (rows_of c.args.equations.now)))
    ∙ c.in-Err.ensures.wide (ap Err f)
