use Rattle.std.proofs.Common.{◌≡◌, ◌++◌, ◌∷◌, [], ℕ, List, ap, ◌∙◌}
use Rattle.fsl_core.specs.declared.act.Stmt.{Stmt}
use Rattle.fsl_moves.specs.declared.config.Entry.{Entry}
use Rattle.fsl_moves.specs.Config.{left_from}
use Rattle.fsl_moves.specs.Done.{frame_with}
use Rattle.fsl_moves.specs.Turn.{body_in, onward_at}
use Rattle.fsl_moves.proofs.ReachLemmas.{enters}
use Rattle.fsl_moves.proofs.turn.enter.Goals as goal

pub returns-clause-entered : goal.returns-clause-entered
returns-clause-entered c = λ p stmt is.
    let f = c.args.frame.now in
    let entry : ℕ → Entry = λ onward. record { stmt = f.at; arm = c.args.arm; onward = onward } in
    let grows : c.push.new.self.items ≡ f.path.items ++ entry (onward_at c.args.arm f.at) ∷ [] =
    c.in_ok-push.ensures.items ∙ ap (λ n. f.path.items ++ entry n ∷ []) c.onward-onward.ensures in
    ap (λ (stmts : List Stmt). frame_with stmts f.env f.target)
    (ap (λ (path : List Entry). left_from (body_in p f) path 0) grows ∙ enters (body_in p f) f.path.items f.at stmt c.args.arm is.there)
