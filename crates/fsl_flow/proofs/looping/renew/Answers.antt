use Rattle.std.proofs.Common.{◌≡◌, ℕ, ◌==◌, true, false, [], ◌∷◌, Option, is_some, IfSome, ◌∙◌, ap, sym, subst}
use Rattle.std.specs.List.{list_any}
use Rattle.fsl_core.specs.logic.States.{State, goes, set}
use Rattle.fsl_chunk.specs.Went.{branches_made}
use Rattle.fsl_flow.specs.Sets.{stmts_set}
use Rattle.fsl_flow.proofs.LoopingLemmas.{renew_goes, renew_skips}
use Rattle.fsl_flow.proofs.looping.renew.Goals.{in-Some+in_ok-state+in-Goes+in_ok-set-in-Goes, in_default}
use Rattle.fsl_flow.proofs.looping.renew.Goals as goal

pub loop-number-preserved : goal.loop-number-preserved
loop-number-preserved c =
    let n = c.loop-number.number in
    let slots = stmts_set c.args.body.now in
    let s = c.args.state in
    let t = c.loop-number.state in
    elim c.match-set_among.branch [
      | in-Some+in_ok-state+in-Goes+in_ok-set-in-Goes w ↦
          let is_set : list_any (λ slot. slot == n) slots ≡ true = sym c.set_among.ensures.found ∙ ap is_some w.in-Some.is in
          let same : w.in-Some.slot ≡ n = subst (λ (o : Option ℕ). IfSome o (λ x. x ≡ n)) w.in-Some.is c.set_among.ensures.is in
          let made = ap branches_made (sym w.in-Goes.is) ∙ w.in_ok-state.ensures in
          let put = ap (λ (x : ℕ). set x w.in-Goes.symbol w.in-Goes.state) (sym same) ∙ w.in_ok-set-in-Goes.ensures.set in
          ap (λ (x : State). goes tt x ∷ []) w.state-is
          ∙ renew_goes n slots s t w.in-Goes.state w.set.new.self w.in-Goes.symbol is_set c.loop-number.invariant made put
      | in_default w ↦
          let unset : list_any (λ slot. slot == n) slots ≡ false = sym c.set_among.ensures.found ∙ ap is_some w.in_default.is in
          ap (λ (x : State). goes tt x ∷ []) w.state-is ∙ renew_skips n slots s t unset c.loop-number.invariant
    ]
