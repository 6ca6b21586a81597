use Rattle.std.proofs.Common.{List, [], ◌∷◌, ◌++◌, map, sym, ap, ◌∙◌, append-nil}
use Rattle.std.specs.Option.{option_copied}
use Rattle.std.proofs.lemmas.List.{map-append}
use Rattle.fsl_core.specs.logic.Calls as rules
use Rattle.fsl_flow.specs.Calls.{running_of}
use Rattle.fsl_flow.proofs.ParLemmas.{found, not_found}
use Rattle.fsl_flow.proofs.par.add_running.Goals.{in-Some+in_ok-env+in_ok-push, in_default}
use Rattle.fsl_flow.proofs.par.add_running.Goals as goal

pub returns : goal.returns
returns c =
    let before : List rules.Running = map running_of c.args.before in
    elim c.match-procedure.branch [
      | in-Some+in_ok-env+in_ok-push w ↦
          let there = sym (ap option_copied w.in-Some.is) ∙ c.procedure.ensures in
          ap (map running_of) (w.out-is ∙ w.in_ok-push.ensures.pushed) ∙ map-append running_of c.args.before (_ ∷ [])
          ∙ ap (λ (xs : List rules.Running). before ++ xs)
          (sym (found c.args.p.now c.args.number w.in-Some.proc.now c.args.args w.in_ok-env.env there w.in_ok-env.ensures))
      | in_default w ↦
          let none = sym (ap option_copied w.in_default.is) ∙ c.procedure.ensures in
          ap (map running_of) w.out-is ∙ sym (append-nil before)
          ∙ ap (λ (xs : List rules.Running). before ++ xs) (sym (not_found c.args.p.now c.args.number c.args.args none))
    ]
