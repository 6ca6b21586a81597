-- A machine that may go on is refused for nothing but a limit or memory, and a move brings it nearer to its bound.
use Rattle.std.proofs.Common.{arith, ◌≡◌, ◌<◌, ◌==◌, suc, Bool, true, false, List, [], ◌∷◌, length, Option, Some, None, ap, sym, refl, ◌∙◌}
use Rattle.std.proofs.lemmas.Bool.{eqb-true}
use Rattle.fsl_graph.specs.declared.graph.Thread.{Thread}
use Rattle.fsl_graph.specs.declared.ending.LimitKind.{LimitKind}
use Rattle.fsl_machine.specs.declared.steps.Readiness.{Readiness}
use Rattle.fsl_machine.specs.declared.steps.Readiness.TheVariants as readiness
use Rattle.fsl_machine.specs.declared.steps.Stepped.TheVariants as stepped
use Rattle.fsl_graph.specs.Ending.{limit_of, moves_of}
use Rattle.fsl_machine.specs.States.{State, one_more, need_in}
use Rattle.fsl_machine.specs.Steps.{readiness_of, refusal_of, is_spent, first_refusal}

-- a move of the first thread is one more of all
pub moves_one_more : (threads : List Thread) → 0 < length threads → moves_of (one_more threads) ≡ suc (moves_of threads)
moves_one_more [] h = absurd (omega (arith, h))
moves_one_more (t ∷ ts) h = omega arith

pub length_one_more : (threads : List Thread) → length (one_more threads) ≡ length threads
length_one_more [] = refl
length_one_more (t ∷ ts) = refl

not_ready_so : (spent : Bool) (kind : Option LimitKind) (why : Readiness)
    → first_refusal readiness.Ready spent kind ≡ Some (stepped.NotReady why) → ⊥
not_ready_so true kind why h = cc
not_ready_so false (Some k) why h = cc
not_ready_so false None why h = cc

pub not_refused : (s : State) (why : Readiness) → readiness_of s.config ≡ readiness.Ready → refusal_of s ≡ Some (stepped.NotReady why) → ⊥
not_refused s why ready h =
    not_ready_so (is_spent s) (limit_of (need_in s) s.graph) why
    (ap (λ r. first_refusal r (is_spent s) (limit_of (need_in s) s.graph)) (sym ready) ∙ h)

not_spent_so : (spent : Bool) (kind : Option LimitKind) → first_refusal readiness.Ready spent kind ≡ Some stepped.Spent → spent ≡ true
not_spent_so true kind h = refl
not_spent_so false (Some k) h = cc
not_spent_so false None h = cc

pub not_spent : (s : State) → readiness_of s.config ≡ readiness.Ready → moves_of s.graph.threads < s.bound → refusal_of s ≡ Some stepped.Spent → ⊥
not_spent s ready under h =
    let is : (moves_of s.graph.threads == s.bound) ≡ true = not_spent_so (is_spent s) (limit_of (need_in s) s.graph)
    (ap (λ r. first_refusal r (is_spent s) (limit_of (need_in s) s.graph)) (sym ready) ∙ h) in
    let same : moves_of s.graph.threads ≡ s.bound = eqb-true (moves_of s.graph.threads) s.bound is in
    omega (arith, same, under)
