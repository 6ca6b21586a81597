use Rattle.std.proofs.Common.{arith, ap}
use Rattle.fsl_claim.specs.declared.view.View.{View}
use Rattle.fsl_claim.specs.Claims.{IsPassOf}
use Rattle.fsl_claim.proofs.Gathering.{begins_with, takes_in, all_but_last, one_longer, stands, all_in, ends_least, ends_seen, ends_drawn, ends_none, ends_nowhere}
use Rattle.fsl_claim.proofs.claims.Claims.gather.Goals as goal

pub loop-other-init : goal.loop-other-init
loop-other-init c = let split = all_but_last (IsPassOf c.args.self) _ _ _ c.in-Some.ensures c.requires.of in
    let longer = one_longer _ _ _ c.in-Some.ensures in let one = split.1.one in
    record { one = stands _ _ split.1; others = split.0; all = omega (arith, longer, one); gathers = begins_with _ _ _ c.in-Some.ensures }

pub loop-other-preserved : goal.loop-other-preserved
loop-other-preserved c = let now = c.loop-other.invariant in let split = all_but_last (IsPassOf c.args.self) _ _ _ c.in-Some-pop.ensures now.others in
    let longer = one_longer _ _ _ c.in-Some-pop.ensures in let one = split.1.one in let all = now.all in let more = ap (λ (v : View). v.passes) c.merge.ensures.together in
    record {
      one = c.merge.ensures.of;
      others = split.0;
      all = omega (arith, longer, one, all, more);
      gathers = takes_in _ _ _ c.loop-other.one _ c.merge.new.one now.gathers c.in-Some-pop.ensures c.merge.ensures.together;
    }

pub returns-then-least-self-clause-some : goal.returns-then-least-self-clause-some
returns-then-least-self-clause-some c = (c.if-least-self.true, ends_least _ _ _ _ (all_in _ _ _ c.in_default-pop.ensures.0 c.loop-other.invariant.gathers) c.settle-least.ensures)

pub returns-then-least-self-clause-seen : goal.returns-then-least-self-clause-seen
returns-then-least-self-clause-seen c = ends_seen _ _ _ _ (all_in _ _ _ c.in_default-pop.ensures.0 c.loop-other.invariant.gathers) c.settle-least.ensures

pub returns-then-least-self-clause-drawn : goal.returns-then-least-self-clause-drawn
returns-then-least-self-clause-drawn c = ends_drawn _ _ _ _ (all_in _ _ _ c.in_default-pop.ensures.0 c.loop-other.invariant.gathers) c.settle-least.ensures

pub returns-clause-none : goal.returns-clause-none
returns-clause-none c = ends_none _ _ _ _ (all_in _ _ _ c.in_default-pop.ensures.0 c.loop-other.invariant.gathers) c.settle-least.ensures c.if-least-self.false

pub returns-clause-seen : goal.returns-clause-seen
returns-clause-seen c = ends_seen _ _ _ _ (all_in _ _ _ c.in_default-pop.ensures.0 c.loop-other.invariant.gathers) c.settle-least.ensures

pub returns-clause-drawn : goal.returns-clause-drawn
returns-clause-drawn c = ends_drawn _ _ _ _ (all_in _ _ _ c.in_default-pop.ensures.0 c.loop-other.invariant.gathers) c.settle-least.ensures

pub returns-clause-none_below : goal.returns-clause-none_below
returns-clause-none_below c = ends_nowhere _ _ _ _ (all_in _ _ _ c.in_default-pop.ensures.0 c.loop-other.invariant.gathers) c.settle-least.ensures c.if-least-self.false
