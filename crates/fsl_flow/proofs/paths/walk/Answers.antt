use Rattle.std.proofs.Common.{arith, ◌≡◌, ◌<◌, List, [], ◌++◌, ap, ◌∙◌}
use Rattle.std.specs.List.{flat_map, list_all}
use Rattle.std.proofs.lemmas.Grind.{common_steps}
use Rattle.fsl_core.specs.Verdicts.{derived, failed, outcome_from}
use Rattle.fsl_flow.specs.Continuation.{continuation_of}
use Rattle.fsl_flow.specs.Pending.{Item, goes_on, over, item_of, stack}
use Rattle.fsl_flow.specs.Paths.{item_ends, is_supported_item}
use Rattle.fsl_flow.proofs.PathsLemmas.{laid_first, popped, top_supported, next_supported, next_same, next_fewer, over_supported, over_fewer, over_counts, too_many, over_fails, all_over}
use Rattle.fsl_flow.proofs.paths.walk.Goals as goal

pub loop-top-init : goal.loop-top-init
loop-top-init c =
    let is : stack c.lay.new.pending ≡ _ = laid_first _ _ c.lay.new.pending c.in_ok-lay.ensures c.new-pending.ensures in
    record {
      few = omega arith;
      supported = ap (list_all is_supported_item) is ∙ c.requires;
      so_far = ap (λ (xs : List Item). outcome_from c.args.job.now.number 0 (flat_map (item_ends c.args.job.now) xs)) is;
    }

pub next-requires : goal.next-requires
next-requires c =
    top_supported c.in-Goes.state (continuation_of c.in-Goes.continuation) (stack c.pop.new.self) (stack c.loop-top.pending)
    (popped c.loop-top.pending c.pop.new.self c.in-Some.top (goes_on c.in-Goes.state (continuation_of c.in-Goes.continuation)) c.in-Some.ensures (ap item_of c.in-Goes.is))
    c.loop-top.invariant.supported

pub loop-top-smaller-in-Continue-branch-3 : goal.loop-top-smaller-in-Continue-branch-3
loop-top-smaller-in-Continue-branch-3 c =
    next_fewer c.args.job.now c.in-Goes.state (continuation_of c.in-Goes.continuation) (stack c.pop.new.self) (stack c.loop-top.pending) (stack c.lay-in-Goes.new.pending)
    (popped c.loop-top.pending c.pop.new.self c.in-Some.top (goes_on c.in-Goes.state (continuation_of c.in-Goes.continuation)) c.in-Some.ensures (ap item_of c.in-Goes.is))
    (c.in_ok-lay-in-Goes.ensures ∙ ap (λ (xs : List Item). xs ++ stack c.pop.new.self) c.in_ok-more-in-Goes.ensures) c.loop-top.invariant.supported

pub loop-top-preserved-in-Continue-branch-3 : goal.loop-top-preserved-in-Continue-branch-3
loop-top-preserved-in-Continue-branch-3 c =
    let top = popped c.loop-top.pending c.pop.new.self c.in-Some.top (goes_on c.in-Goes.state (continuation_of c.in-Goes.continuation)) c.in-Some.ensures (ap item_of c.in-Goes.is) in
    let more : stack c.lay-in-Goes.new.pending ≡ _ = c.in_ok-lay-in-Goes.ensures ∙ ap (λ (xs : List Item). xs ++ stack c.pop.new.self) c.in_ok-more-in-Goes.ensures in
    record {
      few = c.loop-top.invariant.few;
      supported = next_supported c.args.job.now c.in-Goes.state (continuation_of c.in-Goes.continuation) (stack c.pop.new.self) (stack c.loop-top.pending) (stack c.lay-in-Goes.new.pending)
          top more c.loop-top.invariant.supported;
      so_far = ap (outcome_from c.args.job.now.number c.loop-top.count)
          (next_same c.args.job.now c.in-Goes.state (continuation_of c.in-Goes.continuation) (stack c.pop.new.self) (stack c.loop-top.pending) (stack c.lay-in-Goes.new.pending)
          top more) ∙ c.loop-top.invariant.so_far;
    }

pub returns-then-count-eq-MAX_PATHS : goal.returns-then-count-eq-MAX_PATHS
returns-then-count-eq-MAX_PATHS c =
    too_many c.args.job.now c.in-Ends.at (stack c.pop.new.self) (stack c.loop-top.pending) c.loop-top.count _
    (popped c.loop-top.pending c.pop.new.self c.in-Some.top (over (derived c.in-Ends.at)) c.in-Some.ensures (ap item_of c.in-Ends.is))
    c.if-count-eq-MAX_PATHS.true c.loop-top.invariant.so_far

pub loop-top-smaller : goal.loop-top-smaller
loop-top-smaller c =
    over_fewer c.args.job.now (derived c.in-Ends.at) (stack c.pop.new.self) (stack c.loop-top.pending)
    (popped c.loop-top.pending c.pop.new.self c.in-Some.top (over (derived c.in-Ends.at)) c.in-Some.ensures (ap item_of c.in-Ends.is))

pub loop-top-preserved : goal.loop-top-preserved
loop-top-preserved c =
    let top = popped c.loop-top.pending c.pop.new.self c.in-Some.top (over (derived c.in-Ends.at)) c.in-Some.ensures (ap item_of c.in-Ends.is) in
    let few : c.loop-top.count < 65536 = omega arith in
    record {
      few = omega arith;
      supported = over_supported (derived c.in-Ends.at) (stack c.pop.new.self) (stack c.loop-top.pending) top c.loop-top.invariant.supported;
      so_far = over_counts c.args.job.now c.in-Ends.at (stack c.pop.new.self) (stack c.loop-top.pending) c.loop-top.count _ top few c.loop-top.invariant.so_far;
    }

pub returns-in-Fails : goal.returns-in-Fails
returns-in-Fails c =
    over_fails c.args.job.now c.in-Fails.at c.in-Fails.kind (stack c.pop.new.self) (stack c.loop-top.pending) c.loop-top.count _
    (popped c.loop-top.pending c.pop.new.self c.in-Some.top (over (failed c.in-Fails.at c.in-Fails.kind)) c.in-Some.ensures (ap item_of c.in-Fails.is))
    c.loop-top.invariant.so_far

pub returns : goal.returns
returns c =
    let none : c.loop-top.pending ≡ [] = grind (arith, common_steps) in
    all_over c.args.job.now c.loop-top.pending c.loop-top.count _ none c.loop-top.invariant.so_far
