use Rattle.std.proofs.Common.{◌≡◌, [], ◌∷◌, Option, Some, slice_get, ap, ◌∙◌}
use Rattle.fsl_asrt.proofs.AuthorityLemmas.{counted_on, counted_kept, counted_none, counted_fails}
use Rattle.fsl_asrt.proofs.Keeping.{went_is}
use Rattle.fsl_core.specs.logic.States.{goes, fails}
use Rattle.fsl_core.specs.logic.Joining.{assume_count, assume_counts}
use Rattle.fsl_lin.specs.Combination.{Combination}
use Rattle.fsl_asrt.proofs.authority.assume_counts.Goals as goal

pub returns-in-Infeasible : goal.returns-in-Infeasible
returns-in-Infeasible c =
    let g = c.args.bank.now in
    let n = c.args.n.now in
    let cs = c.args.state.chunks in
    let l = c.loop-number in
    let chunk = c.at.result.now in
    let there : slice_get cs l.number ≡ Some chunk = rw l.invariant.same at (rw c.heap-in-loop-number.ensures at c.at.ensures) in
    let none : [] ≡ assume_count c.in_ok-held.held (Some n) l.state = went_is _ _ _ c.in-Infeasible.is c.in_ok-next.ensures in
    counted_none g n cs l.number chunk l.state (assume_counts g n cs c.args.state) there
    (none ∙ ap (λ (k : Option Combination). assume_count k (Some n) l.state) c.in_ok-held.ensures) l.invariant.so_far

pub returns-in-Fails : goal.returns-in-Fails
returns-in-Fails c =
    let g = c.args.bank.now in
    let n = c.args.n.now in
    let cs = c.args.state.chunks in
    let l = c.loop-number in
    let chunk = c.at.result.now in
    let kind = c.in-Fails.kind in
    let there : slice_get cs l.number ≡ Some chunk = rw l.invariant.same at (rw c.heap-in-loop-number.ensures at c.at.ensures) in
    let failed : fails kind ∷ [] ≡ assume_count c.in_ok-held.held (Some n) l.state = went_is _ _ _ c.in-Fails.is c.in_ok-next.ensures in
    counted_fails g n cs l.number chunk l.state kind (assume_counts g n cs c.args.state) there
    (failed ∙ ap (λ (k : Option Combination). assume_count k (Some n) l.state) c.in_ok-held.ensures) l.invariant.so_far

pub loop-number-preserved : goal.loop-number-preserved
loop-number-preserved c =
    let g = c.args.bank.now in
    let n = c.args.n.now in
    let cs = c.args.state.chunks in
    let l = c.loop-number in
    let chunk = c.at.result.now in
    let next = c.in-Goes.next in
    let there : slice_get cs l.number ≡ Some chunk = rw l.invariant.same at (rw c.heap-in-loop-number.ensures at c.at.ensures) in
    let went : goes tt next ∷ [] ≡ assume_count c.in_ok-held.held (Some n) l.state = went_is _ _ _ c.in-Goes.is c.in_ok-next.ensures in
    record {
      same = counted_kept c.in_ok-held.held n l.state next went ∙ l.invariant.same;
      so_far = counted_on g n cs l.number chunk l.state next (assume_counts g n cs c.args.state) there
          (went ∙ ap (λ (k : Option Combination). assume_count k (Some n) l.state) c.in_ok-held.ensures) l.invariant.so_far;
    }
