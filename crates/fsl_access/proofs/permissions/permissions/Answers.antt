use Rattle.std.proofs.Common.{◌≡◌, Some, slice_get, sym, ◌∙◌}
use Rattle.fsl_access.proofs.PermissionsLemmas.{place_more, place_less}
use Rattle.fsl_access.proofs.permissions.permissions.Goals.{then-is_permission+in_ok-push, else-is_permission}
use Rattle.fsl_access.proofs.permissions.permissions.Goals as goal

pub loop-number-preserved : goal.loop-number-preserved
loop-number-preserved c =
    let facts = c.args.state.now.facts in
    let cs = c.args.state.now.chunks in
    let n = c.loop-number.number in
    let x = c.at.result.now in
    let there : slice_get cs n ≡ Some x = rw c.heap-in-loop-number.ensures at c.at.ensures in
    elim c.if-is_permission.branch [
      | then-is_permission+in_ok-push w ↦
          place_more facts c.args.at.now cs n x c.loop-number.out c.if-is_permission.out _ there (sym c.is_permission.ensures ∙ w.if-is_permission.true)
          (w.out-is ∙ w.in_ok-push.ensures.pushed) c.loop-number.invariant
      | else-is_permission w ↦
          rw w.out-is (place_less facts c.args.at.now cs n x c.loop-number.out _ there (sym c.is_permission.ensures ∙ w.if-is_permission.false) c.loop-number.invariant)
    ]
