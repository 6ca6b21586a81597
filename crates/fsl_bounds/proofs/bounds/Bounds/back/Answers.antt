use Rattle.fsl_bounds.proofs.Undone.{bounds_undone, marks_undone}
use Rattle.fsl_bounds.proofs.bounds.Bounds.back.Goals as goal

pub invariant_of-self : goal.invariant_of-self
invariant_of-self c = bounds_undone _ _ _ _ _ _ c.self.invariant c.in-Some.ensures.items c.truncate.ensures.items

pub returns : goal.returns
returns c = rw (← c.self.view_is) (marks_undone _ _ _ _ _ c.in-Some.ensures.items c.truncate.ensures.items)
