use Rattle.std.proofs.Common.{◌≡◌, take}
use Rattle.fsl_core.proofs.copy_assertion.+copy_asrt.Given as goal

abbrev pub invariant-copy_both-loop-part : goal.invariant-copy_both-loop-part
invariant-copy_both-loop-part l = l.copies ≡ take l.part-index l.parts
