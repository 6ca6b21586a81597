-- The label of a move, by what it asks and what it is answered.
use Rattle.std.specs.Prelude.{ℤ, ◌+ℤ◌, Option, Some, None, if◌then◌else◌}
use Rattle.std.specs.Ordering.{int_eq}
use Rattle.fsl_core.specs.declared.label.Label.{Label}
use Rattle.fsl_core.specs.declared.label.Label.TheVariants as label
use Rattle.fsl_core.specs.declared.mode.Mode.{Mode}
use Rattle.fsl_core.specs.declared.need.Need.{Need}
use Rattle.fsl_core.specs.declared.need.Need.TheVariants as need
use Rattle.fsl_core.specs.declared.need.Reply.{Reply}
use Rattle.fsl_core.specs.declared.need.Reply.TheVariants as reply
use Rattle.fsl_core.specs.declared.need.RmwOp.{RmwOp}
use Rattle.fsl_core.specs.declared.need.RmwOp.TheVariants as op
use Rattle.fsl_core.specs.Values.{in_range}

-- what a read-modify-write writes that has read v, if it writes
abbrev pub update_of : RmwOp → (v : ℤ) → Option ℤ
update_of (op.Add n) v = in_range (v +ℤ n)
update_of (op.Swap n) v = Some n
update_of (op.Cas old new) v = if int_eq v old then Some new else None

abbrev pub updating : Mode → Mode → (loc v : ℤ) → Option ℤ → Label
updating m fail loc v None = label.Load fail loc v
updating m fail loc v (Some new) = label.Rmw m loc v new

-- none for a local move, and for one that starts threads or waits for them
abbrev pub label_of : Need → Reply → Option Label
label_of (need.Load m l) (reply.Read v) = Some (label.Load m l v)
label_of (need.Rmw m fail l op) (reply.Read v) = Some (updating m fail l v (update_of op v))
label_of (need.Store m l v) r = Some (label.Store m l v)
label_of (need.Alloc k) (reply.Place l) = Some (label.Alloc k l)
label_of (need.Free l) r = Some (label.Free l)
label_of (need.Fence m) r = Some (label.Fence m)
label_of (need.Print v) r = Some (label.Print v)
label_of (need.End v) r = Some (label.End v)
label_of _ r = None
