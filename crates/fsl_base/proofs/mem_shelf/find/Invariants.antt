use Rattle.std.proofs.Common.{◌≡◌, drop}
use Rattle.fsl_base.specs.Stock.{held}
use Rattle.fsl_base.proofs.mem_shelf.find.Given as goal

-- the files before this one have other names
abbrev pub invariant-loop-number : goal.invariant-loop-number
invariant-loop-number l = held (drop l.number l.files) l.name ≡ held l.files l.name
