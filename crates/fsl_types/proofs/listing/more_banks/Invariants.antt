use Rattle.std.proofs.Common.{◌≡◌, ◌++◌, map, drop}
use Rattle.fsl_types.specs.Programs.{is_bank, next_parameter}
use Rattle.fsl_types.proofs.listing.more_banks.Given as goal

abbrev pub invariant-loop-next : goal.invariant-loop-next
invariant-loop-next l =
    l.banks ++ map is_bank (map next_parameter (drop l.next-index l.more)) ≡ l.fn.so_far ++ map is_bank (map next_parameter l.more)
