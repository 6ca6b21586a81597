use Rattle.std.proofs.Common.{ℕ, ◌≤◌, ◌^◌, sym, subst}
use Rattle.fsl_mem.proofs.SlotsLemmas.{end_bounded}
use Rattle.fsl_mem.proofs.memory.Memory.room_after.Goals as goal

pub after-requires : goal.after-requires
after-requires c =
    subst (λ (n : ℕ). n ≤ 2 ^ 63) (sym c.end_of.ensures)
    (end_bounded c.args.self.now.messages c.args.loc c.args.source.now c.requires.bounded c.requires.source)
