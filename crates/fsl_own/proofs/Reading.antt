-- What a thread knows of happened before its next event, so the laws of reads hold for it.
use Rattle.std.proofs.Common.{ℕ, inl, inr, ◌∷◌, subst, sym}
use Rattle.fsl_graph.specs.Positions.{Position}
use Rattle.fsl_graph.specs.Positions.{Holder as holder}
use Rattle.fsl_graph.proofs.Reading.{read_sees_last, write_is_last}
use Rattle.fsl_own.specs.Reading.{KnownIsRead, KnownIsOverwritten}
use Rattle.fsl_own.proofs.Knowing.{known_before, own_event_known, positions_grow}

pub known_is_read : KnownIsRead
known_is_read g c done e x m l v comes r w k =
    read_sees_last g c done e x m l v comes r w (λ u n z i h. known_before g done e x u comes (k u n z i h))

pub known_is_overwritten : KnownIsOverwritten
known_is_overwritten g c done e x m l v comes w k = (
  write_is_last g c done e m l v w (λ u n z i h. known_before g done e x u comes (k u n z i h)),
  (λ u n z i h. elim i [
    | inl s ↦ subst (λ (a : ℕ). Position g (e ∷ done) (holder.Plain x.thread) a) (sym s) (own_event_known g done e x comes)
    | inr j ↦ positions_grow g done e (holder.Plain x.thread) u (k u n z j h)
  ]),
)
