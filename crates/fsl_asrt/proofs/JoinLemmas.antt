-- A share that joins the chunk of a number joins the cell that was found.
use Rattle.std.proofs.Common.{◌≡◌, List, [], ◌∷◌, Option, Some, None, pos, refl, sym, ap, ◌∙◌, append-nil}
use Rattle.fsl_asrt.specs.declared.cells.FoundCell.{FoundCell}
use Rattle.fsl_asrt.specs.Cells.{cell_of, IsFound, IsFoundBy, put_at, joined_at}
use Rattle.fsl_asrt.proofs.Keeping.{followed_same, fitting_kept, at_most_kept, same_kept}
use Rattle.fsl_core.specs.declared.chunk.Chunk.{Chunk}
use Rattle.fsl_core.specs.declared.chunk.Chunk.TheVariants as chunk
use Rattle.fsl_core.specs.declared.mode.Rung.{Rung}
use Rattle.fsl_core.specs.logic.States.{State, goes, Action, ◌>>=◌, ◌>>◌}
use Rattle.fsl_core.specs.logic.Terms.{fitting}
use Rattle.fsl_core.specs.logic.Deciding.{assume_at_most}
use Rattle.fsl_core.specs.logic.Chunks.{Cell, Found, first, put, add, cell_at, cell_chunk}
use Rattle.fsl_core.specs.logic.Joining.{full, assume_same, known_of, join_cell, add_cell}
use Rattle.fsl_lin.specs.Combination.{Combination, plus}

-- the cell that is joined, by how its chunk is put
abbrev joined_by : (Chunk → Action) → Rung → Cell → Combination → Option Combination → Action
joined_by puts rung x share value = do
  sum ← fitting (plus x.share share)
  assume_at_most sum (pos 0) full
  assume_same x.value value
  puts (chunk.Points rung x.at sum (known_of x.value value))

put_same : (rung : Rung) (s t : State) (f : Found Chunk Cell) (c : FoundCell) (by : Chunk) → IsFound rung s.chunks f c
    → t.chunks ≡ s.chunks → put_at c.number by t ≡ put f by t
put_same rung s t f c by h e =
    ap (λ (cs : List Chunk). goes tt (record t { chunks = cs }) ∷ []) (rw e (h.put by))

pub joined : (rung : Rung) (s : State) (f : Found Chunk Cell) (c : FoundCell) (at share : Combination) (value : Option Combination)
    → IsFound rung s.chunks f c
    → joined_at rung c share value s ≡ join_cell rung (record { at = at; share = share; value = value }) (Some f) s
joined rung s f c at share value h =
    let a : joined_by (put_at c.number) rung (cell_of c) share value s ≡ joined_by (put f) rung (cell_of c) share value s =
    followed_same s (fitting (plus c.share share) s) _ _ (fitting_kept (plus c.share share) s) (λ sum t e.
    followed_same t (assume_at_most sum (pos 0) full t) _ _ (at_most_kept sum (pos 0) full t) (λ _ u k.
    followed_same u (assume_same c.value value u) _ _ (same_kept c.value value u) (λ _ v l.
    put_same rung s v f c (chunk.Points rung c.at sum (known_of c.value value)) h (l ∙ k ∙ e)))) in
    a ∙ ap (λ (x : Cell). joined_by (put f) rung x share value s) h.is

-- ---- the first chunk of a cell, or none

some_by : (rung : Rung) (s : State) (x : Cell) (c : FoundCell) (o : Option (Found Chunk Cell))
    → first (cell_at rung x.at s.facts) s.chunks ≡ o → IsFoundBy rung s.chunks o (Some c)
    → add_cell rung x s ≡ joined_at rung c x.share x.value s
some_by rung s x c None h i = absurd i
some_by rung s x c (Some f) h i =
    rw h (append-nil (join_cell rung x (Some f) s)) ∙ sym (joined rung s f c x.at x.share x.value i)

pub joined_first : (rung : Rung) (s : State) (x : Cell) (c : FoundCell)
    → IsFoundBy rung s.chunks (first (cell_at rung x.at s.facts) s.chunks) (Some c)
    → add_cell rung x s ≡ joined_at rung c x.share x.value s
joined_first rung s x c i = some_by rung s x c (first (cell_at rung x.at s.facts) s.chunks) refl i

none_by : (rung : Rung) (s : State) (x : Cell) (o : Option (Found Chunk Cell))
    → first (cell_at rung x.at s.facts) s.chunks ≡ o → IsFoundBy rung s.chunks o None
    → add_cell rung x s ≡ add (cell_chunk rung x) s
none_by rung s x None h i = rw h (append-nil (add (cell_chunk rung x) s))
none_by rung s x (Some f) h i = absurd i

pub joined_none : (rung : Rung) (s : State) (x : Cell)
    → IsFoundBy rung s.chunks (first (cell_at rung x.at s.facts) s.chunks) None
    → add_cell rung x s ≡ add (cell_chunk rung x) s
joined_none rung s x i = none_by rung s x (first (cell_at rung x.at s.facts) s.chunks) refl i
